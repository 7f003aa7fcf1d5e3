-- The whole header: its parts one after the other, and what each leaves for its arrays.
use Prim.Native.Nat.{ℕ}
use mathlib.Core.Path.{◌≡◌, sym, ◌∙◌, ap}
use mathlib.Core.Bool.{true, not, ◌&&◌}
use mathlib.Core.List.{List}
use lib.Dec.{eqb}
use lib.ListN.{get_or}
use Rattle.bits.specs.declared.Read.{Read}
use Rattle.bits.specs.declared.Cursor.{Cursor}
use Rattle.bits.specs.Refusals.{start}
use Rattle.bits.specs.Codec.{Codec, u, u32}
use Rattle.bits.specs.Table.{Table, read, bind, within, times}
use Rattle.bits.specs.Extensions.{extensions}
use Rattle.bits.proofs.Tables.{read_within}
use Rattle.bits.proofs.Columns.{times_any}
use Rattle.filter.specs.Filter.{restoration}
use Rattle.header.specs.declared.Facts.{Facts}
use Rattle.header.specs.declared.opening.Opening.{Opening}
use Rattle.header.specs.declared.shape.Scales.{Scales}
use Rattle.header.specs.declared.shape.Passes.{Passes}
use Rattle.filter.specs.declared.RestorationFilter.{RestorationFilter}
use Rattle.header.specs.declared.closing.Closing.{Closing}
use Rattle.header.specs.declared.shape.Placement.{Placement}
use Rattle.header.specs.declared.blending.Blending.{Blending}
use Rattle.header.specs.Arrays.{array}
use Rattle.header.specs.Private.{Arrayed, extras, Extras, Fronted, Backed}
use Rattle.header.specs.Opening.{opening, upsamplings}
use Rattle.header.specs.Shape.{passes, scales, placement}
use Rattle.header.specs.Blending.{covers_image, resets, by_own, source_decider, blending}
use Rattle.header.specs.Closing.{closing}
use Rattle.header.specs.Header.{Header, Begun, Ended, sent_upsampling, sends_blending, front, back}
use Rattle.header.proofs.Walks.{array_any, read_then}

-- a bundle inside another, then another
pub then_within : {R S A B : Type 0} (g : R → S) (t : Table S A) (f : A → Table R B) (s : List ℕ) (c : Cursor) (o : Read A) → o ≡ read t s c
    → read (bind (within g t) f) s c ≡ read (f o.value) s o.next
then_within g t f s c o e = read_then (within g t) f s c o (e ∙ sym (read_within g t s c))

-- an array that a walk passed over
pub array_passed : {R : Type 0} (k : Codec) (limit count d : ℕ) (col : R → ℕ → ℕ) (s : List ℕ) (c r : Cursor) (before after : List ℕ) → Arrayed k limit count d s c r before after
    → ◌≡◌ {A = Read (List ℕ)} (record { value = (read (array k limit count d (λ (x : List ℕ) (i : ℕ). 0)) s c).value; next = r }) (read (array k limit count d col) s c)
array_passed k limit count d col s c r before after a = rw a.next (array_any k limit d (λ (x : List ℕ) (i : ℕ). 0) col count 0 s c)

-- extra channels read the same wherever their numbers stand
pub channels_any : {R : Type 0} (g : ℕ → R → Blending) (t : Table Blending Blending) (n i : ℕ) (s : List ℕ) (c : Cursor)
    → read (times n i (λ j. within (g j) t)) s c ≡ read (times n i (λ j. t)) s c
channels_any g t n i s c = times_any (λ j. within (g j) t) (λ j. t) s (λ j at. read_within (g j) t s at) n i c

pub front_law : (s : List ℕ) (f : Facts) (b : Cursor) (a : Read Opening) (y : Cursor) (w w' : List ℕ) (q : Read Scales) (p : Read Passes) (c : Read Placement)
    → b ≡ start 0
    → a ≡ (read (opening f) s b)
    → Arrayed (u32 upsamplings) (sent_upsampling f a.value) f.extra 1 s a.next y w w'
    → q ≡ (read (scales f a.value) s y)
    → p ≡ (read (passes (eqb a.value.all_default 0 && not (eqb a.value.frame_type 2))) s q.next)
    → c ≡ (read (placement f a.value) s p.next)
    → Fronted f s (record {
      value = record { opening = a.value; scales = q.value; passes = p.value; placement = c.value };
      upsampling_at = a.next;
      next = c.next;
    }) w w'
unfolding front read
front_law s f b a y w w' q p c pb pa pu pq pp pc =
    let ups = (read (array (u32 upsamplings) (sent_upsampling f a.value) f.extra 1 (λ (x : List ℕ) (i : ℕ). 0)) s a.next).value in
    let is : read (front f) s (start 0)
    ≡ record { value = record { front = record { opening = a.value; scales = q.value; passes = p.value; placement = c.value }; upsampling = ups }; next = c.next } =
    then_within (λ h. h.front.opening) (opening f) _ s (start 0) (record { value = a.value; next = a.next }) (ap (λ (r : Read Opening). record { value = r.value; next = r.next }) (rw pb at pa))
    ∙ read_then (array (u32 upsamplings) (sent_upsampling f a.value) f.extra 1 (λ h i. get_or h.upsampling i 1)) _ s a.next (record { value = ups; next = y })
    (array_passed (u32 upsamplings) (sent_upsampling f a.value) f.extra 1 (λ (h : Header) (i : ℕ). get_or h.upsampling i 1) s a.next y w w' pu)
    ∙ then_within (λ h. h.front.scales) (scales f a.value) _ s y (record { value = q.value; next = q.next }) (ap (λ (r : Read Scales). record { value = r.value; next = r.next }) pq)
    ∙ then_within (λ h. h.front.passes) (passes (eqb a.value.all_default 0 && not (eqb a.value.frame_type 2))) _ s q.next (record { value = p.value; next = p.next })
    (ap (λ (r : Read Passes). record { value = r.value; next = r.next }) pp)
    ∙ then_within (λ h. h.front.placement) (placement f a.value) _ s p.next (record { value = c.value; next = c.next }) (ap (λ (r : Read Placement). record { value = r.value; next = r.next }) pc) in
    record { upsampling_at = ap (λ (r : Read Opening). r.next) (rw pb at pa); value = ap (λ (o : Read Begun). o.value.front) is; upsampling = ap (λ (o : Read Begun). o.value.upsampling) is; next = ap (λ (o : Read Begun). o.next) is; table = pu.words }

pub back_law : (s : List ℕ) (c : Cursor) (f : Facts) (o : Opening) (p : Placement) (b : Read Blending) (x : Cursor) (w w' : List ℕ) (e : Read Closing) (n : Cursor) (r : Read RestorationFilter) (z : Cursor)
    → b ≡ (read (blending (sends_blending o) (not (eqb f.extra 0)) (covers_image f p) by_own) s c)
    → Extras (sends_blending o) f.extra (covers_image f p) (source_decider f b.value.mode) s b.next x w w'
    → e ≡ (read (closing f o (resets b.value.mode (covers_image f p))) s x)
    → n ≡ (read (array (u 8) e.value.name_length e.value.name_length 0 (λ (x : List ℕ) (i : ℕ). 0)) s e.next).next
    → r ≡ (read (restoration (eqb o.all_default 0) (eqb o.encoding 1)) s n)
    → z ≡ (read (extensions (eqb o.all_default 0)) s r.next).next
    → Backed f o p s c (record {
      value = record { blending = b.value; closing = e.value; filter = r.value };
      blending_at = b.next;
      name_at = e.next;
      next = z;
    }) w w'
unfolding back read
back_law s c f o p b x w w' e n r z pb px pe pn pr pz =
    let full = covers_image f p in
    let on = eqb o.all_default 0 in
    let m = b.value.mode in
    let k = e.value.name_length in
    let channels = (read (extras (sends_blending o) f.extra full (source_decider f m)) s b.next).value in
    let name = (read (array (u 8) k k 0 (λ (x : List ℕ) (i : ℕ). 0)) s e.next).value in
    let ex = read (extensions on) s r.next in
    let is : read (back f o p) s c ≡ record { value = record { back = record { blending = b.value; closing = e.value; filter = r.value }; blending = channels; name = name }; next = z } =
    then_within (λ h. h.back.blending) (blending (sends_blending o) (not (eqb f.extra 0)) full by_own) _ s c (record { value = b.value; next = b.next })
    (ap (λ (y : Read Blending). record { value = y.value; next = y.next }) pb)
    ∙ read_then (times f.extra 0 λ i. within (λ (h : Header). get_or h.blending i _) (blending (sends_blending o) true full (source_decider f m))) _ s b.next (record { value = channels; next = x })
    (rw px.next (sym (channels_any (λ i (h : Header). get_or h.blending i _) (blending (sends_blending o) true full (source_decider f m)) f.extra 0 s b.next)))
    ∙ then_within (λ h. h.back.closing) (closing f o (resets m full)) _ s x (record { value = e.value; next = e.next }) (ap (λ (y : Read Closing). record { value = y.value; next = y.next }) pe)
    ∙ read_then (array (u 8) k k 0 (λ h i. get_or h.name i 0)) _ s e.next (record { value = name; next = n })
    (rw pn (array_any (u 8) k 0 (λ (x : List ℕ) (i : ℕ). 0) (λ (h : Header) (i : ℕ). get_or h.name i 0) k 0 s e.next))
    ∙ then_within (λ h. h.back.filter) (restoration on (eqb o.encoding 1)) _ s n (record { value = r.value; next = r.next }) (ap (λ (y : Read RestorationFilter). record { value = y.value; next = y.next }) pr)
    ∙ then_within (λ h. tt) (extensions on) _ s r.next (record { value = ex.value; next = z }) (rw pz) in
    record {
      blending_at = ap (λ (y : Read Blending). y.next) pb;
      name_at = ap (λ (y : Read Closing). y.next) pe ∙ rw px.next;
      value = ap (λ (y : Read Ended). y.value.back) is;
      blending = ap (λ (y : Read Ended). y.value.blending) is;
      name = ap (λ (y : Read Ended). y.value.name) is;
      next = ap (λ (y : Read Ended). y.next) is;
      table = px.content;
    }
