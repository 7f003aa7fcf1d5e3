-- One law a bundle: the answers of its calls, one after the other, are the reading of its table.
use Prim.Native.Nat.{ℕ, ◌+◌, ◌-◌, ◌<◌, ◌^◌}
use mathlib.Core.Path.{◌≡◌, refl, sym, ◌∙◌, ap}
use mathlib.Core.List.{List}
use mathlib.Core.Bool.{Bool, true, false, not, ◌&&◌, ◌||◌}
use lib.Dec.{eqb}
use lib.Pow.{pow_pos}
use lib.ListN.{length, get_or}
use native.Mathlib.Omega.{arith}
use borrow.Author.Tests.{not-true}
use Rattle.std.specs.Int.{from_bool}
use Rattle.bits.specs.declared.Read.{Read}
use Rattle.bits.specs.declared.Cursor.{Cursor}
use Rattle.bits.specs.declared.window.Ahead.{Ahead}
use Rattle.bits.specs.Refusals.{pick, start, clear}
use Rattle.bits.specs.Bits.{ahead as ahead_of}
use Rattle.bits.specs.Codec.{u, bool, u32, cases, u64, field}
use Rattle.bits.specs.Table.{ends, read, bind}
use Rattle.bits.proofs.Reading.{field_lt}
use Rattle.bits.proofs.Steps.{field_place}
use Rattle.bits.proofs.Codecs.{bool_is, case_known}
use Rattle.header.specs.declared.Facts.{Facts}
use Rattle.header.specs.declared.opening.Opening.{Opening}
use Rattle.header.specs.declared.shape.Scales.{Scales}
use Rattle.header.specs.declared.shape.Placement.{Placement}
use Rattle.header.specs.declared.blending.Blending.{Blending}
use Rattle.header.specs.declared.blending.Decider.{Decider}
use Rattle.header.specs.declared.closing.Closing.{Closing}
use Rattle.bits.specs.declared.view.View.{View}
use Rattle.bits.specs.declared.view.Seen.{Seen}
use Rattle.bits.specs.View.{seen}
use Rattle.header.specs.Private.{seen_small, Arrayed}
use Rattle.types.specs.Types.{flagged}
use Rattle.header.specs.Opening.{opening, upsamplings}
use Rattle.header.specs.declared.shape.Passes.{Passes}
use Rattle.header.specs.Arrays.{array}
use Rattle.header.specs.Shape.{places, pass_counts, downsamples, last_passes, passes, scales, placement}
use Rattle.header.proofs.Walks.{array_out, read_then, busy}
use Rattle.bits.proofs.Views.{Held, held_ahead, field_of, see_is}
use Rattle.header.proofs.Known.{see_small}
use Rattle.header.specs.Blending.{modes, alphas, has_source, blending}
use Rattle.header.specs.Closing.{durations, name_lengths, closing}

-- a field of n bits is below 2 ^ n, asked for or not
pub bits_below : (s : List ℕ) (on : Bool) (n : ℕ) (c : Cursor) (f : Read ℕ) → f ≡ field s on (u n) 0 c → f.value < 2 ^ n
unfolding field
bits_below s true n c f e = rw e (field_lt s n c)
bits_below s false n c f e = rw e (pow_pos n)

pub opening_law : (s : List ℕ) (c : Cursor) (f : Facts) (all kind enc : Read ℕ) (fl : Read ℕ) (yc j0 j1 j2 up : Read ℕ)
    → all ≡ field s true bool 1 c
    → kind ≡ field s (eqb all.value 0) (u 2) 0 all.next
    → enc ≡ field s (eqb all.value 0) (u 1) 0 kind.next
    → fl ≡ (field s (eqb all.value 0) u64 0 enc.next)
    → yc ≡ field s (eqb all.value 0 && not f.xyb) bool 0 fl.next
    → j0 ≡ field s (eqb yc.value 1 && not (flagged 32 fl.value)) (u 2) 0 yc.next
    → j1 ≡ field s (eqb yc.value 1 && not (flagged 32 fl.value)) (u 2) 0 j0.next
    → j2 ≡ field s (eqb yc.value 1 && not (flagged 32 fl.value)) (u 2) 0 j1.next
    → up ≡ field s (eqb all.value 0 && not (flagged 32 fl.value)) (u32 upsamplings) 1 j2.next
    → ◌≡◌ {A = Read Opening} (record {
      value = record {
        all_default = all.value;
        frame_type = kind.value;
        encoding = enc.value;
        flags = fl.value;
        do_ycbcr = yc.value;
        jpeg0 = j0.value;
        jpeg1 = j1.value;
        jpeg2 = j2.value;
        upsampling = up.value;
      };
      next = up.next;
    }) (read (opening f) s c)
unfolding opening read
opening_law s c f all kind enc fl yc j0 j1 j2 up p1 p2 p3 p4 p5 p6 p7 p8 p9 =
    let v : fl.value ≡ (field s (eqb all.value 0) u64 0 enc.next).value = ap (λ (w : Read ℕ). w.value) p4 in
    let n : fl.next ≡ (field s (eqb all.value 0) u64 0 enc.next).next = ap (λ (w : Read ℕ). w.next) p4 in
    rw (← p1, ← p2, ← p3, ← v, ← n, ← p5, ← p6, ← p7, ← p8, ← p9)

pub scales_law : (s : List ℕ) (c : Cursor) (f : Facts) (o : Opening) (w : Bool) (d : ℕ) (shift x b : Read ℕ)
    → w ≡ (f.xyb && eqb o.encoding 0) → d ≡ pick w 3 2
    → shift ≡ field s (eqb o.encoding 1) (u 2) 1 c
    → x ≡ field s (eqb o.all_default 0 && w) (u 3) d shift.next
    → b ≡ field s (eqb o.all_default 0 && w) (u 3) 2 x.next
    → ◌≡◌ {A = Read Scales} (record { value = record { group_size_shift = shift.value; x_qm_scale = x.value; b_qm_scale = b.value }; next = b.next }) (read (scales f o) s c)
unfolding scales read
scales_law s c f o w d shift x b pw pd p1 p2 p3 = rw (← pw, ← pd, ← p1, ← p2, ← p3)

pub placement_law : (s : List ℕ) (c : Cursor) (f : Facts) (o : Opening) (level cropped x y w h : Read ℕ) (l : ℕ)
    → level ≡ field s (eqb o.frame_type 1) (u 2) 0 c
    → l ≡ pick (eqb o.frame_type 1) (level.value + 1) 0
    → cropped ≡ field s (eqb o.all_default 0 && not (eqb o.frame_type 1)) bool 0 level.next
    → x ≡ field s (eqb cropped.value 1 && not (eqb o.frame_type 2)) (u32 places) 0 cropped.next
    → y ≡ field s (eqb cropped.value 1 && not (eqb o.frame_type 2)) (u32 places) 0 x.next
    → w ≡ field s (eqb cropped.value 1) (u32 places) f.width y.next
    → h ≡ field s (eqb cropped.value 1) (u32 places) f.height w.next
    → ◌≡◌ {A = Read Placement} (record { value = record { lf_level = l; have_crop = cropped.value; x0 = x.value; y0 = y.value; width = w.value; height = h.value }; next = h.next }) (read (placement f o) s c)
unfolding placement read
placement_law s c f o level cropped x y w h l p1 pl p2 p3 p4 p5 p6 = rw (← p1, ← pl, ← p2, ← p3, ← p4, ← p5, ← p6)

pub blending_law : (s : List ℕ) (c : Cursor) (on extra full : Bool) (d : Decider) (m a k x : Read ℕ) (has : Bool)
    → m ≡ field s on (cases modes 5) 0 c
    → a ≡ field s (extra && (eqb m.value 2 || eqb m.value 3)) (u32 alphas) 0 m.next
    → k ≡ field s ((extra && (eqb m.value 2 || eqb m.value 3)) || eqb m.value 4) bool 0 a.next
    → has ≡ has_source d m.value full
    → x ≡ field s (on && has) (u 2) 0 k.next
    → ◌≡◌ {A = Read Blending} (record { value = record { mode = m.value; alpha_channel = a.value; clamp = k.value; source = x.value }; next = x.next }) (read (blending on extra full d) s c)
unfolding blending read
blending_law s c on extra full d m a k x has p1 p2 p3 ph p4 = rw (← p1, ← p2, ← p3, ← ph, ← p4)

-- the same out of one look ahead, which holds twelve bits: each field is cut off what the one before left
module _ (s : List ℕ) (p : ℕ) (ahead : Ahead) (ea : ahead ≡ ahead_of s p) (whole : ahead.whole ≡ true) where
  abbrev first : View
  first = record { bits = ahead.bits; at = p }

  pub held_first : Held s first 12
  held_first = held_ahead s p 12 ahead ea whole (omega arith)

  module _ (m : Seen) (em : m ≡ seen_small first true 2) where
    pub held_mode : Held s m.rest 8
    held_mode = (see_small s first true 2 8 (omega arith) held_first m em).1

    module _ (alpha : Bool) (a : Seen) (eα : a ≡ seen_small m.rest alpha 3) where
      pub held_alpha : Held s a.rest 3
      held_alpha = (see_small s m.rest alpha 3 3 (omega arith) held_mode a eα).1

      module _ (clamped : Bool) (k : Seen) (ek : k ≡ seen a.rest clamped 1) where
        pub held_clamp : Held s k.rest 2
        held_clamp = (see_is s a.rest clamped 1 2 (omega arith) held_alpha k ek).1

        pub blending_seen : (c : Cursor) (on extra full : Bool) (d : Decider) (i : Bool) → i ≡ not (on && clear c) → not i ≡ true → p ≡ c.at → m.value < 5
            → (two : Bool) → two ≡ (eqb m.value 2 || eqb m.value 3) → alpha ≡ (extra && two) → clamped ≡ (alpha || eqb m.value 4)
            → (has : Bool) → has ≡ has_source d m.value full → (x : Seen) → x ≡ seen k.rest has 2 → (b : Cursor) → b ≡ start x.rest.at
            → ◌≡◌ {A = Read Blending} (record { value = record { mode = m.value; alpha_channel = a.value; clamp = k.value; source = x.value }; next = b }) (read (blending on extra full d) s c)
        blending_seen c on extra full d i ei go ep known two et eα' ec has eh x ex b eb =
            let stays : i ≡ false = not-true i go in
            let both = busy on (clear c) (sym ei ∙ stays) in
            let mode : field_of m ≡ field s true (u32 modes) 0 c = (see_small s first true 2 8 (omega arith) held_first m em).0 ∙ rw ep (field_place s true (u32 modes) 0 c i (rw both.0 at ei) stays) in
            rw eb (blending_law s c on extra full d (field_of m) (field_of a) (field_of k) (field_of x) has
            (case_known s on modes 5 0 c i ei stays (field_of m) mode refl known)
            ((see_small s m.rest alpha 3 3 (omega arith) held_mode a eα).0 ∙ rw (eα', et))
            ((see_is s a.rest clamped 1 2 (omega arith) held_alpha k ek).0 ∙ bool_is s clamped 0 (start a.rest.at) ∙ rw (ec, eα', et))
            eh
            ((see_is s k.rest has 2 0 (omega arith) held_clamp x ex).0 ∙ rw both.0))

-- a Bool as a number
pub one_if : (b : Bool) → from_bool b ≡ pick b 1 0
one_if true = refl
one_if false = refl

pub one_unless : (b : Bool) → from_bool (not b) ≡ pick b 0 1
one_unless true = refl
one_unless false = refl

pub closing_law : (s : List ℕ) (c : Cursor) (f : Facts) (o : Opening) (resets : Bool) (duration timecode last reference ct name : Read ℕ) (d e : ℕ)
    → duration ≡ field s ((eqb o.all_default 0 && (eqb o.frame_type 0 || eqb o.frame_type 3)) && f.animation) (u32 durations) 0 c
    → timecode ≡ field s ((eqb o.all_default 0 && (eqb o.frame_type 0 || eqb o.frame_type 3)) && (f.animation && f.timecodes)) (u 32) 0 duration.next
    → d ≡ pick (eqb o.frame_type 0) 1 0
    → last ≡ field s (eqb o.all_default 0 && (eqb o.frame_type 0 || eqb o.frame_type 3)) bool d timecode.next
    → reference ≡ field s (eqb o.all_default 0 && (not (eqb o.frame_type 1) && eqb last.value 0)) (u 2) 0 last.next
    → e ≡ pick (eqb o.frame_type 0 || eqb o.frame_type 3) 0 1
    → ct ≡ field s (eqb o.all_default 0 && (eqb o.frame_type 2
    || (resets && ((not (eqb o.frame_type 1) && eqb last.value 0) && (eqb duration.value 0 || not (eqb reference.value 0)))))) bool e reference.next
    → name ≡ field s (eqb o.all_default 0) (u32 name_lengths) 0 ct.next
    → ◌≡◌ {A = Read Closing} (record {
      value = record {
        duration = duration.value;
        timecode = timecode.value;
        is_last = last.value;
        save_as_reference = reference.value;
        save_before_ct = ct.value;
        name_length = name.value;
      };
      next = name.next;
    }) (read (closing f o resets) s c)
unfolding closing read
closing_law s c f o resets duration timecode last reference ct name d e p1 p2 pd p3 p4 pe p5 p6 = rw (← p1, ← p2, ← pd, ← p3, ← p4, ← pe, ← p5, ← p6)

col_s : Passes → ℕ → ℕ
col_s r i = get_or r.shift i 0

col_d : Passes → ℕ → ℕ
col_d r i = get_or r.downsample i 0

col_l : Passes → ℕ → ℕ
col_l r i = get_or r.last_pass i 0

-- what is left to read after the two counts
passes_from : List ℕ → Bool → Read ℕ → Read ℕ → Read Passes
passes_from s on n ds =
    read (
    bind (array (u 2) (n.value - 1) 10 0 col_s) λ shift.
    bind (array (u32 upsamplings) ds.value 4 0 col_d) λ downsample.
    bind (array (u32 last_passes) ds.value 4 0 col_l) λ last.
    ends (record { num_passes = n.value; num_ds = ds.value; shift = shift; downsample = downsample; last_pass = last })
    ) s ds.next

pub passes_law : (s : List ℕ) (c : Cursor) (on : Bool) (n ds : Read ℕ) (k : ℕ) (a b e : Cursor) (zs zd zl shift downsample last : List ℕ)
    → n ≡ field s on (u32 pass_counts) 1 c
    → ds ≡ field s (not (eqb n.value 1)) (u32 downsamples) 0 n.next
    → k ≡ n.value - 1
    → length zs ≡ 10 → length zd ≡ 4 → length zl ≡ 4
    → Arrayed (u 2) k 10 0 s ds.next a zs shift
    → Arrayed (u32 upsamplings) ds.value 4 0 s a b zd downsample
    → Arrayed (u32 last_passes) ds.value 4 0 s b e zl last
    → ◌≡◌ {A = Read Passes} (record {
      value = record { num_passes = n.value; num_ds = ds.value; shift = shift; downsample = downsample; last_pass = last };
      next = e;
    }) (read (passes on) s c)
unfolding passes read passes_from col_s col_d col_l
passes_law s c on n ds k a b e zs zd zl shift downsample last p1 p2 pk hs hd hl ws wd wl =
    sym (
    ap (λ (f : Read ℕ). passes_from s on f (field s (not (eqb f.value 1)) (u32 downsamples) 0 f.next)) (sym p1)
    ∙ ap (λ (f : Read ℕ). passes_from s on n f) (sym p2)
    ∙ read_then (array (u 2) (n.value - 1) 10 0 col_s) _ s ds.next (record { value = shift; next = a })
    (array_out (u 2) (n.value - 1) 10 0 col_s s ds.next a zs shift (rw pk at ws) hs)
    ∙ read_then (array (u32 upsamplings) ds.value 4 0 col_d) _ s a (record { value = downsample; next = b }) (array_out (u32 upsamplings) ds.value 4 0 col_d s a b zd downsample wd hd)
    ∙ read_then (array (u32 last_passes) ds.value 4 0 col_l) _ s b (record { value = last; next = e }) (array_out (u32 last_passes) ds.value 4 0 col_l s b e zl last wl hl)
    )
