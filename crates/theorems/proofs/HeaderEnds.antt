-- The header: 2, 1, 3, then 4, 5, 6 and 7 in reading order, at a place within the input; beside a refusal the zero record, and the lent buffers as
-- they were.
use Prim.Native.Nat.{ℕ}
use native.Mathlib.Omega.{arith}
use mathlib.Core.Path.{◌≡◌, refl, ◌∙◌, ap}
use mathlib.Core.List.{List}
use mathlib.Core.Bool.{Bool, true, false}
use lib.Dec.{eqb, ltb}
use lib.ListN.{length}
use Rattle.std.specs.Prelude.{Result}
use Rattle.bits.specs.declared.Refusal.{Refusal}
use Rattle.bits.specs.Refusals.{pick, refusal, none}
use Rattle.bits.specs.Bits.{bit_count}
use Rattle.bits.specs.Codec.{Codec}
use Rattle.bits.proofs.Reading.{of_both}
use Rattle.filter.specs.Filter.{restoration}
use Rattle.header.specs.declared.Facts.{Facts}
use Rattle.header.specs.declared.opening.Opening.{Opening}
use Rattle.header.specs.declared.shape.Placement.{Placement}
use Rattle.header.specs.declared.blending.Decider.{Decider}
use Rattle.header.specs.declared.entry.HeaderRead.{HeaderRead}
use Rattle.header.specs.Arrays.{element, array}
use Rattle.header.specs.Opening.{opening}
use Rattle.header.specs.Shape.{passes, scales, placement}
use Rattle.header.specs.Blending.{blending, words}
use Rattle.header.specs.Closing.{closing}
use Rattle.header.specs.Header.{front, back, header}
use Rattle.header.specs.Record.{zero_header}
use Rattle.header.proofs.Entering.{headed_number}
use Rattle.header.specs.Entry.{bad_facts, no_room, judged, stands, refusal_of, HeaderTold, told, refused_header, answered, buffer_after, Headed}
use Rattle.order.proofs.Entries.{split}
use Rattle.theorems.specs.Refusing.{Refuses, Ends, header_said, of_facts, of_header, of_filter}
use Rattle.theorems.proofs.Refusing.{holds, refuses_none, refuses_here, refuses_pick, refuses_more}
use Rattle.theorems.proofs.Readers.{Own, own_of, own_bind, own_within, own_inside, own_times, own_extensions, own_more, read_refuses}
use Rattle.theorems.proofs.ReaderEnds.{own_restoration}

-- ---- before anything is read

pub judge_header : (n : ℕ) (f : Facts) (name upsampling blending : ℕ) → Refuses of_facts 0 (judged n f name upsampling blending)
unfolding judged
judge_header n f name upsampling blending =
    let last : Refusal = pick (no_room f name upsampling blending) (refusal 3 0) none in
    refuses_pick of_facts 0 (ltb 16777216 n) (refusal 2 0) (pick (bad_facts f) (refusal 1 0) last) (refuses_here of_facts 2 refl refl)
    (refuses_pick of_facts 0 (bad_facts f) (refusal 1 0) last (refuses_here of_facts 1 refl refl)
    (refuses_pick of_facts 0 (no_room f name upsampling blending) (refusal 3 0) none (refuses_here of_facts 3 refl refl) (refuses_none of_facts 0 refl)))

-- ---- the header's tables

own_opening : (f : Facts) → Own of_header (opening f)
unfolding opening Own
own_opening f =
    (refl, λ all. (refl, λ kind. (refl, λ encoding. (refl, λ flags. (refl, λ ycbcr. (refl, λ j0. (refl, λ j1. (refl, λ j2. (refl, λ up. tt)))))))))

own_array : {R : Type 0} (k : Codec) (limit count d : ℕ) (col : R → ℕ → ℕ) → holds of_header (own_of k) ≡ true
    → Own of_header (array k limit count d col)
unfolding element Own
own_array k limit count d col h = own_times of_header count 0 (element k limit d col) (λ i. (h, λ v. tt))

own_scales : (f : Facts) (o : Opening) → Own of_header (scales f o)
unfolding scales Own
own_scales f o = (refl, λ shift. (refl, λ x. (refl, λ b. tt)))

own_passes : (on : Bool) → Own of_header (passes on)
unfolding passes Own
own_passes on = (
  refl,
  λ n. (
    refl,
    λ ds.
        own_bind of_header _ _ (own_array _ _ 10 0 _ refl) (λ shift.
        own_bind of_header _ _ (own_array _ _ 4 0 _ refl) (λ downsample.
        own_bind of_header _ _ (own_array _ _ 4 0 _ refl) (λ last. tt))),
  ),
)

own_placement : (f : Facts) (o : Opening) → Own of_header (placement f o)
unfolding placement Own
own_placement f o = (refl, λ level. (refl, λ cropped. (refl, λ x. (refl, λ y. (refl, λ w. (refl, λ h. tt))))))

own_blending : (on extra full : Bool) (d : Decider) → Own of_header (blending on extra full d)
unfolding blending Own
own_blending on extra full d = (refl, λ m. (refl, λ a. (refl, λ k. (refl, λ x. tt))))

own_closing : (f : Facts) (o : Opening) (resets : Bool) → Own of_header (closing f o resets)
unfolding closing Own
own_closing f o resets = (refl, λ duration. (refl, λ timecode. (refl, λ last. (refl, λ reference. (refl, λ ct. (refl, λ name. tt))))))

own_filter : (on modular : Bool) → Own of_header (restoration on modular)
own_filter on modular = own_more of_header of_filter refl (restoration on modular) (own_restoration on modular)

own_front : (f : Facts) → Own of_header (front f)
unfolding front Own
own_front f =
    own_inside of_header _ _ _ (own_opening f) (λ o.
    own_bind of_header _ _ (own_array _ _ _ 1 _ refl) (λ ups.
    own_inside of_header _ _ _ (own_scales f o) (λ q.
    own_inside of_header _ _ _ (own_passes _) (λ p.
    own_inside of_header _ _ _ (own_placement f o) (λ c. tt)))))

own_back : (f : Facts) (o : Opening) (p : Placement) → Own of_header (back f o p)
unfolding back Own
own_back f o p =
    own_inside of_header _ _ _ (own_blending _ _ _ _) (λ colour.
    own_bind of_header _ _ (own_times of_header f.extra 0 _ (λ i. own_within of_header _ _ (own_blending _ true _ _))) (λ channels.
    own_inside of_header _ _ _ (own_closing f o _) (λ e.
    own_bind of_header _ _ (own_array _ _ _ 0 _ refl) (λ name.
    own_inside of_header _ _ _ (own_filter _ _) (λ filter.
    own_inside of_header _ _ _ (own_extensions of_header refl _) (λ skipped. tt))))))

own_header : (f : Facts) → Own of_header (header f)
unfolding header Own
own_header f =
    own_bind of_header _ _ (own_front f) (λ b.
    own_bind of_header _ _ (own_back f b.front.opening b.front.placement) (λ e. tt))

-- ---- the entry, whatever was judged before it

module _ (f : Facts) (s : List ℕ) (before : Refusal) (own : Refuses of_facts 0 before) where
  first : Refuses of_header (bit_count s) (refusal_of before (stands f s))
  first =
      refuses_pick of_header (bit_count s) (eqb before.number 0) (stands f s).next.fault before
      (read_refuses of_header refl s (header f) (own_header f) 0 (omega arith))
      (refuses_more of_header of_facts 0 (bit_count s) before refl refl (omega arith) own)

  pub answered_refuses : Refuses of_header (bit_count s) (answered f before (stands f s)).refusal
  unfolding answered refused_header
  answered_refuses =
      of_both (λ (a : HeaderTold). Refuses of_header (bit_count s) a.refusal) (eqb (refusal_of before (stands f s)).number 0) _
      (refused_header (refusal_of before (stands f s)))
      (refuses_none of_header (bit_count s) refl) first

  module _ (some : (answered f before (stands f s)).refusal.number ≡ 0 → ⊥) where
    pub stopped : eqb (refusal_of before (stands f s)).number 0 ≡ false
    unfolding answered
    stopped = split (eqb (refusal_of before (stands f s)).number 0) (λ t. absurd (some (rw t))) (λ t. t)

    pub answered_zero : answered f before (stands f s) ≡ refused_header (refusal_of before (stands f s))
    unfolding answered
    answered_zero = rw stopped

    pub buffer_kept : (new buffer : List ℕ) → buffer_after before (stands f s) new buffer ≡ buffer
    buffer_kept new buffer = rw stopped

pub read_frame_header : (f : Facts) (s : List ℕ) (r : Result HeaderRead Refusal) (name name' upsampling upsampling' blending blending' : List ℕ)
    → Headed f s r name name' upsampling upsampling' blending blending'
    → ((told r).given ≡ eqb (told r).refusal.number 0) × Ends of_header (bit_count s) (told r).refusal (header_said zero_header 0 name upsampling blending)
    (header_said (told r).header (told r).end name' upsampling' blending')
unfolding refused_header
read_frame_header f s r name name' upsampling upsampling' blending blending' h =
    let before : Refusal = judged (length s) f (length name) (length upsampling) (length blending) in
    let own = judge_header (length s) f (length name) (length upsampling) (length blending) in
    let is : (told r).refusal ≡ (answered f before (stands f s)).refusal = ap (λ (a : HeaderTold). a.refusal) h.answer in (
      headed_number f s r name name' upsampling upsampling' blending blending' h,
      record {
        refuses = rw is (answered_refuses f s before own);
        either =
            λ some'.
            let some : (answered f before (stands f s)).refusal.number ≡ 0 → ⊥ = λ z. some' (ap (λ (x : Refusal). x.number) is ∙ z) in
            let zero : told r ≡ refused_header (refusal_of before (stands f s)) = h.answer ∙ answered_zero f s before own some in
            let head : (told r).header ≡ zero_header = ap (λ (a : HeaderTold). a.header) zero in
            let end : (told r).end ≡ 0 = ap (λ (a : HeaderTold). a.end) zero in
            let n : name' ≡ name = h.named ∙ buffer_kept f s before own some (stands f s).value.name name in
            let u : upsampling' ≡ upsampling = h.upsampled ∙ buffer_kept f s before own some (stands f s).value.upsampling upsampling in
            let b : blending' ≡ blending = h.blended ∙ buffer_kept f s before own some (words (stands f s).value.blending) blending in
            rw (head, end, n, u, b);
      },
    )
