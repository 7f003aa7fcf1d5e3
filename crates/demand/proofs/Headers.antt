-- What an accepted header hands on: a frame that is never refused with 8, and a place that is not past the end of the input.
use Prim.Native.Nat.{ℕ, ◌+◌, ◌≤◌, ◌<◌}
use native.Mathlib.Omega.{arith}
use mathlib.Core.Path.{◌≡◌, refl}
use mathlib.Core.Logic.{inl, inr}
use mathlib.Core.List.{List}
use mathlib.Core.Bool.{Bool, true, false, ◌||◌}
use lib.Dec.{eqb, ltb}
use lib.Ieee.{Float}
use borrow.Author.Tests.{eq-eqb, eqb-true, eqb-false, le-leb, ltb-false}
use Rattle.bits.specs.declared.Refusal.{Refusal}
use Rattle.bits.specs.Refusals.{pick, refusal, none, start}
use Rattle.bits.specs.Bits.{bit_count}
use Rattle.bits.specs.Codec.{Codec, u, u32, val}
use Rattle.bits.proofs.Reading.{read_within_end, of_both}
use Rattle.grid.specs.Measured.{upsamples, good_record}
use Rattle.order.proofs.Entries.{and_both}
use Rattle.filter.specs.Values.{float, floats}
use Rattle.filter.specs.Gabor.{channel, gabor}
use Rattle.filter.specs.Epf.{sharp, scale, sigma, epf}
use Rattle.filter.specs.Filter.{restoration}
use Rattle.header.specs.declared.Facts.{Facts}
use Rattle.header.specs.declared.opening.Opening.{Opening}
use Rattle.header.specs.declared.shape.Passes.{Passes}
use Rattle.header.specs.declared.shape.Scales.{Scales}
use Rattle.header.specs.declared.shape.Placement.{Placement}
use Rattle.header.specs.declared.blending.Decider.{Decider}
use Rattle.header.specs.declared.parts.Front.{Front}
use Rattle.header.specs.Arrays.{element, array}
use Rattle.header.specs.Opening.{opening, upsamplings}
use Rattle.header.specs.Shape.{pass_counts, places, passes, scales, placement}
use Rattle.header.specs.Blending.{blending}
use Rattle.header.specs.Closing.{closing}
use Rattle.header.specs.Header.{Header, Begun, front, back, header}
use Rattle.header.specs.Entry.{bad_facts, no_room, judged, stands, refusal_of, refused_header, answered, HeaderTold}
use Rattle.header.specs.Record.{header_of, frame_of}
use Rattle.demand.specs.Frames.{HandedOn}
use Rattle.demand.proofs.Ranges.{Given, Reading, Own, Reads, read_has, read_own, Any, reads_bind, reads_within, reads_inside, reads_times, reads_extensions}

-- ---- what each table may read

channel_reads : (on : Bool) (i : ℕ) → Reads Any (channel on i)
unfolding channel Reads
channel_reads on i = λ a x b y. (refl, tt)

gabor_reads : (on : Bool) → Reads Any (gabor on)
unfolding gabor Reads
gabor_reads on =
    λ enabled e own o.
    reads_bind Any Any _ _ (channel_reads _ 0) (λ x p.
    reads_bind Any Any _ _ (channel_reads _ 1) (λ y q.
    reads_bind Any Any _ _ (channel_reads _ 2) (λ z r. tt)))

float_reads : {R : Type 0} (on : Bool) (d : ℕ) (column : R → ℕ) → Reads Any (float on d column)
unfolding float Reads
float_reads on d column = λ h x. tt

floats_reads : {R : Type 0} (on : Bool) (count : ℕ) (values : R → List Float) → Reads Any (floats on count values)
unfolding floats
floats_reads on count values = reads_times count 0 _ (λ i. float_reads on 0 _)

sharp_reads : (on : Bool) → Reads Any (sharp on)
unfolding sharp Reads
sharp_reads on = λ own o. reads_bind Any Any _ _ (floats_reads _ 8 _) (λ values v. tt)

scale_reads : (on : Bool) → Reads Any (scale on)
unfolding scale Reads
scale_reads on = λ own o. reads_bind Any Any _ _ (floats_reads _ 3 _) (λ values v ignored i. tt)

sigma_reads : (on modular : Bool) → Reads Any (sigma on modular)
unfolding sigma Reads
sigma_reads on modular =
    λ own o.
    reads_bind Any Any _ _ (float_reads _ 0 _) (λ q x.
    reads_bind Any Any _ _ (float_reads _ 0 _) (λ a y.
    reads_bind Any Any _ _ (float_reads _ 0 _) (λ b z.
    reads_bind Any Any _ _ (float_reads _ 0 _) (λ d w. tt))))

epf_reads : (on modular : Bool) → Reads Any (epf on modular)
unfolding epf Reads
epf_reads on modular =
    λ iters i.
    reads_inside Any Any _ _ _ (sharp_reads _) (λ lut x.
    reads_inside Any Any _ _ _ (scale_reads _) (λ scales y.
    reads_inside Any Any _ _ _ (sigma_reads _ modular) (λ four z.
    reads_bind Any Any _ _ (float_reads _ 15360 _) (λ m w. tt))))

restoration_reads : (on modular : Bool) → Reads Any (restoration on modular)
unfolding restoration Reads
restoration_reads on modular =
    λ all a.
    reads_inside Any Any _ _ _ (gabor_reads _) (λ gab x.
    reads_inside Any Any _ _ _ (epf_reads _ modular) (λ edges y.
    reads_inside Any Any _ _ _ (reads_extensions _) (λ skipped z. tt)))

abbrev Upsampled : Opening → Type 0
Upsampled o = Reading (u32 upsamplings) 1 o.upsampling

opening_reads : (f : Facts) → Reads Upsampled (opening f)
unfolding opening Reads
opening_reads f = λ all a kind b encoding c flags d ycbcr e j0 g j1 h j2 i up x. x

array_reads : {R : Type 0} (k : Codec) (limit count d : ℕ) (col : R → ℕ → ℕ) → Reads Any (array k limit count d col)
unfolding element Reads
array_reads k limit count d col = reads_times count 0 (element k limit d col) (λ i v x. tt)

abbrev Shifted : Scales → Type 0
Shifted q = Reading (u 2) 1 q.group_size_shift

scales_reads : (f : Facts) (o : Opening) → Reads Shifted (scales f o)
unfolding scales Reads
scales_reads f o = λ shift s x a b c. s

abbrev Passed : Passes → Type 0
Passed p = Reading (u32 pass_counts) 1 p.num_passes

passes_reads : (on : Bool) → Reads Passed (passes on)
unfolding passes Reads
passes_reads on =
    λ n x ds d.
    reads_bind Any Passed _ _ (array_reads _ _ 10 0 _) (λ shift a.
    reads_bind Any Passed _ _ (array_reads _ _ 4 0 _) (λ downsample b.
    reads_bind Any Passed _ _ (array_reads _ _ 4 0 _) (λ last c. x)))

record Laid (f : Facts) (c : Placement) : Type 0 where
  level : c.lf_level ≤ 4
  width : Reading (u32 places) f.width c.width
  height : Reading (u32 places) f.height c.height

level_low : (n : ℕ) → Reading (u 2) 0 n → n ≤ 3
level_low n (inl h) = omega arith
level_low n (inr e) = omega arith

placement_reads : (f : Facts) (o : Opening) → Reads (Laid f) (placement f o)
unfolding placement Reads
placement_reads f o =
    λ level l cropped c x a y b w wide h high.
    record {
      level = of_both (λ (n : ℕ). n ≤ 4) (eqb o.frame_type 1) (level + 1) 0 (omega (arith, level_low level l)) (omega arith);
      width = wide;
      height = high;
    }

blending_reads : (on extra full : Bool) (d : Decider) → Reads Any (blending on extra full d)
unfolding blending Reads
blending_reads on extra full d = λ m p a q k r x t. tt

closing_reads : (f : Facts) (o : Opening) (resets : Bool) → Reads Any (closing f o resets)
unfolding closing Reads
closing_reads f o resets = λ duration a timecode b last c reference d ct e name g. tt

-- the six numbers of a frame, as they may be read
record Six (f : Facts) (a : Front) : Type 0 where
  upsampling : Upsampled a.opening
  shift : Shifted a.scales
  passes : Passed a.passes
  placement : Laid f a.placement

abbrev Begins : Facts → Begun → Type 0
Begins f b = Six f b.front

abbrev Fronts : Facts → Header → Type 0
Fronts f h = Six f h.front

front_reads : (f : Facts) → Reads (Begins f) (front f)
unfolding front Reads
front_reads f =
    reads_inside Upsampled (Begins f) _ _ _ (opening_reads f) (λ o x.
    reads_bind Any (Begins f) _ _ (array_reads _ _ _ 1 _) (λ ups y.
    reads_inside Shifted (Begins f) _ _ _ (scales_reads f o) (λ q z.
    reads_inside Passed (Begins f) _ _ _ (passes_reads _) (λ p w.
    reads_inside (Laid f) (Begins f) _ _ _ (placement_reads f o) (λ c v. record { upsampling = x; shift = z; passes = w; placement = v })))))

back_reads : (f : Facts) (o : Opening) (p : Placement) → Reads Any (back f o p)
unfolding back Reads
back_reads f o p =
    reads_inside Any Any _ _ _ (blending_reads _ _ _ _) (λ colour x.
    reads_bind Any Any _ _ (reads_times f.extra 0 _ (λ i. reads_within Any _ _ (blending_reads _ true _ _))) (λ channels y.
    reads_inside Any Any _ _ _ (closing_reads f o _) (λ e z.
    reads_bind Any Any _ _ (array_reads _ _ _ 0 _) (λ name w.
    reads_inside Any Any _ _ _ (restoration_reads _ _) (λ filter v.
    reads_inside Any Any _ _ _ (reads_extensions _) (λ skipped t. tt))))))

header_reads : (f : Facts) → Reads (Fronts f) (header f)
unfolding header Reads
header_reads f =
    reads_bind (Begins f) (Fronts f) _ _ (front_reads f) (λ b x.
    reads_bind Any (Fronts f) _ _ (back_reads f b.front.opening b.front.placement) (λ e y. x))

-- ---- the six numbers make a good record

val_is : (b v : ℕ) → b < 4294967296 → Given (val b) v → v ≡ b
val_is b v h g = omega (arith, g.1, g.2)

upsamples_good : (v : ℕ) → Reading (u32 upsamplings) 1 v → upsamples v ≡ true
upsamples_good v (inl (inl g)) = let e : v ≡ 1 = val_is 1 v (omega arith) g in rw e
upsamples_good v (inl (inr (inl g))) = let e : v ≡ 2 = val_is 2 v (omega arith) g in rw e
upsamples_good v (inl (inr (inr (inl g)))) = let e : v ≡ 4 = val_is 4 v (omega arith) g in rw e
upsamples_good v (inl (inr (inr (inr g)))) = let e : v ≡ 8 = val_is 8 v (omega arith) g in rw e
upsamples_good v (inr e) = rw e

passes_good : (v : ℕ) → Reading (u32 pass_counts) 1 v → (1 ≤ v) × (v ≤ 11)
passes_good v (inl (inl g)) = (omega (arith, g.1, g.2), omega (arith, g.1, g.2))
passes_good v (inl (inr (inl g))) = (omega (arith, g.1, g.2), omega (arith, g.1, g.2))
passes_good v (inl (inr (inr (inl g)))) = (omega (arith, g.1, g.2), omega (arith, g.1, g.2))
passes_good v (inl (inr (inr (inr g)))) = (omega (arith, g.1, g.2), omega (arith, g.1, g.2))
passes_good v (inr e) = (omega arith, omega arith)

size_good : (d v : ℕ) → d ≤ 1073741824 → Reading (u32 places) d v → v ≤ 1073760511
size_good d v h (inl (inl g)) = omega (arith, g.1, g.2)
size_good d v h (inl (inr (inl g))) = omega (arith, g.1, g.2)
size_good d v h (inl (inr (inr (inl g)))) = omega (arith, g.1, g.2)
size_good d v h (inl (inr (inr (inr g)))) = omega (arith, g.1, g.2)
size_good d v h (inr e) = omega arith

shift_good : (v : ℕ) → Reading (u 2) 1 v → v ≤ 3
shift_good v (inl h) = omega arith
shift_good v (inr e) = omega arith

or_parts : (a b : Bool) → (a || b) ≡ false → (a ≡ false) × (b ≡ false)
or_parts false b e = (refl, e)
or_parts true true e = (e, e)
or_parts true false e = (e, refl)

-- facts within the bounds
size_facts : (f : Facts) → bad_facts f ≡ false → (f.width ≤ 1073741824) × (f.height ≤ 1073741824)
size_facts f e =
    let w : Bool = eqb f.width 0 || ltb 1073741824 f.width in
    let h : Bool = eqb f.height 0 || ltb 1073741824 f.height in
    let sizes = or_parts w h (or_parts (w || h) (ltb 256 f.extra) e).0 in
    let wide = (or_parts (eqb f.width 0) (ltb 1073741824 f.width) sizes.0).1 in
    let high = (or_parts (eqb f.height 0) (ltb 1073741824 f.height) sizes.1).1 in
    (ltb-false 1073741824 f.width wide, ltb-false 1073741824 f.height high)

six_good : (f : Facts) (h : Header) → bad_facts f ≡ false → Fronts f h → good_record (frame_of (header_of f h.front h.back)) ≡ true
unfolding good_record header_of
six_good f h b x =
    let p = passes_good h.front.passes.num_passes x.passes in
    let size = size_facts f b in
    and_both
    (and_both (upsamples_good h.front.opening.upsampling x.upsampling)
    (and_both (le-leb 1 h.front.passes.num_passes p.0) (le-leb h.front.passes.num_passes 11 p.1)))
    (and_both
    (and_both (le-leb h.front.placement.lf_level 4 x.placement.level)
    (le-leb h.front.scales.group_size_shift 3 (shift_good h.front.scales.group_size_shift x.shift)))
    (and_both
    (le-leb h.front.placement.width 1073760511 (size_good f.width h.front.placement.width size.0 x.placement.width))
    (le-leb h.front.placement.height 1073760511 (size_good f.height h.front.placement.height size.1 x.placement.height))))

-- ---- an accepted header

answered_by : (b : Bool) (x : HeaderTold) (r : Refusal) → eqb r.number 0 ≡ b → (pick b x (refused_header r)).refusal.number ≡ 0 → b ≡ true
unfolding refused_header
answered_by true x r e h = refl
answered_by false x r e h = absurd (eqb-false r.number 0 e h)

refusal_by : (b : Bool) (before fault : Refusal) → eqb before.number 0 ≡ b → (pick b fault before).number ≡ 0
    → (before.number ≡ 0) × (fault.number ≡ 0)
refusal_by true before fault e h = (eqb-true before.number 0 e, h)
refusal_by false before fault e h = absurd (eqb-false before.number 0 e h)

module _ (f : Facts) (s : List ℕ) (before : Refusal) (bounds : before.number ≡ 0 → bad_facts f ≡ false)
    (ok : (answered f before (stands f s)).refusal.number ≡ 0) where
  accepted : eqb (refusal_of before (stands f s)).number 0 ≡ true
  unfolding answered
  accepted = answered_by (eqb (refusal_of before (stands f s)).number 0) _ (refusal_of before (stands f s)) refl ok

  answer_is : ◌≡◌ {A = HeaderTold} (answered f before (stands f s))
      (record { given = true; header = header_of f (stands f s).value.front (stands f s).value.back; end = (stands f s).next.at; refusal = none })
  unfolding answered
  answer_is = rw accepted

  -- neither before it was read nor while it was
  pub unrefused : (before.number ≡ 0) × ((stands f s).next.fault.number ≡ 0)
  unrefused = refusal_by (eqb before.number 0) before (stands f s).next.fault refl (eqb-true (refusal_of before (stands f s)).number 0 accepted)

  pub handed_on : HandedOn f s (answered f before (stands f s))
  handed_on =
      let six = read_has (Fronts f) (header f) (header_reads f) s (start 0) (eq-eqb (stands f s).next.fault.number 0 unrefused.1) in
      let inside : (stands f s).next.at ≤ bit_count s = read_within_end (header f) s (start 0) (omega arith) in
      rw answer_is
      (record { header = refl; end = refl; good = six_good f (stands f s).value (bounds unrefused.0) six; within = omega (arith, inside) })

-- the facts are judged before anything is read
facts_by : (a b c : Bool) → (pick a (refusal 2 0) (pick b (refusal 1 0) (pick c (refusal 3 0) none))).number ≡ 0 → b ≡ false
facts_by false false c h = refl
facts_by false true c h = absurd (omega arith)
facts_by true b c h = absurd (omega arith)

pub judged_facts : (n : ℕ) (f : Facts) (name upsampling blending : ℕ) → (judged n f name upsampling blending).number ≡ 0 → bad_facts f ≡ false
unfolding judged
judged_facts n f name upsampling blending h = facts_by (ltb 16777216 n) (bad_facts f) (no_room f name upsampling blending) h

-- a header is refused with a field's own number, or before it is read
pub fault_own : (f : Facts) (s : List ℕ) → Own (stands f s).next.fault.number
fault_own f s = read_own (Fronts f) (header f) (header_reads f) s (start 0) (inl (omega arith))
