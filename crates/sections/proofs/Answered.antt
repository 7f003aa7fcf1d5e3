-- What the look-ups give: the frame's own refusal, what else is refused, and the answer.
use Prim.Native.Nat.{ℕ, ◌*◌, ◌%◌, ◌^◌, ◌≤◌, ◌<◌}
use native.Mathlib.Omega.{arith}
use mathlib.Core.Path.{◌≡◌, refl, sym, ◌∙◌}
use mathlib.Core.List.{List}
use mathlib.Core.Bool.{Bool, true, false}
use mathlib.Core.Logic.{◌⊎◌, inl, inr}
use lib.ListN.{length, get_or}
use lib.Dec.{eqb, ltb}
use borrow.Author.Tests.{ne_eqb, le-leb, lt-leb}
use Rattle.std.specs.Prelude.{Result, Ok, Err}
use Rattle.bits.specs.declared.Refusal.{Refusal}
use Rattle.bits.specs.Refusals.{pick, refusal, answered}
use Rattle.bits.proofs.Answered.{answered_yes, answered_no, answered_ok, answered_err}
use Rattle.grid.specs.declared.Frame.{Frame}
use Rattle.grid.specs.declared.Grid.{Grid}
use Rattle.grid.specs.Measured.{unrefused, grid_of, grid_or_refused}
use Rattle.grid.specs.Groups.{judge, index_at}
use Rattle.grid.proofs.Answered.{measured_ok, measured_err, own, judged_own, known_yes, known_no, known_same, known_true}
use Rattle.grid.proofs.Lookups.{measured_sound}
use Rattle.order.specs.declared.SectionNumber.{SectionNumber}
use Rattle.order.specs.declared.SentNumber.{SentNumber}
use Rattle.order.specs.Numbers.{sent_of, section_of, sent_or_refused, section_or_refused}
use Rattle.sections.specs.declared.TocGroupKind.{TocGroupKind}
use Rattle.sections.specs.declared.TocGroupKind.TheVariants.{All}
use Rattle.sections.specs.declared.SectionPlace.{SectionPlace}
use Rattle.sections.specs.Kinds.{numbers_of, has_kind, section_number, kind_at, section_answer, section_of_kind, kind_of, kind_or_refused}
use Rattle.sections.specs.Lookups.{sample_kind, has_sample, section_of_sample, place_refusal, place_by, place_of, place_or_refused, sent_of_section, section_of_sent}
use Rattle.sections.proofs.Counts.{Counts, counts}
use Rattle.sections.proofs.OfKinds.{number_below}
use Rattle.sections.proofs.Asking.{Sample, sample_parts, sample_has, place_frame, place_inside}

-- each answer as its refusal and its value
section_by : (t : Bool) (r : Refusal) (v : ℕ) → ◌≡◌ {A = Result SectionNumber Refusal} (pick t (Ok (record { 0 = v })) (Err r)) (pick t (Ok (record { 0 = pick t v 0 })) (Err r))
section_by true r v = refl
section_by false r v = refl

pub section_given : (r : Refusal) (v : ℕ) → ◌≡◌ {A = Result SectionNumber Refusal} (answered r (record { 0 = v })) (section_or_refused (section_answer r v))
unfolding section_answer
section_given r v = section_by (eqb r.number 0) r v

kind_by : (t : Bool) (r : Refusal) (k : TocGroupKind) → pick t (Ok (numbers_of k)) (Err r) ≡ pick t (Ok (numbers_of (pick t k All))) (Err r)
kind_by true r k = refl
kind_by false r k = refl

place_by_lem : (t : Bool) (r : Refusal) (a b : ℕ)
    → ◌≡◌ {A = Result SectionPlace Refusal} (pick t (Ok (record { offset = a; size = b })) (Err r)) (pick t (Ok (record { offset = pick t a 0; size = pick t b 0 })) (Err r))
place_by_lem true r a b = refl
place_by_lem false r a b = refl

pub place_given : (r : Refusal) (a b : ℕ) → answered r (record { offset = a; size = b }) ≡ place_or_refused (place_by r a b)
unfolding place_by
place_given r a b = place_by_lem (eqb r.number 0) r a b

-- a refused frame has none of the answers
module _ (f : Frame) (r : Refusal) (e : Err r ≡ grid_or_refused (grid_of f)) where
  pub of_kind_own : (kind : TocGroupKind) → Err r ≡ section_or_refused (section_of_kind f kind)
  unfolding section_of_kind
  of_kind_own kind = judged_own f r _ _ e ∙ section_given _ _

  pub of_sample_own : (x y pass : ℕ) → Err r ≡ section_or_refused (section_of_sample f x y pass)
  unfolding section_of_sample
  of_sample_own x y pass = judged_own f r _ _ e ∙ section_given _ _

  pub kind_own : (section : SectionNumber) → Err r ≡ kind_or_refused (kind_of f section)
  unfolding kind_of
  kind_own section = judged_own f r _ _ e ∙ kind_by (eqb (judge (grid_of f) (ltb section.0 (grid_of f).sections)).number 0) _ _

  pub place_own : (offsets sizes : List ℕ) (section : SectionNumber) → Err r ≡ place_or_refused (place_of f offsets sizes section)
  unfolding place_of
  place_own offsets sizes section =
      rw (← place_frame (grid_of f) (length offsets) (length sizes) section.0 (measured_err f r e).0) (own f r _ e ∙ place_given _ _ _)

  pub sent_own : (order : List ℕ) (section : SectionNumber) → Err r ≡ sent_or_refused (sent_of_section f order section)
  unfolding sent_of_section
  sent_own order section = rw (ne_eqb (grid_of f).refusal.number 0 (measured_err f r e).0) (own f r _ e)

  pub back_own : (inverse : List ℕ) (sent : SentNumber) → Err r ≡ section_or_refused (section_of_sent f inverse sent)
  unfolding section_of_sent
  back_own inverse sent = rw (ne_eqb (grid_of f).refusal.number 0 (measured_err f r e).0) (own f r _ e)

-- an accepted frame
module _ (f : Frame) (g : Grid) (e : Ok g ≡ grid_or_refused (grid_of f)) where
  pub measured_counts : Counts f (unrefused g)
  measured_counts = counts f (unrefused g) (measured_ok f g e) refl

  -- through the orders
  pub sent_told : (order : List ℕ) (section : SectionNumber) → sent_of order g.sections section ≡ sent_of_section f order section
  unfolding sent_of_section
  sent_told order section = rw (← measured_ok f g e)

  pub back_told : (inverse : List ℕ) (sent : SentNumber) → section_of inverse g.sections sent ≡ section_of_sent f inverse sent
  unfolding section_of_sent
  back_told inverse sent = rw (← measured_ok f g e)

  -- a kind
  module _ (kind : TocGroupKind) (known : Bool) (ek : known ≡ has_kind (unrefused g) f.num_passes (numbers_of kind)) where
    pub of_kind_none : (r : Refusal) → ◌≡◌ {A = Result (Unit {0}) Refusal} (Err r) (pick known (Ok tt) (Err (refusal 14 0)))
        → Err r ≡ section_or_refused (section_of_kind f kind)
    unfolding section_of_kind
    of_kind_none r h = rw (← measured_ok f g e, ← ek) (known_no g _ known r h ∙ section_given _ _)

    module _ (u : Unit {0}) (h : Ok u ≡ pick known (Ok tt) (Err (refusal 14 0))) where
      pub kind_fits : section_number (unrefused g) (numbers_of kind) < 65536
      kind_fits =
          let n = measured_counts in
          omega (arith, number_below f (unrefused g) n (numbers_of kind) (sym ek ∙ known_true known u h), n.small)

      pub of_kind_found : (n : ℕ) → n ≡ section_number (unrefused g) (numbers_of kind) → Ok (record { 0 = n }) ≡ section_or_refused (section_of_kind f kind)
      unfolding section_of_kind
      of_kind_found n en = rw (← measured_ok f g e, ← ek, ← en) (known_yes g _ known u h ∙ section_given _ _)

  -- a section
  module _ (section : SectionNumber) where
    pub kind_none : (r : Refusal) → ◌≡◌ {A = Result (Unit {0}) Refusal} (Err r) (pick (ltb section.0 g.sections) (Ok tt) (Err (refusal 14 0)))
        → Err r ≡ kind_or_refused (kind_of f section)
    unfolding kind_of
    kind_none r h = rw (← measured_ok f g e) (known_no g _ (ltb section.0 g.sections) r h ∙ kind_by (eqb (judge (unrefused g) (ltb section.0 g.sections)).number 0) _ _)

    pub kind_found : (u : Unit {0}) → Ok u ≡ pick (ltb section.0 g.sections) (Ok tt) (Err (refusal 14 0)) → (kind : TocGroupKind) → kind ≡ kind_at (unrefused g) section.0
        → Ok (numbers_of kind) ≡ kind_or_refused (kind_of f section)
    unfolding kind_of
    kind_found u h kind ek =
        rw (← measured_ok f g e, ek) (known_yes g _ (ltb section.0 g.sections) u h ∙ kind_by (eqb (judge (unrefused g) (ltb section.0 g.sections)).number 0) _ _)

  -- a sample
  module _ (x y pass : ℕ) (known : Bool) (ek : known ≡ has_sample (unrefused g) f.num_passes x y pass) where
    pub of_sample_none : (r : Refusal) → ◌≡◌ {A = Result (Unit {0}) Refusal} (Err r) (pick known (Ok tt) (Err (refusal 14 0)))
        → Err r ≡ section_or_refused (section_of_sample f x y pass)
    unfolding section_of_sample
    of_sample_none r h = rw (← measured_ok f g e, ← ek) (known_no g _ known r h ∙ section_given _ _)

    module _ (u : Unit {0}) (h : Ok u ≡ pick known (Ok tt) (Err (refusal 14 0))) where
      sampled : Sample (unrefused g) f.num_passes x y pass
      sampled = sample_parts (unrefused g) f.num_passes x y pass (sym ek ∙ known_true known u h)

      pub group_fits : (f.group_size_shift ≤ 3) × (128 * 2 ^ f.group_size_shift % 4294967296 ≡ g.side) × (0 < g.side) × (index_at g.columns g.side x y < 65536)
      group_fits =
          let n = measured_counts in
          let low : index_at g.columns g.side x y < g.groups = n.sample x y sampled.across sampled.down in
          let s = measured_sound f g e in
          (s.shift, s.side_is, n.side, omega (arith, low, n.few))

      module _ (kind : TocGroupKind) (es : kind ≡ sample_kind (unrefused g) x y pass) where
        pub sample_number_fits : section_number (unrefused g) (numbers_of kind) < 65536
        sample_number_fits =
            let n = measured_counts in
            let has : has_kind (unrefused g) f.num_passes (numbers_of kind) ≡ true = rw es (sample_has f (unrefused g) n x y pass sampled) in
            omega (arith, number_below f (unrefused g) n (numbers_of kind) has, n.small)

        pub of_sample_found : (n : ℕ) → n ≡ section_number (unrefused g) (numbers_of kind) → Ok (record { 0 = n }) ≡ section_or_refused (section_of_sample f x y pass)
        unfolding section_of_sample
        of_sample_found n en = rw (← measured_ok f g e, ← ek, ← es, ← en) (known_yes g _ known u h ∙ section_given _ _)

-- the judgement on a section number and two tables
module _ (g : Grid) (o s i : ℕ) where
  pub place_few : (r : Refusal) → (o < g.sections) ⊎ ((g.sections ≤ o) × (s < g.sections)) → r ≡ refusal 3 0
      → ◌≡◌ {A = Result (Unit {0}) Refusal} (Err r) (answered (place_refusal (unrefused g) o s i) (tt {0}))
  unfolding place_refusal
  place_few r (inl h) e = rw (e, lt-leb g.sections o h)
  place_few r (inr h) e = rw (e, le-leb g.sections o h.0, lt-leb g.sections s h.1)

  pub place_known : (r : Result (Unit {0}) Refusal) → g.sections ≤ o → g.sections ≤ s → r ≡ pick (ltb i g.sections) (Ok tt) (Err (refusal 14 0))
      → r ≡ answered (place_refusal (unrefused g) o s i) (tt {0})
  unfolding place_refusal
  place_known r a b e = rw (le-leb g.sections o a, le-leb g.sections s b) (e ∙ known_same g (tt {0}) (ltb i g.sections))

-- a section's place
module _ (f : Frame) (g : Grid) (e : Ok g ≡ grid_or_refused (grid_of f)) (offsets sizes : List ℕ) (section : SectionNumber) where
  pub place_none : (r : Refusal) → ◌≡◌ {A = Result (Unit {0}) Refusal} (Err r) (answered (place_refusal (unrefused g) (length offsets) (length sizes) section.0) (tt {0}))
      → Err r ≡ place_or_refused (place_of f offsets sizes section)
  unfolding place_of
  place_none r h =
      let w = answered_err _ r (tt {0}) (sym h) in
      rw (← measured_ok f g e) (sym (answered_no _ _ w.0 ∙ rw w.1) ∙ place_given _ _ _)

  module _ (u : Unit {0}) (h : Ok u ≡ answered (place_refusal (unrefused g) (length offsets) (length sizes) section.0) (tt {0})) where
    pub place_within : (section.0 < length offsets) × (section.0 < length sizes)
    place_within = place_inside (unrefused g) (length offsets) (length sizes) section.0 _ refl (answered_ok _ (tt {0}) u (sym h)).0

    pub place_found : Ok (record { offset = get_or offsets section.0 0; size = get_or sizes section.0 0 }) ≡ place_or_refused (place_of f offsets sizes section)
    unfolding place_of
    place_found =
        let w = answered_ok _ (tt {0}) u (sym h) in
        rw (← measured_ok f g e) (sym (answered_yes _ _ w.0) ∙ place_given _ _ _)
