-- What is refused for want of room, and kinds by their numbers.
use Prim.Native.Nat.{ℕ, ◌<◌, ◌≤◌}
use mathlib.Core.Path.{◌≡◌, sym, ◌∙◌}
use mathlib.Core.Bool.{false}
use borrow.Author.Tests.{ne_eqb, lt-ltb, le-ltb, le-leb, lt-leb}
use Rattle.bits.specs.declared.Refusal.{Refusal}
use Rattle.bits.specs.Refusals.{refusal}
use Rattle.grid.specs.declared.Frame.{Frame}
use Rattle.std.specs.Prelude.{Result, Ok, Err}
use Rattle.grid.specs.declared.Grid.{Grid}
use Rattle.grid.specs.Measured.{grid_of, grid_or_refused}
use Rattle.grid.proofs.Answered.{measured_ok, measured_err, judged_own, known_same}
use Rattle.order.specs.declared.SectionNumber.{SectionNumber}
use Rattle.order.specs.Numbers.{section_or_refused}
use Rattle.sections.specs.declared.TocGroupKind.{TocGroupKind}
use Rattle.sections.specs.Kinds.{section_of_kind}
use Rattle.sections.proofs.Answered.{section_given}
use Rattle.c_words.specs.Records.{kind_named, section_of_numbers}
use Rattle.c_words.specs.Contents.{no_room}

-- 2, then the frame's own refusal, then 3
module _ (n : ℕ) (f : Frame) where
  pub too_long : 16777216 < n → (r : Refusal) → r ≡ refusal 2 0 → r ≡ no_room n f
  unfolding no_room
  too_long h r e = e ∙ rw (lt-ltb 16777216 n h)

  module _ (short : n ≤ 16777216) where
    pub own_first : (r : Refusal) → Err r ≡ grid_or_refused (grid_of f) → r ≡ no_room n f
    unfolding no_room
    own_first r e =
        let w = measured_err f r e in
        rw (le-ltb 16777216 n short, ne_eqb (grid_of f).refusal.number 0 w.0) (sym w.1)

    pub then_three : (g : Grid) → Ok g ≡ grid_or_refused (grid_of f) → (r : Refusal) → r ≡ refusal 3 0 → r ≡ no_room n f
    unfolding no_room
    then_three g eg r e = e ∙ rw (le-ltb 16777216 n short, ← measured_ok f g eg)

-- a kind by its numbers
module _ (kind pass group : ℕ) (f : Frame) where
  pub section_known : kind ≤ 4 → (k : TocGroupKind) → k ≡ kind_named kind pass group → (r : Result SectionNumber Refusal) → r ≡ section_or_refused (section_of_kind f k)
      → r ≡ section_or_refused (section_of_numbers f kind pass group)
  unfolding section_of_numbers
  section_known h k ek r er = er ∙ rw (ek, le-leb kind 4 h)

  module _ (beyond : 4 < kind) where
    pub section_own : (r : Refusal) → Err r ≡ grid_or_refused (grid_of f) → Err r ≡ section_or_refused (section_of_numbers f kind pass group)
    unfolding section_of_numbers
    section_own r e = rw (lt-leb kind 4 beyond) (judged_own f r _ _ e ∙ section_given _ _)

    pub section_unknown : (g : Grid) → Ok g ≡ grid_or_refused (grid_of f) → Err (refusal 14 0) ≡ section_or_refused (section_of_numbers f kind pass group)
    unfolding section_of_numbers
    section_unknown g e = rw (lt-leb kind 4 beyond, ← measured_ok f g e) (known_same g _ false ∙ section_given _ _)
