-- Laws of an answer or a refusal, as the functions of the grid give them.
use Prim.Native.Nat.{ℕ}
use native.Mathlib.Omega.{arith}
use mathlib.Core.Path.{◌≡◌, refl, sym, ◌∙◌}
use mathlib.Core.Bool.{Bool, true, false}
use Rattle.std.specs.Prelude.{Result, Ok, Err}
use lib.Dec.{eqb}
use Rattle.bits.specs.Refusals.{pick, refusal, none, answered}
use Rattle.bits.specs.declared.Refusal.{Refusal}
use Rattle.grid.specs.declared.Frame.{Frame}
use Rattle.grid.specs.declared.Grid.{Grid}
use Rattle.grid.specs.declared.Rect.{Rect}
use Rattle.grid.specs.Measured.{Measured, unrefused, grid_in, grid_or_refused, good_record, zero_size, too_many, laid, refused_grid, grid_of}
use Rattle.grid.specs.Groups.{Placed, judge, judge_answer, numbered, placed, touching, size_of, number_or_refused, rect_or_refused, size_or_refused, touch_or_refused}
use Rattle.bits.proofs.Answered.{answered_yes, answered_no, answered_ok, answered_err, beside}
use Rattle.grid.proofs.Answers.{judge_refused}

-- beside none a grid is itself
number_none : (a z m : Bool) (l : Measured) → l.refusal ≡ none
    → (pick a (pick z (refused_grid 9) (pick m (refused_grid 10) l)) (refused_grid 8)).refusal.number ≡ 0
    → (pick a (pick z (refused_grid 9) (pick m (refused_grid 10) l)) (refused_grid 8)).refusal ≡ none
unfolding refused_grid
number_none true true m l e z = absurd (omega arith)
number_none true false true l e z = absurd (omega arith)
number_none true false false l e z = e
number_none false t m l e z = absurd (omega arith)

refused_none : (f : Frame) → (grid_of f).refusal.number ≡ 0 → (grid_of f).refusal ≡ none
unfolding grid_of laid
refused_none f z = number_none (good_record f) (zero_size f) (too_many f) (laid f) refl z

alone : (m : Measured) (g : Grid) → m.refusal ≡ none → grid_in m ≡ g → m ≡ unrefused g
alone m g e q = rw (← q, ← e)

-- what a check's answer says of its frame
module _ (f : Frame) where
  pub measured_from : (g : Grid) → (grid_of f).refusal.number ≡ 0 → grid_in (grid_of f) ≡ g → unrefused g ≡ grid_of f
  measured_from g z q = sym (alone (grid_of f) g (refused_none f z) q)

  pub measured_ok : (g : Grid) → Ok g ≡ grid_or_refused (grid_of f) → unrefused g ≡ grid_of f
  measured_ok g e =
      let w = answered_ok (grid_of f).refusal (grid_in (grid_of f)) g (sym e) in
      measured_from g w.0 w.1

  pub measured_err : (r : Refusal) → Err r ≡ grid_or_refused (grid_of f) → ((grid_of f).refusal.number ≡ 0 → ⊥) × ((grid_of f).refusal ≡ r)
  measured_err r e = answered_err (grid_of f).refusal r (grid_in (grid_of f)) (sym e)

  -- its refusal before any other
  pub own : {A : Type 0} (r : Refusal) (a : A) → Err r ≡ grid_or_refused (grid_of f) → Err r ≡ answered (grid_of f).refusal a
  own r a e =
      let w = measured_err r e in
      sym (answered_no (grid_of f).refusal a w.0 ∙ rw w.1)

  pub judged_own : {A : Type 0} (r : Refusal) (known : Bool) (a : A) → Err r ≡ grid_or_refused (grid_of f) → Err r ≡ answered (judge (grid_of f) known) a
  judged_own r known a e = rw (← judge_refused (grid_of f) known (measured_err r e).0) (own r a e)

-- the answers, each as its refusal and its value
pub number_given : (r : Refusal) (v : ℕ) → answered r v ≡ number_or_refused (numbered r v)
unfolding numbered
number_given r v = beside r v 0

pub rect_given : (r : Refusal) (a : Rect) → answered r a ≡ rect_or_refused (placed r a)
unfolding placed
rect_given r a = beside r a (record { left = 0; top = 0; width = 0; height = 0 })

pub touch_given : (r : Refusal) (b : Bool) → answered r b ≡ touch_or_refused (touching r b)
unfolding touching
touch_given r b = beside r b false

-- a judgement of what an accepted frame has, or hasn't, by what `found` answered
module _ {A : Type 0} (g : Grid) (a : A) where
  pub known_yes : (known : Bool) (u : Unit {0}) → Ok u ≡ pick known (Ok tt) (Err (refusal 14 0)) → Ok a ≡ answered (judge (unrefused g) known) a
  unfolding judge
  known_yes true u e = refl
  known_yes false u e = cc

  pub known_no : (known : Bool) (r : Refusal) → ◌≡◌ {A = Result (Unit {0}) Refusal} (Err r) (pick known (Ok tt) (Err (refusal 14 0)))
      → Err r ≡ answered (judge (unrefused g) known) a
  unfolding judge
  known_no true r e = cc
  known_no false r e = cc

  pub known_same : (known : Bool) → pick known (Ok a) (Err (refusal 14 0)) ≡ answered (judge (unrefused g) known) a
  unfolding judge
  known_same true = refl
  known_same false = refl

pub known_true : (known : Bool) (u : Unit {0}) → Ok u ≡ pick known (Ok tt) (Err (refusal 14 0)) → known ≡ true
known_true true u e = refl
known_true false u e = cc

-- the size of a rectangle that was answered, and the refusal of one that wasn't
module _ (p : Placed) where
  pub size_yes : (a : Rect) → Ok a ≡ rect_or_refused p → Ok (record { width = a.width; height = a.height }) ≡ size_or_refused (size_of p)
  unfolding size_of
  size_yes a e =
      let w = answered_ok p.refusal p.rect a (sym e) in
      rw (← w.1) (sym (answered_yes p.refusal _ w.0))

  pub size_no : (r : Refusal) → Err r ≡ rect_or_refused p → Err r ≡ size_or_refused (size_of p)
  unfolding size_of
  size_no r e =
      let w = answered_err p.refusal r p.rect (sym e) in
      sym (answered_no p.refusal _ w.0 ∙ rw w.1)

-- what `judge` answers is the judgement of every grid and every refusal, as the check gives them
judge_by : (t : Bool) (m : Measured) (known : Bool) → eqb m.refusal.number 0 ≡ t → judge_answer (grid_or_refused m) known ≡ answered (judge m known) tt
unfolding judge
judge_by true m true e = rw e
judge_by true m false e = rw e
judge_by false m known e = rw (e, e)

pub judge_told : (m : Measured) (known : Bool) → judge_answer (grid_or_refused m) known ≡ answered (judge m known) tt
judge_told m known = judge_by (eqb m.refusal.number 0) m known refl
