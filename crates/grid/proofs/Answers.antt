-- What each answer asks for at its return, over plain variables.
use Prim.Native.Nat.{ℕ, ◌-◌, ◌*◌, min, ◌/◌, ◌%◌, ◌<◌}
use native.Mathlib.Omega.{arith}
use mathlib.Core.Path.{◌≡◌, refl}
use mathlib.Core.Bool.{Bool, true, false}
use borrow.Author.Tests.{eq-eqb, ne_eqb, eqb-true, eqb-false, ltb-true}
use lib.Dec.{ltb, eqb}
use Rattle.bits.specs.Refusals.{pick, refusal, none}
use Rattle.bits.specs.declared.Refusal.{Refusal}
use Rattle.grid.specs.declared.Rect.{Rect}
use Rattle.grid.proofs.Rounding.{columns_pos, left_lt, top_lt}
use Rattle.grid.specs.Sizes.{up}
use Rattle.grid.specs.Measured.{Measured}
use Rattle.grid.specs.Groups.{has, judge, cell_of, clipped}

-- an answer out of the grid, asked for through the check
pub asked : {A : Type 0} (v : Measured → A) {r : A} {g h : Measured} → r ≡ v g → g ≡ h → r ≡ v h
asked v e m = rw (← m) e

-- the frame has the square, and what that says
pub has_by : (g : Measured) (side i a b n : ℕ) → a ≡ up g.width side → b ≡ up g.height side → n ≡ a * b → ltb i n ≡ has g side i
unfolding has
has_by g side i a b n ea eb e = rw (← ea, ← eb, ← e)

module _ (g : Measured) (side i n : ℕ) (t : has g side i ≡ true) (e : n ≡ up g.width side) where
  inside : i < up g.width side * up g.height side
  unfolding has
  inside = ltb-true i (up g.width side * up g.height side) t

  pub has_columns : 0 < n
  has_columns = rw e (columns_pos g.width g.height side i inside)

  pub has_left : i % n * side < g.width
  has_left = rw e (left_lt g.width g.height side i inside)

  pub has_top : i / n * side < g.height
  has_top = rw e (top_lt g.width g.height side i inside)

-- the three ways of a judgement, and what one without a refusal says
module _ (g : Measured) (known : Bool) where
  pub judge_refused : (g.refusal.number ≡ 0 → ⊥) → g.refusal ≡ judge g known
  unfolding judge
  judge_refused h = rw (ne_eqb g.refusal.number 0 h)

  pub judge_known : (r : Refusal) → g.refusal.number ≡ 0 → known ≡ true → r ≡ none → r ≡ judge g known
  unfolding judge
  judge_known r z t e = rw (eq-eqb g.refusal.number 0 z, t) e

  pub judge_unknown : (r : Refusal) → g.refusal.number ≡ 0 → known ≡ false → r ≡ refusal 14 0 → r ≡ judge g known
  unfolding judge
  judge_unknown r z t e = rw (eq-eqb g.refusal.number 0 z, t) e

first_none : (g : Measured) (b : Bool) (r : Refusal) → eqb g.refusal.number 0 ≡ b → (pick b r g.refusal).number ≡ 0 → b ≡ true
first_none g true r e h = refl
first_none g false r e h = absurd (eqb-false g.refusal.number 0 e h)

second_none : (b : Bool) → (pick b none (refusal 14 0)).number ≡ 0 → b ≡ true
second_none true h = refl
second_none false h = absurd (omega arith)

-- nothing was refused: neither the frame nor what was asked for
pub judged : (g : Measured) (known : Bool) → (judge g known).number ≡ 0 → (g.refusal.number ≡ 0) × (known ≡ true)
unfolding judge
judged g known h =
    let first = first_none g (eqb g.refusal.number 0) (pick known none (refusal 14 0)) refl h in
    (eqb-true g.refusal.number 0 first, second_none known (rw first at h))

pub cell_made : (w side i n : ℕ) → n ≡ up w side
    → ◌≡◌ {A = Rect} (record { left = i % n * side; top = i / n * side; width = side; height = side }) (cell_of w side i)
unfolding cell_of
cell_made w side i n e = rw (← e)

pub clip_made : (w h a b : ℕ) (r : Rect) → a ≡ min r.width (w - r.left) → b ≡ min r.height (h - r.top)
    → ◌≡◌ {A = Rect} (record { left = r.left; top = r.top; width = a; height = b }) (clipped w h r)
unfolding clipped
clip_made w h a b r ea eb = rw (ea, eb)
