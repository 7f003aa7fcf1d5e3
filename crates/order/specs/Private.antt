-- What private functions promise. Nothing that a caller is promised names these.
use Rattle.std.specs.Prelude.{ℕ, ◌≤◌, ◌<◌, suc, ◌≡◌, List, [], ◌∷◌, length, get_or, set}

-- a mark for each of n numbers, none set
pub record Unmarked (n : ℕ) (marks : List ℕ) : Type 0 where
  pub room : n ≤ length marks
  pub clear : (k : ℕ) → k < n → get_or marks k 0 ≡ 0

-- the words f j, f (j + 1), .., each written at its place; a place that the table hasn't is passed over
unfoldable pub placed_by : (ℕ → ℕ) → ℕ → List ℕ → List ℕ → List ℕ
placed_by f j [] table = table
placed_by f j (x ∷ places) table = placed_by f (suc j) places (set table x (f j))

-- the sections 0, 1, 2, .., each written at its sent number
abbrev pub placed : List ℕ → List ℕ → List ℕ
placed order table = placed_by (λ j. j) 0 order table
