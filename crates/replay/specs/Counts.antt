-- How much of a slice a count lends.
use Rattle.std.specs.Prelude.{ℕ, ◌≡◌, ◌≤◌, List, length, take}

-- the first n are within the slice, and are n
abbrev pub IsPrefixLen : {A : Type 0} → ℕ → List A → Type 0
IsPrefixLen n xs = (n ≤ length xs) × (n ≡ length (take n xs))
