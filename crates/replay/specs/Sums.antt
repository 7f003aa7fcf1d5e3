-- All numbers of a table in one.
use Rattle.std.specs.Prelude.{ℕ, ◌+◌, ◌*◌, ◌%◌, Bool, cond, List, [], ◌∷◌, Float}
use Rattle.std.specs.Float.{binary32}
use Rattle.std.specs.Float.Ieee.{eq, to_bits}
use Rattle.replay.specs.declared.sums.Tally.{Tally}

-- one more number, by the big sum or the small one
abbrev pub mixed : Bool → ℕ → ℕ → ℕ
mixed big sum n = cond big (sum % 4294967291 * 1000003 + n % 4294967291) (sum % 1000003 * 31 + n % 281474976710656)

-- a number counts for itself
abbrev pub own : ℕ → ℕ
own n = n

-- the bits of a value, 0 for what is no number
abbrev pub pattern : Float → ℕ
pattern x = cond (eq x x) (to_bits binary32 x) 0

-- the numbers of things, one after the other
unfoldable pub summed_by : {A : Type 0} → (A → ℕ) → Bool → ℕ → List A → ℕ
summed_by f big sum [] = sum
summed_by f big sum (x ∷ xs) = summed_by f big (mixed big sum (f x)) xs

-- a sum in the making behind some things
abbrev pub tallied : {A : Type 0} → (A → ℕ) → Tally → List A → Tally
tallied f t xs = record t { sum = summed_by f t.big t.sum xs }
