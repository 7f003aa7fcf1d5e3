-- The test on a channel's two weights: BadGabor exactly when their exact sum is -1/4, which times 2^24 is -4,194,304.
use Rattle.std.specs.Prelude.{ℕ, ◌+◌, Bool, eqb}
use Rattle.bits.specs.Refusals.{pick}
use Rattle.bits.specs.Half.{negative, scaled}

-- what a weight adds to the sum above zero and below it, times 2^24
abbrev pub above : ℕ → ℕ
above h = pick (negative h) 0 (scaled h)

abbrev pub below : ℕ → ℕ
below h = pick (negative h) (scaled h) 0

-- the sum of two weights, given as f16 patterns, is -4,194,304
unfoldable pub unbalanced : ℕ → ℕ → Bool
unbalanced a b = eqb (above a + above b + 4194304) (below a + below b)
