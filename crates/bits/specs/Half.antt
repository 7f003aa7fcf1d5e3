-- f16: sign, five bits of exponent e, ten bits of fraction m.
use Rattle.std.specs.Prelude.{ℕ, ◌+◌, ◌-◌, ◌*◌, ◌/◌, ◌%◌, ◌^◌, Bool, ◌==◌, Float}
use Rattle.std.specs.Float.{binary32}
use Rattle.std.specs.Float.Ieee.{round}
use Rattle.bits.specs.Refusals.{pick}

abbrev pub negative : ℕ → Bool
negative h = h / 32768 % 2 == 1

abbrev pub exponent : ℕ → ℕ
exponent h = h / 1024 % 32

abbrev pub fraction : ℕ → ℕ
fraction h = h % 1024

-- The size of the number, times 2^24. e = 0 is m / 2^24; e from 1 to 30 is (1024 + m) * 2^(e - 25).
abbrev pub scaled : ℕ → ℕ
scaled h = pick (exponent h == 0) (fraction h) ((1024 + fraction h) * 2 ^ (exponent h - 1))

-- The f32 at scaled / 2^24, with its sign. Nothing is rounded: `half_exact` of numbers/proofs/Half.antt says that it is that very number.
unfoldable pub half : ℕ → Float
half h = round binary32 (negative h) (scaled h) (2 ^ 24)
