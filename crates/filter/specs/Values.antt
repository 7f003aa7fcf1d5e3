-- The f32 values of a filter: its defaults, and how a value stands in a header.
use Rattle.std.specs.Prelude.{ℕ, ◌+◌, ◌-◌, ◌*◌, ◌/◌, ◌^◌, Bool, true, false, ◌&&◌, List, [], ◌∷◌, eqb, pos, get_or, Float}
use Rattle.std.specs.Float.{nan, inf, fin, binary32}
use Rattle.std.specs.Float.Ieee.{round, div, of_int, to_bits, up, down, size}
use Rattle.bits.specs.Refusals.{pick}
use Rattle.bits.specs.Codec.{f16}
use Rattle.bits.specs.Half.{half}
use Rattle.bits.specs.Table.{Table, ends, row, times}

-- the f32 nearest to n / d: a decimal such as 0.46 is `decimal 46 100`
unfoldable pub decimal : ℕ → ℕ → Float
decimal n d = round binary32 false n d

abbrev pub plus_zero : Float
plus_zero = decimal 0 1

-- n / d as one f32 division
unfoldable pub quotient : ℕ → ℕ → Float
quotient n d = div binary32 (of_int binary32 (pos n)) (of_int binary32 (pos d))

-- The 16-bit pattern of an f16's value: the sign, and of the size times 2^24 the eleven leading digits with how many were dropped.
unfoldable pub pattern : Float → ℕ
pattern nan = 0
pattern (inf s) = 0
pattern (fin s m e) =
    let n : ℕ = m * up e * 2 ^ 24 / down e in
    let k : ℕ = size n - 11 in
    pick s 32768 0 + k * 1024 + n / 2 ^ k

abbrev pub pattern_at : List Float → ℕ → ℕ
pattern_at values i = pattern (get_or values i nan)

-- whether values are equal bit for bit
abbrev pub same : List Float → List Float → Bool
same [] [] = true
same [] (y ∷ ys) = false
same (x ∷ xs) [] = false
same (x ∷ xs) (y ∷ ys) = eqb (to_bits binary32 x) (to_bits binary32 y) && same xs ys

-- the Bool that says whether values are sent: not where they are the defaults
abbrev pub custom : List Float → List Float → ℕ
custom values defaults = pick (same values defaults) 0 1

-- an f16, as the f32 that its pattern stands for; d is the pattern where it isn't asked for
unfoldable pub float : {R : Type 0} → Bool → ℕ → (R → ℕ) → Table R Float
float on d column = row on f16 d column λ h. ends (half h)

-- so many of them one after another
unfoldable pub floats : {R : Type 0} → Bool → ℕ → (R → List Float) → Table R (List Float)
floats on count values = times count 0 λ i. float on 0 λ r. pattern_at (values r) i
