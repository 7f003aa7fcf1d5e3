-- An array is a row that repeats.
use Rattle.std.specs.Prelude.{ℕ, List, ltb}
use Rattle.bits.specs.Codec.{Codec}
use Rattle.bits.specs.Table.{Table, ends, row, times}

-- one element: it stands there where its number is below the limit; col is the array in R
unfoldable pub element : {R : Type 0} → Codec → ℕ → ℕ → (R → ℕ → ℕ) → ℕ → Table R ℕ
element k limit d col i = row (ltb i limit) k d (λ r. col r i) λ v. ends v

-- count elements, the first limit of which stand there; the others are the default
abbrev pub array : {R : Type 0} → Codec → ℕ → ℕ → ℕ → (R → ℕ → ℕ) → Table R (List ℕ)
array k limit count d col = times count 0 (element k limit d col)
