-- What reading one field takes, piece by piece, and what it comes to.
use Rattle.std.specs.Prelude.{ℕ, ◌+◌, List, nat_le, Option, Some, None}
use Rattle.bits.specs.declared.Read.{Read}
use Rattle.bits.specs.declared.Cursor.{Cursor}
use Rattle.bits.specs.declared.Refusal.{Refusal}
use Rattle.bits.specs.declared.pieces.Piece.{Piece}
use Rattle.bits.specs.Refusals.{pick, refusal, start}
use Rattle.bits.specs.Bits.{bits_at, bit_count, there}

-- gives a value; refuses with a number; takes so many bits and goes on by their value; skips so many bits and goes on
pub data Steps : Type 0 where
  gives : ℕ → Steps
  refuses : ℕ → Steps
  takes : ℕ → (ℕ → Steps) → Steps
  skips : ℕ → Steps → Steps

-- a field that begins at p is refused there, whichever part of it is at fault
abbrev pub stopped : ℕ → ℕ → Cursor
stopped number p = record { at = p; fault = refusal number p }

abbrev pub refused_at : ℕ → ℕ → Read ℕ
refused_at number p = record { value = 0; next = stopped number p }

-- 4 of a field that begins at p: its piece that ends at end needs bits past the end of s. Every refusal 4 is this one.
unfoldable pub cut : List ℕ → ℕ → ℕ → Refusal
cut s p end = refusal 4 p

abbrev pub cut_at : List ℕ → ℕ → ℕ → Read ℕ
cut_at s p end = record { value = 0; next = record { at = p; fault = cut s p end } }

-- the field that begins at p, having come to q
unfoldable pub run : Steps → List ℕ → ℕ → ℕ → Read ℕ
run (gives v) s p q = record { value = v; next = start q }
run (refuses number) s p q = refused_at number p
run (takes n rest) s p q = pick (there s q n) (run (rest (bits_at s q n)) s p (q + n)) (cut_at s p (q + n))
run (skips n rest) s p q = pick (nat_le (q + n) (bit_count s)) (run rest s p (q + n)) (cut_at s p (q + n))

-- one piece of a field, if it is there
unfoldable pub piece : List ℕ → ℕ → ℕ → Option Piece
piece s q n = pick (there s q n) (Some (record { value = bits_at s q n; at = q + n })) None
