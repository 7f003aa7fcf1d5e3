-- Bits of a list of bytes: taken from the low end of each byte, the earliest bit least significant.
use Rattle.std.specs.Prelude.{ℕ, zero, suc, ◌+◌, ◌*◌, ◌/◌, ◌%◌, ◌^◌, min, Bool, ◌&&◌, List, length, nat_le, slice_index}
use Rattle.bits.specs.declared.window.Ahead.{Ahead}

-- bit p
abbrev pub bit_at : List ℕ → ℕ → ℕ
bit_at s p = slice_index s (p / 8) / 2 ^ (p % 8) % 2

-- the n bits from p on
unfoldable pub bits_at : List ℕ → ℕ → ℕ → ℕ
bits_at s p zero = 0
bits_at s p (suc n) = bits_at s p n + bit_at s (p + n) * 2 ^ n

-- how many bits there are: none is read behind the first 16,777,216 bytes
abbrev pub bit_count : List ℕ → ℕ
bit_count s = 8 * min (length s) 16777216

-- whether n bits are there from p on; no field is wider than 32
abbrev pub there : List ℕ → ℕ → ℕ → Bool
there s p n = nat_le n 32 && nat_le (p + n) (bit_count s)

-- what lies ahead of p: 56 bits, zero behind the end, and whether the eight bytes from p's own on may be read
unfoldable pub ahead : List ℕ → ℕ → Ahead
ahead s p = record { bits = bits_at s p 56; whole = nat_le (p / 8 + 8) (min (length s) 16777216) }
