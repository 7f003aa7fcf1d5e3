-- Laws of bits: what a test for bits says, and how large so many bits are.
use Rattle.std.proofs.Common.{◌≡◌, ℕ, zero, suc, ◌+◌, ◌-◌, ◌*◌, ◌^◌, ◌<◌, ◌≤◌, Bool, true, false, ◌&&◌, leb, List, sym, refl, ◌∙◌, mod-lt, mul_comm, add_comm, pow-suc, add-one, arith, lit<, le-leb, leb-true}
use native.Mathlib.Decide.{dec_le}
use lib.Arith.{digits_lt}
use mathlib.Core.Logic.{by_cases}
use borrow.Author.Tests.{lt-leb}
use Rattle.bits.specs.Bits.{bit_at, bits_at, bit_count, there}

-- a test whether p + n is within e, as the code makes it
pub within_by : (n p e : ℕ) → p ≤ e → leb n (e - p) ≡ leb (p + n) e
within_by n p e h =
    by_cases (dec_le (p + n) e)
    (λ y. le-leb n (e - p) (omega arith) ∙ sym (le-leb (p + n) e y))
    (λ y. lt-leb n (e - p) (omega (arith, y)) ∙ sym (lt-leb (p + n) e (omega (arith, y))))

pub and_left : (a b : Bool) → (a && b) ≡ true → a ≡ true
and_left true b e = refl
and_left false b e = e

pub and_right : (a b : Bool) → (a && b) ≡ true → b ≡ true
and_right true b e = e
and_right false true e = refl
and_right false false e = e

-- what the test says
pub there_parts : (s : List ℕ) (p n : ℕ) → there s p n ≡ true → (n ≤ 32) × (p + n ≤ bit_count s)
there_parts s p n t = (
  leb-true n 32 (and_left (leb n 32) (leb (p + n) (bit_count s)) t),
  leb-true (p + n) (bit_count s) (and_right (leb n 32) (leb (p + n) (bit_count s)) t),
)

bit_lt : (s : List ℕ) (p : ℕ) → bit_at s p < 2 ^ 1
bit_lt s p = mod-lt _ (lit< tt)

below_double : (b i v : ℕ) → b < 2 ^ 1 → v < 2 ^ i → b * 2 ^ i + v < 2 ^ (i + 1)
below_double b i v hb hv = rw (add-one, pow-suc, mul_comm (2 ^ i) 2) (digits_lt hb hv)

-- n bits are below 2 ^ n
pub bits_lt : (s : List ℕ) (p n : ℕ) → bits_at s p n < 2 ^ n
unfolding bits_at
bits_lt s p zero = lit< tt
bits_lt s p (suc n) =
    rw (← add-one n, add_comm (bits_at s p n) (bit_at s (p + n) * 2 ^ n)) (below_double (bit_at s (p + n)) n (bits_at s p n) (bit_lt s (p + n)) (bits_lt s p n))
