-- A mask of one bit: it finds the bit that the division finds.
use Rattle.std.specs.Prelude.{ℕ, ◌^◌, ◌/◌, ◌%◌, ◌*◌, ◌<◌, ◌≡◌, not, eqb}
use Rattle.std.specs.Int.Bits.{bit_and}
use Rattle.std.proofs.lemmas.Nat.Bits.{and_pow, bit_at-lt}
use Rattle.std.proofs.Common.{arith, nat_eq, suc, zero}
use Rattle.std.proofs.lemmas.Bool.Decides.{nat_tests}
use lib.Pow.{pow_pos}

weighed : (b p : ℕ) → b < 2 → 0 < p → not (nat_eq (b * p) 0) ≡ eqb b 1
weighed zero p h q = grind (arith, nat_tests)
weighed (suc zero) p h q = grind (arith, nat_tests)
weighed (suc (suc b)) p h q = absurd (omega arith)

pub masked : (n k : ℕ) → not (nat_eq (bit_and n (2 ^ k)) 0) ≡ eqb (n / 2 ^ k % 2) 1
masked n k = rw and_pow (weighed _ (2 ^ k) (bit_at-lt n k) (pow_pos k))
