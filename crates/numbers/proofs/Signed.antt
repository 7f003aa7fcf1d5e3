-- The signed reading of a 32-bit number: half of it, and for an odd one that half negated and one less.
use Rattle.std.proofs.Common.{◌≡◌, ℕ, zero, suc, ◌+◌, ◌/◌, ◌%◌, ◌^◌, ◌<◌, ℤ, pos, negsuc, ◌-ℤ◌, neg_ℤ, sym, refl, ap, ◌∙◌, add-zero, arith, w32, SFits, to_z, of_z, eq-eqb, ne_eqb}
use lib.IntN.{+ℤ_idl}
use lib.Signed.{mag}
use mir.ValLaws.{to_z_pos, to_z-of_z}
use Rattle.bits.specs.Codec.{signed}

pub signed_even : (n : ℕ) → n % 2 ≡ 0 → signed n ≡ pos (n / 2)
signed_even n h = rw (eq-eqb (n % 2) 0 h)

next_half : (n : ℕ) → (n % 2 ≡ 0 → ⊥) → (n + 1) / 2 ≡ suc (n / 2)
next_half n h = omega arith

signed_odd : (n : ℕ) → (n % 2 ≡ 0 → ⊥) → signed n ≡ negsuc (n / 2)
signed_odd n h = rw (ne_eqb (n % 2) 0 h, next_half n h)

one_less : (k : ℕ) → neg_ℤ (pos k) -ℤ pos 1 ≡ negsuc k
one_less zero = refl
one_less (suc k) = ap negsuc (ap suc (add-zero k))

small : (k : ℕ) → k < 2 ^ 31 → mag (neg_ℤ (pos k)) < 2 ^ 31
small zero h = h
small (suc k) h = omega arith

module _ (n : ℕ) (fits : n < 2 ^ 32) where
  pub half_is : to_z w32 (n / 2) ≡ pos (n / 2)
  half_is = to_z_pos w32 (n / 2) (omega arith)

  minus : pos 0 -ℤ to_z w32 (n / 2) ≡ neg_ℤ (pos (n / 2))
  minus = ap (λ (z : ℤ). pos 0 -ℤ z) half_is ∙ +ℤ_idl (neg_ℤ (pos (n / 2)))

  pub minus_fits : SFits w32 (pos 0 -ℤ to_z w32 (n / 2))
  minus_fits = rw minus (record { sfits = small (n / 2) (omega arith) })

  less : to_z w32 (of_z w32 (pos 0 -ℤ to_z w32 (n / 2))) -ℤ pos 1 ≡ negsuc (n / 2)
  less = ap (λ (z : ℤ). z -ℤ pos 1) (to_z-of_z w32 (pos 0 -ℤ to_z w32 (n / 2)) minus_fits ∙ minus) ∙ one_less (n / 2)

  pub less_fits : SFits w32 (to_z w32 (of_z w32 (pos 0 -ℤ to_z w32 (n / 2))) -ℤ pos 1)
  less_fits = rw less (record { sfits = omega arith })

  pub odd_is : (n % 2 ≡ 0 → ⊥) → to_z w32 (of_z w32 (to_z w32 (of_z w32 (pos 0 -ℤ to_z w32 (n / 2))) -ℤ pos 1)) ≡ signed n
  odd_is h = to_z-of_z w32 (to_z w32 (of_z w32 (pos 0 -ℤ to_z w32 (n / 2))) -ℤ pos 1) less_fits ∙ less ∙ sym (signed_odd n h)
