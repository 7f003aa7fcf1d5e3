-- Laws of the weights test: the size of an f16 as the code makes it, how large it is, and what a sign does.
use Prim.Native.Nat.{ℕ, ◌+◌, ◌-◌, ◌*◌, ◌/◌, ◌%◌, ◌^◌, ◌<◌}
use native.Mathlib.Omega.{arith}
use native.Mathlib.Nat.{mod-lt, lt_of_lt_of_le}
use mathlib.Core.Path.{◌≡◌, refl, sym, ◌∙◌}
use mathlib.Core.Bool.{Bool, true, false}
use lib.Dec.{eqb, lit<, lit≤}
use lib.Bits.{bit_and, and_mask}
use lib.Pow.{shl_exact, shl_lt, pow_mono}
use borrow.Author.Tests.{eq-eqb, ne_eqb}
use Rattle.bits.specs.Half.{negative, exponent, fraction, scaled}
use Rattle.filter.specs.Weights.{above, below, unbalanced}

module _ (h : ℕ) where
  masked_exponent : bit_and (h / 1024) 31 ≡ exponent h
  masked_exponent = and_mask (h / 1024) 5

  masked_fraction : bit_and h 1023 ≡ fraction h
  masked_fraction = and_mask h 10

  fraction_lt : fraction h < 1024
  fraction_lt = mod-lt h (lit< tt)

  exponent_lt : exponent h < 32
  exponent_lt = mod-lt (h / 1024) (lit< tt)

  whole_lt : 1024 + fraction h < 2 ^ 11
  whole_lt = omega (arith, fraction_lt)

  -- no exponent
  pub size_zero : bit_and (h / 1024) 31 ≡ 0 → bit_and h 1023 ≡ scaled h
  size_zero e = masked_fraction ∙ rw (eq-eqb (exponent h) 0 (sym masked_exponent ∙ e))

  -- an exponent from 1 on
  pub size_normal : (bit_and (h / 1024) 31 ≡ 0 → ⊥)
      → (1024 + bit_and h 1023) * 2 ^ (bit_and (h / 1024) 31 - 1) % 18446744073709551616 ≡ scaled h
  size_normal e =
      rw (masked_fraction, masked_exponent, ne_eqb (exponent h) 0 (λ z. e (masked_exponent ∙ z)))
      (shl_exact 11 (exponent h - 1) 64 whole_lt (omega (arith, exponent_lt)))

  scaled_by : (b : Bool) → eqb (exponent h) 0 ≡ b → scaled h < 2 ^ 42
  scaled_by true e = rw e (lt_of_lt_of_le fraction_lt (lit≤ tt))
  scaled_by false e =
      rw e (lt_of_lt_of_le (shl_lt 11 (exponent h - 1) whole_lt) (pow_mono {i = 11 + (exponent h - 1)} {j = 42} (omega (arith, exponent_lt))))

  scaled_lt : scaled h < 2 ^ 42
  scaled_lt = scaled_by (eqb (exponent h) 0) refl

  -- a sum of four such numbers is far from 2 ^ 64
  above_by : (b : Bool) → negative h ≡ b → above h < 2 ^ 42
  above_by true e = rw e (lit< tt)
  above_by false e = rw e scaled_lt

  below_by : (b : Bool) → negative h ≡ b → below h < 2 ^ 42
  below_by true e = rw e scaled_lt
  below_by false e = rw e (lit< tt)

  pub above_lt : above h < 2 ^ 42
  above_lt = above_by (negative h) refl

  pub below_lt : below h < 2 ^ 42
  below_lt = below_by (negative h) refl

  -- the sign, as the code looks at it
  pub is_negative : bit_and (h / 32768) 1 ≡ 1 → negative h ≡ true
  is_negative e = eq-eqb (h / 32768 % 2) 1 (sym (and_mask (h / 32768) 1) ∙ e)

  pub is_positive : (bit_and (h / 32768) 1 ≡ 1 → ⊥) → negative h ≡ false
  is_positive e = ne_eqb (h / 32768 % 2) 1 (λ z. e (and_mask (h / 32768) 1 ∙ z))

pub unbalanced_is : (w0 w1 a b c d : ℕ) → a ≡ above w0 → b ≡ above w1 → c ≡ below w0 → d ≡ below w1 → eqb (a + b + 4194304) (c + d) ≡ unbalanced w0 w1
unfolding unbalanced
unbalanced_is w0 w1 a b c d ea eb ec ed = rw (ea, eb, ec, ed)
