-- What a filter writes of a float is what was read: the pattern of an f16's value is that f16's pattern.
use Prim.Native.Nat.{ℕ, suc, ◌+◌, ◌-◌, ◌*◌, ◌/◌, ◌%◌, ◌^◌, ◌≤◌, ◌<◌}
use native.Mathlib.Decide.{dec_le}
use native.Mathlib.Omega.{arith}
use native.Mathlib.Nat.{mod-lt, mul-div_cancel, mul-le-mul_right, div-one}
use mathlib.Core.Path.{◌≡◌, refl, ◌∙◌, ap}
use mathlib.Core.Logic.{by_cases}
use mathlib.Core.Bool.{Bool, true, false}
use lib.Dec.{eqb, lit<}
use lib.Pow.{pow-add, pow_mono, shl_lt, shl-shr}
use lib.Ieee.{Float, fin, up, down, size}
use lib.Ieee.Digits.{size-lt, size-le}
use lib.Ieee.Exact.{HasValue}
use lib.Ieee.Fits.{down_pos}
use borrow.Author.Tests.{eqb-true, eqb-false}
use Rattle.bits.specs.Refusals.{pick}
use Rattle.bits.specs.Half.{negative, exponent, fraction, scaled, half}
use Rattle.numbers.proofs.Half.{half_exact}
use Rattle.filter.specs.Values.{pattern}

-- the pattern by the sign and the size times 2^24
abbrev written : Bool → ℕ → ℕ
written s n = pick s 32768 0 + (size n - 11) * 1024 + n / 2 ^ (size n - 11)

pattern_of : (x : Float) (s : Bool) (n : ℕ) → HasValue x s n (2 ^ 24) → pattern x ≡ written s n
unfolding pattern
pattern_of (fin t m e) s n v =
    let whole : m * up e * 2 ^ 24 / down e ≡ n = ap (λ (z : ℕ). z / down e) v.1 ∙ mul-div_cancel n (down_pos e) in
    rw (whole, v.0)
pattern_of lib.Ieee.nan s n v = elim v [ ]
pattern_of (lib.Ieee.inf _) s n v = elim v [ ]

size_is : (n k l : ℕ) → l ≡ suc k → 2 ^ k ≤ n → n < 2 ^ l → size n ≡ l
size_is n k l next low high =
    by_cases (dec_le (size n) k)
    (λ y. absurd (omega (arith, size-lt n, pow_mono y)))
    (λ y. omega (arith, y, size-le n l high))

module _ (h : ℕ) (small : h < 65536) where
  sign_part : (b : Bool) → negative h ≡ b → pick b 32768 0 + exponent h * 1024 + fraction h ≡ h
  sign_part true e = omega (arith, eqb-true (h / 32768 % 2) 1 e)
  sign_part false e = omega (arith, eqb-false (h / 32768 % 2) 1 e)

  by_exponent : (b : Bool) → eqb (exponent h) 0 ≡ b → written (negative h) (scaled h) ≡ h
  by_exponent true e =
      let none : exponent h ≡ 0 = eqb-true (exponent h) 0 e in
      let short : size (fraction h) - 11 ≡ 0 = omega (arith, size-le (fraction h) 10 (mod-lt h (lit< tt))) in
      rw (e, short, div-one) (omega (arith, sign_part (negative h) refl, none))
  by_exponent false e =
      let some = eqb-false (exponent h) 0 e in
      let frac : fraction h < 1024 = mod-lt h (lit< tt) in
      let j = exponent h - 1 in
      let n = (1024 + fraction h) * 2 ^ j in
      let low : 2 ^ (10 + j) ≤ n = rw (pow-add 2 10 j) (mul-le-mul_right (2 ^ j) (omega arith)) in
      let digits : size n - 11 ≡ j = omega (arith, size_is n (10 + j) (11 + j) (omega arith) low (shl_lt 11 j (omega arith))) in
      rw (e, digits, shl-shr (1024 + fraction h) j) (omega (arith, sign_part (negative h) refl, some))

  pub pattern_half : pattern (half h) ≡ h
  pattern_half = pattern_of (half h) (negative h) (scaled h) (half_exact h) ∙ by_exponent (eqb (exponent h) 0) refl
