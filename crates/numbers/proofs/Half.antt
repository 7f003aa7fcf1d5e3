-- f16: the f32 of a pattern is the number that it stands for, and the code's product is that f32.
use Rattle.std.proofs.Common.{◌≡◌, ℕ, zero, suc, ◌+◌, ◌-◌, ◌*◌, ◌/◌, ◌%◌, ◌^◌, ◌<◌, ◌≤◌, Bool, true, false, not, T, eqb, leb, pos, sym, refl, ap, ◌∙◌, le_trans, lt_of_lt_of_le, mod-lt, mod-eq_of_lt, mul_assoc, mul-le-mul_left, mul-lt-mul_of_pos_right, mul-pos, mul-one, mul_left_comm, arith, lit<, lit≤, le→leb, pow_pos, pow_mono, pow-add, shl_exact, le-ltb, eq-eqb, ne_eqb, le-leb}
use native.Mathlib.Nat.{mul-mul-mul_comm}
use lib.Bits.{bit_and, bit_or, and_mask, and_le_r, or_shifted}
use lib.Ieee.{Float, nan, inf, fin, Format, binary32, up, down, unlike, odd, round, mul, of_int, of_fields, of_bits, in_float, nan_bits, is_nan}
use lib.Ieee.Bits.{nan_bits_above}
use lib.Ieee.Exact.{HasValue, odd_sign, round_exact}
use lib.Ieee.Back.{round_whole}
use lib.Ieee.Fits.{down_pos}
use lib.Ieee.Scale.{round_same}
use borrow.Author.Tests.{lt-leb}
use Rattle.bits.specs.Half.{negative, exponent, fraction, scaled, half}

-- a product of two numbers is rounded once, from their fractions
pub mul_values : (f : Format) (x y : Float) (s t : Bool) (a c b d : ℕ) → 0 < c → 0 < d → HasValue x s a c → HasValue y t b d → mul f x y ≡ round f (unlike s t) (a * b) (c * d)
unfolding mul
mul_values f (fin s' m e) (fin t' n g) s t a c b d hc hd v w =
    ap (λ (z : Bool). round f (unlike z t') (m * up e * (n * up g)) (down e * down g)) v.0
    ∙ ap (λ (z : Bool). round f (unlike s z) (m * up e * (n * up g)) (down e * down g)) w.0
    ∙ round_same f (unlike s t) (m * up e * (n * up g)) (down e * down g) (a * b) (c * d) (mul-pos (down_pos e) (down_pos g)) (mul-pos hc hd)
    (mul-mul-mul_comm (m * up e) (n * up g) c d ∙ ap (λ (z : ℕ). z * (n * up g * d)) v.1 ∙ ap (λ (z : ℕ). a * down e * z) w.1 ∙ mul-mul-mul_comm a (down e) b (down g))
mul_values f nan y s t a c b d hc hd v w = elim v [ ]
mul_values f (inf _) y s t a c b d hc hd v w = elim v [ ]
mul_values f (fin s' m e) nan s t a c b d hc hd v w = elim w [ ]
mul_values f (fin s' m e) (inf _) s t a c b d hc hd v w = elim w [ ]

plain : (t : Bool) → unlike false t ≡ t
plain true = refl
plain false = refl

-- the pattern of 2 ^ (k - 127) with a sign: its sign bit, its exponent's field and an empty fraction
module _ (k : ℕ) (small : k < 255) where
  sign_of : (n : ℕ) → n < 2 → leb 2147483648 (n * 2147483648 + k * 8388608) ≡ eqb n 1
  sign_of zero h = lt-leb 2147483648 (0 * 2147483648 + k * 8388608) (omega arith)
  sign_of (suc zero) h = le-leb 2147483648 (1 * 2147483648 + k * 8388608) (omega arith)
  sign_of (suc (suc n)) h = absurd (omega arith)

  module _ (n : ℕ) (bit : n < 2) where
    field_of : (n * 2147483648 + k * 8388608) % 2147483648 / 8388608 ≡ k
    field_of = omega arith

    digits_of_lem : (n * 2147483648 + k * 8388608) % 8388608 ≡ 0
    digits_of_lem = omega arith

    under : (n * 2147483648 + k * 8388608) % 2147483648 ≤ 2139095040
    under = omega arith

    no_nan : T (not (nan_bits binary32 (n * 2147483648 + k * 8388608)))
    no_nan =
        rw (nan_bits_above binary32 (n * 2147483648 + k * 8388608), le-ltb 2139095040 ((n * 2147483648 + k * 8388608) % 2147483648) under) tt

  power : (x : ℕ) → k ≡ suc x → (n : ℕ) → n < 2 → HasValue (of_bits binary32 (n * 2147483648 + k * 8388608)) (eqb n 1) (8388608 * 2 ^ x) (2 ^ 149)
  unfolding of_bits of_fields
  power x e n h =
      let at : of_bits binary32 (n * 2147483648 + k * 8388608) ≡ of_fields binary32 (eqb n 1) (suc x) 0 =
      rw (sign_of n h, field_of n h, digits_of_lem n h, e) in
      let is : of_fields binary32 (eqb n 1) (suc x) 0 ≡ odd 24 (eqb n 1) 8388608 x 149 =
      rw (ne_eqb (suc x) 255 (omega arith)) in
      rw (at ∙ is) (odd_sign 24 (eqb n 1) 8388608 x 149)

-- the code's pattern is that one
module _ (h k : ℕ) (small : k < 255) where
  pattern : bit_or (bit_and (h / 32768) 1 * 2147483648 % 4294967296) (k * 8388608 % 4294967296) ≡ h / 32768 % 2 * 2147483648 + k * 8388608
  pattern =
      let bit : h / 32768 % 2 < 2 = mod-lt (h / 32768) (lit< tt) in
      let low : k * 8388608 % 4294967296 ≡ k * 8388608 = mod-eq_of_lt (omega arith) in
      rw (and_mask (h / 32768) 1, shl_exact 1 31 32 bit (lit≤ tt), low) (or_shifted (h / 32768 % 2) 31 (k * 8388608) (omega arith))

  pub no_nan_pattern : T (not (nan_bits binary32 (bit_or (bit_and (h / 32768) 1 * 2147483648 % 4294967296) (k * 8388608 % 4294967296))))
  no_nan_pattern = rw pattern (no_nan k small (h / 32768 % 2) (mod-lt (h / 32768) (lit< tt)))

  -- a whole number times that power of two
  pub times_power : (x m : ℕ) → k ≡ suc x → m ≤ 2 ^ 24
      → mul binary32 (of_int binary32 (pos m)) (of_bits binary32 (bit_or (bit_and (h / 32768) 1 * 2147483648 % 4294967296) (k * 8388608 % 4294967296)))
      ≡ round binary32 (negative h) (m * (8388608 * 2 ^ x)) (1 * 2 ^ 149)
  unfolding of_int
  times_power x m e lm =
      rw pattern
      (mul_values binary32 (round binary32 false m 1) (of_bits binary32 (h / 32768 % 2 * 2147483648 + k * 8388608)) false (negative h) m 1 (8388608 * 2 ^ x) (2 ^ 149)
      (lit< tt) (lit< tt)
      (round_whole binary32 false m lm)
      (power k small x e (h / 32768 % 2) (mod-lt (h / 32768) (lit< tt)))
      ∙ ap (λ (t : Bool). round binary32 t (m * (8388608 * 2 ^ x)) (1 * 2 ^ 149)) (plain (negative h)))

-- e = 0: m / 2^24
pub zero_is : (h : ℕ) → bit_and (h / 1024) 31 ≡ 0
    → mul binary32 (of_int binary32 (pos (bit_and h 1023))) (of_bits binary32 (bit_or (bit_and (h / 32768) 1 * 2147483648 % 4294967296) 864026624)) ≡ half h
unfolding half
zero_is h e =
    let none : exponent h ≡ 0 = sym (and_mask (h / 1024) 5) ∙ e in
    let m = bit_and h 1023 in
    times_power h 103 (lit< tt) 102 m refl (omega (arith, and_le_r h 1023))
    ∙ round_same binary32 (negative h) (m * (8388608 * 2 ^ 102)) (1 * 2 ^ 149) m (2 ^ 24) (lit< tt) (lit< tt) (mul_assoc m (8388608 * 2 ^ 102) (2 ^ 24))
    ∙ rw (eq-eqb (exponent h) 0 none) (ap (λ (n : ℕ). round binary32 (negative h) n (2 ^ 24)) (and_mask h 10))

-- e from 1 on: (1024 + m) * 2^(e - 25)
shifts : (m j : ℕ) → m * (8388608 * 2 ^ (j + 102)) * 2 ^ 24 ≡ m * 2 ^ j * (1 * 2 ^ 149)
shifts m j =
    ap (λ (n : ℕ). m * (8388608 * n) * 2 ^ 24) (pow-add 2 j 102)
    ∙ ap (λ (n : ℕ). m * n * 2 ^ 24) (mul_left_comm 8388608 (2 ^ j) (2 ^ 102))
    ∙ ap (λ (n : ℕ). n * 2 ^ 24) (sym (mul_assoc m (2 ^ j) (8388608 * 2 ^ 102)))
    ∙ mul_assoc (m * 2 ^ j) (8388608 * 2 ^ 102) (2 ^ 24)

normal_by : (h j : ℕ) → exponent h ≡ suc j
    → mul binary32 (of_int binary32 (pos (1024 + bit_and h 1023)))
    (of_bits binary32 (bit_or (bit_and (h / 32768) 1 * 2147483648 % 4294967296) ((exponent h + 102) * 8388608 % 4294967296)))
    ≡ half h
unfolding half
normal_by h j e =
    let top : exponent h < 32 = mod-lt (h / 1024) (lit< tt) in
    let m = 1024 + bit_and h 1023 in
    times_power h (exponent h + 102) (omega arith) (j + 102) m (omega (arith, e)) (omega (arith, and_le_r h 1023))
    ∙ round_same binary32 (negative h) (m * (8388608 * 2 ^ (j + 102))) (1 * 2 ^ 149) (m * 2 ^ j) (2 ^ 24) (lit< tt) (lit< tt) (shifts m j)
    ∙ rw (ne_eqb (exponent h) 0 (omega (arith, e)))
    (ap (λ (n : ℕ). round binary32 (negative h) ((1024 + n) * 2 ^ j) (2 ^ 24)) (and_mask h 10)
    ∙ ap (λ (n : ℕ). round binary32 (negative h) ((1024 + fraction h) * 2 ^ n) (2 ^ 24)) (omega (arith, e)))

some : (n : ℕ) → (n ≡ 0 → ⊥) → (j : ℕ) × (n ≡ suc j)
some zero h = absurd (h refl)
some (suc j) h = (j, refl)

pub normal_is : (h : ℕ) → (bit_and (h / 1024) 31 ≡ 0 → ⊥)
    → mul binary32 (of_int binary32 (pos (1024 + bit_and h 1023)))
    (of_bits binary32 (bit_or (bit_and (h / 32768) 1 * 2147483648 % 4294967296) ((bit_and (h / 1024) 31 + 102) * 8388608 % 4294967296)))
    ≡ half h
normal_is h e =
    let j = some (exponent h) (λ z. e (and_mask (h / 1024) 5 ∙ z)) in
    rw (and_mask (h / 1024) 5) (normal_by h j.0 j.1)

-- The f32 of a pattern is scaled / 2^24 itself, with its sign: nothing was rounded.
exact_by : (h m j : ℕ) → m < 2048 → j < 32 → scaled h ≡ m * 2 ^ j → HasValue (half h) (negative h) (scaled h) (2 ^ 24)
unfolding half
exact_by h m j lm lj e =
    let shift : 2 ^ (j + 125) * 2 ^ 24 ≡ 2 ^ j * 2 ^ 149 = ap (λ (n : ℕ). n * 2 ^ 24) (pow-add 2 j 125) ∙ mul_assoc (2 ^ j) (2 ^ 125) (2 ^ 24) in
    round_exact binary32 (negative h) (scaled h) (2 ^ 24) m (j + 125) (lit< tt) (lt_of_lt_of_le lm (lit≤ tt))
    (lt_of_lt_of_le (mul-lt-mul_of_pos_right lm (pow_pos (j + 125)))
    (le_trans (mul-le-mul_left 2048 (pow_mono {i = j + 125} {j = 157} (omega arith))) (lit≤ tt)))
    (ap (λ (n : ℕ). n * 2 ^ 149) e ∙ mul_assoc m (2 ^ j) (2 ^ 149) ∙ ap (λ (n : ℕ). m * n) (sym shift) ∙ sym (mul_assoc m (2 ^ (j + 125)) (2 ^ 24)))

by_exponent : (h : ℕ) (b : Bool) → eqb (exponent h) 0 ≡ b → HasValue (half h) (negative h) (scaled h) (2 ^ 24)
by_exponent h true e = exact_by h (fraction h) 0 (lt_of_lt_of_le (mod-lt h (lit< tt)) (lit≤ tt)) (lit< tt) (rw e (sym (mul-one (fraction h))))
by_exponent h false e =
    let top : exponent h < 32 = mod-lt (h / 1024) (lit< tt) in
    let frac : fraction h < 1024 = mod-lt h (lit< tt) in
    exact_by h (1024 + fraction h) (exponent h - 1) (omega arith) (omega arith) (rw e)

pub half_exact : (h : ℕ) → HasValue (half h) (negative h) (scaled h) (2 ^ 24)
half_exact h = by_exponent h (eqb (exponent h) 0) refl

pub mantissa_fits : (m : ℕ) → m ≤ 2047 → T (in_float binary32 (pos m))
unfolding in_float
mantissa_fits m h = le→leb m (2 ^ 24) (omega arith)

finite : (x : Float) (s : Bool) (a c : ℕ) → HasValue x s a c → T (not (is_nan x))
unfolding is_nan
finite (fin t m e) s a c v = tt
finite nan s a c v = elim v [ ]
finite (inf _) s a c v = elim v [ ]

-- it is a number
pub half_finite : (h : ℕ) → T (not (is_nan (half h)))
half_finite h = finite (half h) (negative h) (scaled h) (2 ^ 24) (half_exact h)
