-- Laws of rounding up, of the powers that sizes are divided by, and of products that fit.
use Prim.Native.Nat.{ℕ, zero, suc, ◌+◌, ◌-◌, ◌*◌, ◌/◌, ◌%◌, ◌^◌, ◌≤◌, ◌<◌}
use native.Mathlib.Decide.{dec_le}
use native.Mathlib.Omega.{arith}
use native.Mathlib.Nat.{div-zero, div-eq_of_lt, add-div_right, div-mul-le_self, lt-div-mul-add, mul-le-mul_right, mul-le-mul_left, mul-lt-mul_of_pos_right, lt_of_le_of_lt, le_of_lt, lt_of_mul-lt-mul_right, mul_comm, suc-mul, div-le_self, zero-mul, mod-lt, div-lt_iff_lt-mul}
use mathlib.Core.Path.{◌≡◌, refl, sym, subst⁻¹}
use mathlib.Core.Logic.{by_cases}
use lib.Dec.{lit<}
use lib.Pow.{pow-add, pow_pos, shl_exact}
use Rattle.grid.specs.Sizes.{up}

-- nothing divides into nothing
pub up_zero : (b : ℕ) → 0 < b → up 0 b ≡ 0
unfolding up
up_zero b h = div-eq_of_lt (omega arith)

pub up_none : (a : ℕ) → up a 0 ≡ 0
unfolding up
up_none a = div-zero (a + 0 - 1)

-- as the code has it: nothing wraps
pub up_by : (a b : ℕ) → 0 < a → 0 < b → (a - 1) / b + 1 ≡ up a b
unfolding up
up_by a b ha hb =
    let e : a + b - 1 ≡ a - 1 + b = omega arith in
    rw e (sym (add-div_right (a - 1) hb))

-- so many sides cover it, and no side is spare
pub up_covers : (a b : ℕ) → 0 < b → a ≤ up a b * b
unfolding up
up_covers a b hb = omega (arith, lt-div-mul-add {a = a + b - 1} {b = b} hb)

pub up_tight : (a b : ℕ) → 0 < a → up a b * b < a + b
unfolding up
up_tight a b ha = omega (arith, div-mul-le_self (a + b - 1) b)

pub up_parts : (a b : ℕ) → 0 < up a b → (0 < a) × (0 < b)
up_parts zero zero h = omega (arith, up_none 0)
up_parts zero (suc b) h = omega (arith, up_zero (suc b) (omega arith))
up_parts (suc a) zero h = omega (arith, up_none (suc a))
up_parts (suc a) (suc b) h = (omega arith, omega arith)

-- a part begins inside exactly where its number is below the count
pub begins : (a b k : ℕ) → k < up a b → k * b < a
begins a b k h = omega (arith, mul-le-mul_right b h, suc-mul k b, up_tight a b (up_parts a b (omega arith)).0)

pub holds : (a b k : ℕ) → 0 < b → k * b < a → k < up a b
holds a b k hb h = lt_of_mul-lt-mul_right b (omega (arith, up_covers a b hb))

pub up_pos : (a b : ℕ) → 0 < a → 0 < b → 0 < up a b
up_pos a b ha hb = holds a b 0 hb (omega arith)

-- never more than there was
pub up_le : (a b : ℕ) → 0 < b → up a b ≤ a
up_le zero b hb = omega (arith, up_zero b hb)
up_le (suc a) b hb = rw (← up_by (suc a) b (omega arith) hb) (omega (arith, div-le_self (suc a - 1) b))

-- larger parts, fewer of them
pub up_fewer : (a b c : ℕ) → 0 < b → b ≤ c → up a c ≤ up a b
up_fewer a b c hb h =
    by_cases (dec_le (up a c) (up a b)) (λ y. y)
    (λ y. omega (arith, y, begins a c (up a b) (omega (arith, y)), up_covers a b hb, mul-le-mul_left (up a b) h))

-- a picture's columns or rows are below 2 ^ 24
pub up_small : (a b : ℕ) → a ≤ 1073760511 → 128 ≤ b → b ≤ 8192 → up a b < 2 ^ 24
up_small zero b ha hb h = omega (arith, up_zero b (omega arith))
up_small (suc a) b ha hb h = omega (arith, up_tight (suc a) b (omega arith), mul-le-mul_left (up (suc a) b) hb)

-- two numbers of k bits have a product of twice as many
pub below : (k : ℕ) {a b : ℕ} → a < 2 ^ k → b < 2 ^ k → a * b < 2 ^ (k + k)
below k {a} {b} ha hb =
    subst⁻¹ (λ (n : ℕ). a * b < n) (pow-add 2 k k)
    (lt_of_le_of_lt (mul-le-mul_left a (le_of_lt hb)) (mul-lt-mul_of_pos_right ha (pow_pos k)))

-- the power of eight that an LF level divides by, as a shift
pub eight : (l : ℕ) → l ≤ 4 → 1 * 2 ^ (3 * l) % 4294967296 ≡ 8 ^ l
eight zero h = refl
eight (suc zero) h = refl
eight (suc (suc zero)) h = refl
eight (suc (suc (suc zero))) h = refl
eight (suc (suc (suc (suc zero)))) h = refl
eight (suc (suc (suc (suc (suc l))))) h = omega arith

-- a group side, as a shift
pub side_exact : (s : ℕ) → s ≤ 3 → 128 * 2 ^ s % 4294967296 ≡ 128 * 2 ^ s
side_exact s h = shl_exact 8 s 32 (lit< tt) (omega arith)

left_pos : (a b i : ℕ) → i < a * b → 0 < a
left_pos zero b i h = omega (arith, zero-mul b)
left_pos (suc a) b i h = omega arith

-- a square that there is begins inside
module _ (w h side i : ℕ) (there : i < up w side * up h side) where
  pub columns_pos : 0 < up w side
  columns_pos = left_pos (up w side) (up h side) i there

  pub left_lt : i % up w side * side < w
  left_lt = begins w side (i % up w side) (mod-lt i columns_pos)

  pub row_lt : i / up w side < up h side
  row_lt = (div-lt_iff_lt-mul columns_pos).1 (rw (mul_comm (up h side) (up w side)) there)

  pub top_lt : i / up w side * side < h
  top_lt = begins h side (i / up w side) row_lt
