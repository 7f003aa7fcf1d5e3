-- Laws of sums from the front: a number below a sum lies in exactly one of its terms, and a sum over some of the numbers by a test.
use Prim.Native.Nat.{ℕ, zero, suc, ◌+◌, ◌≤◌, ◌<◌}
use native.Mathlib.Omega.{arith}
use native.Mathlib.Nat.{not-suc-le-zero}
use native.Mathlib.Decide.{dec_le}
use mathlib.Core.Path.{◌≡◌}
use mathlib.Core.Logic.{by_cases}
use lib.Dec.{ltb}
use borrow.Author.Tests.{lt-ltb, le-ltb}
use Rattle.bits.specs.Refusals.{pick}
use Rattle.order.specs.Sums.{sum_to}
use Rattle.order.proofs.Sums.{sum_ext}

-- more terms, no smaller a sum
pub sum_mono : (n m : ℕ) (f : ℕ → ℕ) → n ≤ m → sum_to n f ≤ sum_to m f
unfolding sum_to
sum_mono n zero f h = let z : n ≡ 0 = omega arith in rw z (omega arith)
sum_mono n (suc m) f h =
    by_cases (dec_le n m)
    (λ y. omega (arith, sum_mono n m f y))
    (λ y. let z : n ≡ suc m = omega (arith, y) in rw z (omega arith))

-- b lies in term k: the terms before it come to b at most, and with it to more
pub record Spot (f : ℕ → ℕ) (b k : ℕ) : Type 0 where
  pub from : sum_to k f ≤ b
  pub to : b < sum_to k f + f k

-- there is such a term
pub spot : (n : ℕ) (f : ℕ → ℕ) (b : ℕ) → b < sum_to n f → (k : ℕ) × (k < n) × Spot f b k
unfolding sum_to
spot zero f b h = absurd (not-suc-le-zero h)
spot (suc n) f b h =
    by_cases (dec_le (suc b) (sum_to n f))
    (λ y. let at = spot n f b y in (at.0, omega (arith, at.1), at.2))
    (λ y. (n, omega arith, record { from = omega (arith, y); to = h }))

-- term k ends where the next begins
pub spot_end : (n : ℕ) (f : ℕ → ℕ) (k : ℕ) → k < n → sum_to k f + f k ≤ sum_to n f
unfolding sum_to
spot_end n f k h = sum_mono (suc k) n f h

-- and only one
pub spot_once : (f : ℕ → ℕ) (b i j : ℕ) → Spot f b i → Spot f b j → i ≡ j
spot_once f b i j x y =
    by_cases (dec_le (suc i) j)
    (λ l. absurd (omega (arith, spot_end j f i l, x.to, y.from)))
    (λ l.
    by_cases (dec_le (suc j) i)
    (λ m. absurd (omega (arith, spot_end i f j m, y.to, x.from)))
    (λ m. omega (arith, l, m)))

-- the terms below m, picked by a test out of count
pub sum_cut : (count m : ℕ) (f : ℕ → ℕ) → m ≤ count → sum_to count (λ k. pick (ltb k m) (f k) 0) ≡ sum_to m f
unfolding sum_to
sum_cut zero m f h = let z : m ≡ 0 = omega arith in rw z
sum_cut (suc n) m f h =
    by_cases (dec_le m n)
    (λ y. rw (le-ltb n m y) (omega (arith, sum_cut n m f y)))
    (λ y.
    let z : m ≡ suc n = omega (arith, y) in
    rw (z, lt-ltb n (suc n) (omega arith))
    (let same : sum_to n (λ k. pick (ltb k (suc n)) (f k) 0) ≡ sum_to n f = sum_ext n _ f (λ k l. rw (lt-ltb k (suc n) (omega arith))) in omega arith))
