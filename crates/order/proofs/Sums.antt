-- Laws of sums from 0 to n - 1, and the sum over entries that are below n and distinct, as a sum over the numbers that occur.
use Prim.Native.Nat.{ℕ, zero, suc, ◌+◌, ◌≤◌, ◌<◌}
use native.Mathlib.Omega.{arith}
use native.Mathlib.Nat.{not-suc-le-zero}
use native.Mathlib.Decide.{ℕ_discrete}
use mathlib.Core.Path.{◌≡◌, refl, sym}
use mathlib.Core.Logic.{by_cases}
use mathlib.Core.List.{List, [], ◌∷◌}
use mathlib.Core.Bool.{true, false, not, ◌||◌}
use lib.ListN.{length, get_or}
use lib.Dec.{eqb, ltb}
use borrow.Author.Tests.{ltb-true, eq-eqb, ne_eqb, not-true}
use Rattle.bits.specs.Refusals.{pick}
use Rattle.bits.proofs.Bits.{and_left, and_right}
use Rattle.order.specs.Order.{has, all_below, distinct}
use Rattle.order.specs.Sums.{sum_to}

-- equal terms, equal sums
pub sum_ext : (n : ℕ) (f g : ℕ → ℕ) → ((k : ℕ) → k < n → f k ≡ g k) → sum_to n f ≡ sum_to n g
unfolding sum_to
sum_ext zero f g e = refl
sum_ext (suc n) f g e = rw (sum_ext n f g (λ k h. e k (omega arith)), e n (omega arith))

pub sum_zero : (n : ℕ) → sum_to n (λ k. 0) ≡ 0
unfolding sum_to
sum_zero zero = refl
sum_zero (suc n) = rw (sum_zero n)

pub sum_ones : (n : ℕ) → sum_to n (λ k. 1) ≡ n
unfolding sum_to
sum_ones zero = refl
sum_ones (suc n) = omega (arith, sum_ones n)

-- the first term apart, instead of the last
pub sum_first : (n : ℕ) (f : ℕ → ℕ) → sum_to (suc n) f ≡ f 0 + sum_to n (λ k. f (suc k))
unfolding sum_to
sum_first zero f = omega arith
sum_first (suc n) f = omega (arith, sum_first n f)

-- two sums that differ at one place
pub sum_point : (n x v : ℕ) (g h : ℕ → ℕ) → x < n → ((k : ℕ) → (k ≡ x → ⊥) → g k ≡ h k) → g x ≡ h x + v → sum_to n g ≡ sum_to n h + v
unfolding sum_to
sum_point zero x v g h l same here = absurd (not-suc-le-zero l)
sum_point (suc n) x v g h l same here =
    by_cases (ℕ_discrete x n)
    (λ q.
    let before : sum_to n g ≡ sum_to n h = sum_ext n g h (λ k b. same k (λ p. omega arith)) in
    let last : g n ≡ h n + v = rw q at here in
    omega arith)
    (λ q.
    let before : sum_to n g ≡ sum_to n h + v = sum_point n x v g h (omega (arith, q)) same here in
    let last : g n ≡ h n = same n (λ p. q (sym p)) in
    omega arith)

-- terms of 0 and 1 come to n at most, and to less where one is 0
pub sum_most : (n : ℕ) (g : ℕ → ℕ) → ((k : ℕ) → g k ≤ 1) → sum_to n g ≤ n
unfolding sum_to
sum_most zero g h = omega arith
sum_most (suc n) g h = omega (arith, sum_most n g h, h n)

pub sum_less : (n x : ℕ) (g : ℕ → ℕ) → ((k : ℕ) → g k ≤ 1) → x < n → g x ≡ 0 → sum_to n g < n
unfolding sum_to
sum_less zero x g h l z = absurd (not-suc-le-zero l)
sum_less (suc n) x g h l z =
    by_cases (ℕ_discrete x n)
    (λ q. let last : g n ≡ 0 = rw q at z in omega (arith, sum_most n g h))
    (λ q. omega (arith, h n, sum_less n x g h (omega (arith, q)) z))

-- over distinct entries below n: the sum of f at each is the sum of f at the numbers that occur
pub sum_entries : (n : ℕ) (f : ℕ → ℕ) (l : List ℕ) → all_below n l ≡ true → distinct l ≡ true
    → sum_to (length l) (λ j. f (get_or l j 0)) ≡ sum_to n (λ k. pick (has k l) (f k) 0)
unfolding has all_below distinct sum_to
sum_entries n f [] b d = sym (sum_zero n)
sum_entries n f (x ∷ l) b d =
    let rest : sum_to (length l) (λ j. f (get_or l j 0)) ≡ sum_to n (λ k. pick (has k l) (f k) 0) =
    sum_entries n f l (and_right (ltb x n) (all_below n l) b) (and_right (not (has x l)) (distinct l) d) in
    let new : has x l ≡ false = not-true (has x l) (and_left (not (has x l)) (distinct l) d) in
    let more : sum_to n (λ k. pick (eqb x k || has k l) (f k) 0) ≡ sum_to n (λ k. pick (has k l) (f k) 0) + f x =
    sum_point n x (f x) (λ k. pick (eqb x k || has k l) (f k) 0) (λ k. pick (has k l) (f k) 0)
    (ltb-true x n (and_left (ltb x n) (all_below n l) b))
    (λ k apart. rw (ne_eqb x k (λ q. apart (sym q))))
    (rw (eq-eqb x x refl, new) (omega arith)) in
    omega (arith, sum_first (length l) (λ j. f (get_or (x ∷ l) j 0)))
