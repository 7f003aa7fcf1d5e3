-- Laws of entries: what the tests of an order say of each entry, and the tests from what is said of each.
use Prim.Native.Nat.{ℕ, zero, suc, ◌<◌, suc-le-suc}
use native.Mathlib.Nat.{le_of_suc-le-suc, not-suc-le-zero, zero-lt-suc, suc_inj}
use native.Mathlib.Omega.{arith}
use mathlib.Core.Path.{◌≡◌, refl, sym, ◌∙◌, ap}
use mathlib.Core.List.{List, [], ◌∷◌, ◌++◌}
use mathlib.Core.Bool.{Bool, true, false, not, ◌&&◌, ◌||◌, or-true}
use lib.ListN.{length, get_or}
use lib.Dec.{eqb, ltb}
use borrow.Author.Tests.{lt-ltb, ltb-true, eq-eqb, ne_eqb, eqb-true, eqb-false, not-true}
use Rattle.bits.specs.Refusals.{pick}
use Rattle.bits.proofs.Bits.{and_left, and_right}
use Rattle.order.specs.Order.{has, all_below, distinct}
use Rattle.order.specs.Tables.{index_of}

-- by the two values of a test, with the equation
pub split {ℓ} : {P : Type ℓ} (b : Bool) → (b ≡ true → P) → (b ≡ false → P) → P
split true f g = f refl
split false f g = g refl

pub clash : {b : Bool} → b ≡ true → b ≡ false → ⊥
clash p q = let z : ◌≡◌ {A = ℕ} 0 1 = ap (λ (b : Bool). pick b 0 1) (sym p ∙ q) in omega arith

pub false_by : (b : Bool) → (b ≡ true → ⊥) → b ≡ false
false_by true h = absurd (h refl)
false_by false h = refl

pub and_both : {a b : Bool} → a ≡ true → b ≡ true → (a && b) ≡ true
and_both p q = rw (p, q)

eqb_comm : (a b : ℕ) → eqb a b ≡ eqb b a
eqb_comm a b =
    split (eqb b a)
    (λ t. eq-eqb a b (sym (eqb-true b a t)) ∙ sym t)
    (λ t. ne_eqb a b (λ q. eqb-false b a t (sym q)) ∙ sym t)

-- each entry is below n, said of all at once and of each
pub below_at : (n : ℕ) (l : List ℕ) (j : ℕ) → all_below n l ≡ true → j < length l → get_or l j 0 < n
unfolding all_below
below_at n [] j e h = absurd (not-suc-le-zero h)
below_at n (x ∷ l) zero e h = ltb-true x n (and_left (ltb x n) (all_below n l) e)
below_at n (x ∷ l) (suc j) e h = below_at n l j (and_right (ltb x n) (all_below n l) e) (le_of_suc-le-suc h)

pub below_by : (n : ℕ) (l : List ℕ) → ((j : ℕ) → j < length l → get_or l j 0 < n) → all_below n l ≡ true
unfolding all_below
below_by n [] f = refl
below_by n (x ∷ l) f = and_both (lt-ltb x n (f 0 (zero-lt-suc (length l)))) (below_by n l (λ j h. f (suc j) (suc-le-suc h)))

-- what occurs stands at its index
pub has_at : (k : ℕ) (l : List ℕ) → has k l ≡ true → (index_of k l < length l) × (get_or l (index_of k l) 0 ≡ k)
unfolding has index_of
has_at k [] e = absurd (clash e refl)
has_at k (x ∷ l) e =
    split (eqb x k)
    (λ t. (rw t (zero-lt-suc (length l)), rw t (eqb-true x k t)))
    (λ t. let ih = has_at k l (rw t at e) in (rw t (suc-le-suc ih.0), rw t ih.1))

pub has_of : (l : List ℕ) (j : ℕ) → j < length l → has (get_or l j 0) l ≡ true
unfolding has
has_of [] j h = absurd (not-suc-le-zero h)
has_of (x ∷ l) zero h = rw (eq-eqb x x refl)
has_of (x ∷ l) (suc j) h = rw (has_of l j (le_of_suc-le-suc h)) (or-true (eqb x (get_or l j 0)))

-- where no entry occurs twice, the index of the entry at j is j
pub index_of_lem : (l : List ℕ) (j : ℕ) → distinct l ≡ true → j < length l → index_of (get_or l j 0) l ≡ j
unfolding distinct index_of
index_of_lem [] j e h = absurd (not-suc-le-zero h)
index_of_lem (x ∷ l) zero e h = rw (eq-eqb x x refl)
index_of_lem (x ∷ l) (suc j) e h =
    let here : has (get_or l j 0) l ≡ true = has_of l j (le_of_suc-le-suc h) in
    let new : has x l ≡ false = not-true (has x l) (and_left (not (has x l)) (distinct l) e) in
    let apart : eqb x (get_or l j 0) ≡ false = ne_eqb x (get_or l j 0) (λ q. clash here (ap (λ (k : ℕ). has k l) (sym q) ∙ new)) in
    rw apart (ap suc (index_of_lem l j (and_right (not (has x l)) (distinct l) e) (le_of_suc-le-suc h)))

-- no entry occurs twice, said at once and of each two
pub once : (l : List ℕ) (i j : ℕ) → distinct l ≡ true → i < length l → j < length l → get_or l i 0 ≡ get_or l j 0 → i ≡ j
once l i j e hi hj q = sym (index_of_lem l i e hi) ∙ ap (λ (k : ℕ). index_of k l) q ∙ index_of_lem l j e hj

pub distinct_by : (l : List ℕ) → ((i j : ℕ) → i < length l → j < length l → get_or l i 0 ≡ get_or l j 0 → i ≡ j) → distinct l ≡ true
unfolding distinct
distinct_by [] f = refl
distinct_by (x ∷ l) f =
    let new : has x l ≡ false =
    false_by (has x l) (λ t.
    let at = has_at x l t in
    let z : 0 ≡ suc (index_of x l) = f 0 (suc (index_of x l)) (zero-lt-suc (length l)) (suc-le-suc at.0) (sym at.1) in
    omega arith) in
    and_both {a = not (has x l)} (rw new) (distinct_by l (λ i j hi hj q. suc_inj (f (suc i) (suc j) (suc-le-suc hi) (suc-le-suc hj) q)))

-- one entry more, at the end
module _ (x : ℕ) where
  pub has_more : (k : ℕ) (l : List ℕ) → has k (l ++ (x ∷ [])) ≡ (has k l || eqb x k)
  unfolding has
  has_more k [] = split (eqb x k) (λ t. rw t) (λ t. rw t)
  has_more k (y ∷ l) = split (eqb y k) (λ t. rw t) (λ t. rw t (has_more k l))

  pub below_more : (n : ℕ) (l : List ℕ) → x < n → all_below n l ≡ true → all_below n (l ++ (x ∷ [])) ≡ true
  unfolding all_below
  below_more n [] h e = and_both (lt-ltb x n h) refl
  below_more n (y ∷ l) h e = and_both (and_left (ltb y n) (all_below n l) e) (below_more n l h (and_right (ltb y n) (all_below n l) e))

  pub distinct_more : (l : List ℕ) → has x l ≡ false → distinct l ≡ true → distinct (l ++ (x ∷ [])) ≡ true
  unfolding distinct has
  distinct_more [] h e = refl
  distinct_more (y ∷ l) h e =
      let apart : eqb y x ≡ false = false_by (eqb y x) (λ t. clash (rw t) h) in
      let rest : has x l ≡ false = rw apart at h in
      let new : has y l ≡ false = not-true (has y l) (and_left (not (has y l)) (distinct l) e) in
      let kept : has y (l ++ (x ∷ [])) ≡ false = has_more y l ∙ rw (new, eqb_comm x y, apart) in
      and_both {a = not (has y (l ++ (x ∷ [])))} (rw kept) (distinct_more l rest (and_right (not (has y l)) (distinct l) e))
