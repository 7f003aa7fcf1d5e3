-- Laws of words written one by one at the places that an order names.
use Prim.Native.Nat.{ℕ, suc, ◌+◌, ◌≤◌, ◌<◌, min}
use native.Mathlib.Omega.{arith}
use native.Mathlib.Nat.{add-suc, suc-add, zero-add, add-zero}
use native.Mathlib.Numerals.{add-one}
use mathlib.Core.Path.{◌≡◌, refl, sym, ◌∙◌, ap}
use mathlib.Core.List.{List, [], ◌∷◌}
use mathlib.Core.Bool.{true, false, not}
use lib.ListN.{length, get_or, set, take, drop, length-set, length-take, drop_of_length-le}
use lib.Seq.{get_or-set_same, get_or-set_other, get_or-take, take_all, drop-cons}
use lib.Dec.{eqb}
use borrow.Author.Tests.{eqb-true, eqb-false, not-true}
use Rattle.bits.specs.Refusals.{pick}
use Rattle.bits.proofs.Bits.{and_left, and_right}
use Rattle.order.specs.Order.{has, distinct, is_order}
use Rattle.order.specs.Tables.{tabulate, index_of, inverse_of, filled}
use Rattle.order.specs.Private.{placed_by, placed}
use Rattle.order.proofs.Entries.{split, false_by, has_at}
use Rattle.order.proofs.Reach.{order_length, order_distinct, order_below, order_reaches}
use Rattle.order.proofs.Tables.{length_tabulate, get_d_tabulate, tabulate_ext, filled_by}
use Rattle.order.proofs.Inverse.{inverse_order, index_inverse}

module _ (f : ℕ → ℕ) where
  pub placed_length : (j : ℕ) (l t : List ℕ) → length (placed_by f j l t) ≡ length t
  unfolding placed_by
  placed_length j [] t = refl
  placed_length j (x ∷ l) t = placed_length (suc j) l (set t x (f j)) ∙ length-set t x (f j)

  -- where no place occurs twice, a place that occurs has its own word, and the other words stay
  pub placed_at : (j : ℕ) (l t : List ℕ) (k : ℕ) → distinct l ≡ true → k < length t
      → get_or (placed_by f j l t) k 0 ≡ pick (has k l) (f (j + index_of k l)) (get_or t k 0)
  unfolding placed_by has index_of distinct
  placed_at j [] t k d h = refl
  placed_at j (x ∷ l) t k d h =
      let rest : get_or (placed_by f (suc j) l (set t x (f j))) k 0 ≡ pick (has k l) (f (suc j + index_of k l)) (get_or (set t x (f j)) k 0) =
      placed_at (suc j) l (set t x (f j)) k (and_right (not (has x l)) (distinct l) d) (omega (arith, length-set t x (f j))) in
      let new : has x l ≡ false = not-true (has x l) (and_left (not (has x l)) (distinct l) d) in
      split (eqb x k)
      (λ e.
      let q : x ≡ k = eqb-true x k e in
      let none : has k l ≡ false = ap (λ (i : ℕ). has i l) (sym q) ∙ new in
      let here : get_or (set t x (f j)) k 0 ≡ f j = ap (λ (i : ℕ). get_or (set t i (f j)) k 0) q ∙ get_or-set_same t k (f j) 0 h in
      rest ∙ rw (e, none, here, add-zero) refl)
      (λ e.
      let other : get_or (set t x (f j)) k 0 ≡ get_or t k 0 = get_or-set_other t x k (f j) 0 (λ q. eqb-false x k e (sym q)) in
      rest ∙ rw (e, other, suc-add, add-suc) refl)

  -- at the places of an order: the word at k is that of k's index
  pub placed_order : (count : ℕ) (l t : List ℕ) → is_order count l ≡ true → count ≤ length t
      → placed_by f 0 (take count l) t ≡ filled (tabulate count (λ k. f (index_of k l))) t
  placed_order count l t o fits =
      let words : List ℕ = tabulate count (λ k. f (index_of k l)) in
      let whole : take count l ≡ l = take_all count l (omega (arith, order_length count l o)) in
      let size : length words ≡ count = length_tabulate count (λ k. f (index_of k l)) in
      let d : distinct l ≡ true = order_distinct count l o in
      rw whole
      (filled_by words t (placed_by f 0 l t) (placed_length 0 l t)
      (λ k h in_table.
      let low : k < count = omega arith in
      placed_at 0 l t k d in_table ∙ rw (order_reaches count l o k low, zero-add) (sym (get_d_tabulate count (λ k. f (index_of k l)) k low)))
      (λ k h in_table.
      let none : has k l ≡ false =
      false_by (has k l) (λ came.
      let at = has_at k l came in
      omega (arith, order_length count l o, rw at.1 at (order_below count l o (index_of k l) (omega (arith, order_length count l o, at.0))))) in
      placed_at 0 l t k d in_table ∙ rw none))

  -- the words as sent, each written at its section: section j has the word that was sent as order[j]
  pub placed_through : (count : ℕ) (l t : List ℕ) → is_order count l ≡ true → count ≤ length t
      → placed_by f 0 (take count (inverse_of count l)) t ≡ filled (tabulate count (λ j. f (get_or l j 0))) t
  placed_through count l t o fits =
      placed_order count (inverse_of count l) t (inverse_order count l o) fits
      ∙ ap (λ (w : List ℕ). filled w t)
      (tabulate_ext count (λ k. f (index_of k (inverse_of count l))) (λ j. f (get_or l j 0)) (λ j h. ap f (index_inverse count l o j h)))

-- the sections of an order, each written at its sent number, are the inverse
pub placed_inverse : (count : ℕ) (l t : List ℕ) → is_order count l ≡ true → count ≤ length t → placed (take count l) t ≡ filled (inverse_of count l) t
unfolding inverse_of
placed_inverse count l t o fits = placed_order (λ j. j) count l t o fits

-- a walk that places: the words that are left make of the table as it is what all make of the table as it was
pub record Placing (f : ℕ → ℕ) (places before table : List ℕ) (j : ℕ) : Type 0 where
  pub size : length table ≡ length before
  pub rest : placed_by f j (drop j places) table ≡ placed_by f 0 places before

pub placing_none : (f : ℕ → ℕ) (places before : List ℕ) → Placing f places before before 0
placing_none f places before = record { size = refl; rest = refl }

module _ (f : ℕ → ℕ) (l : List ℕ) (count : ℕ) (before table : List ℕ) (j : ℕ) (p : Placing f (take count l) before table j) where
  pub placing_more : (next : List ℕ) → j < count → j < length l → next ≡ set table (get_or l j 0) (f j) → Placing f (take count l) before next (j + 1)
  unfolding placed_by
  placing_more next h k e =
      let x : ℕ = get_or l j 0 in
      let here : drop j (take count l) ≡ x ∷ drop (suc j) (take count l) =
      rw (← get_or-take count l j 0 h) (drop-cons (take count l) j 0 (omega (arith, length-take count l))) in
      record {
        size = ap length e ∙ length-set table x (f j) ∙ p.size;
        rest = rw (e, add-one j) (ap (λ (m : List ℕ). placed_by f j m table) (sym here) ∙ p.rest);
      }

  pub placing_all : min count (length l) ≤ j → table ≡ placed_by f 0 (take count l) before
  unfolding placed_by
  placing_all h =
      let none : drop j (take count l) ≡ [] = drop_of_length-le (take count l) {i = j} (omega (arith, length-take count l)) in
      ap (λ (m : List ℕ). placed_by f j m table) (sym none) ∙ p.rest
