-- Laws of an order: count entries below count and none twice reach every number; and a sum at each entry. `Orders` of the crate `theorems` goes on.
use Prim.Native.Nat.{ℕ, ◌≤◌, ◌<◌}
use native.Mathlib.Omega.{arith}
use mathlib.Core.Path.{◌≡◌, sym, ◌∙◌, ap}
use mathlib.Core.List.{List}
use mathlib.Core.Bool.{Bool, true, false, ◌&&◌}
use lib.ListN.{length, get_or}
use lib.Dec.{eqb}
use borrow.Author.Tests.{eq-eqb, eqb-true}
use Rattle.bits.specs.Refusals.{pick}
use Rattle.bits.proofs.Bits.{and_left, and_right}
use Rattle.order.specs.Order.{has, all_below, distinct, is_order}
use Rattle.order.specs.Tables.{index_of}
use Rattle.order.specs.Sums.{sum_to}
use Rattle.order.proofs.Entries.{split, and_both, below_at, below_by, distinct_by, has_at}
use Rattle.order.proofs.Sums.{sum_ones, sum_less, sum_entries}

-- an order from what is said of each entry
pub order_by_lem : (count : ℕ) (l : List ℕ) → length l ≡ count → ((j : ℕ) → j < count → get_or l j 0 < count)
    → ((i j : ℕ) → i < count → j < count → get_or l i 0 ≡ get_or l j 0 → i ≡ j) → is_order count l ≡ true
unfolding is_order
order_by_lem count l len low apart =
    and_both (eq-eqb (length l) count len)
    (and_both (below_by count l (λ j h. low j (omega arith))) (distinct_by l (λ i j hi hj q. apart i j (omega arith) (omega arith) q)))

mark_small : (b : Bool) → pick b 1 0 ≤ 1
mark_small true = omega arith
mark_small false = omega arith

module _ (count : ℕ) (l : List ℕ) (o : is_order count l ≡ true) where
  -- its parts
  pub order_length : length l ≡ count
  unfolding is_order
  order_length = eqb-true (length l) count (and_left (eqb (length l) count) (all_below count l && distinct l) o)

  pub order_small : all_below count l ≡ true
  unfolding is_order
  order_small = and_left (all_below count l) (distinct l) (and_right (eqb (length l) count) (all_below count l && distinct l) o)

  pub order_distinct : distinct l ≡ true
  unfolding is_order
  order_distinct = and_right (all_below count l) (distinct l) (and_right (eqb (length l) count) (all_below count l && distinct l) o)

  pub order_below : (j : ℕ) → j < count → get_or l j 0 < count
  order_below j h = below_at count l j order_small (omega (arith, order_length))

  -- a sum of f at each entry
  pub order_sum_marks : (f : ℕ → ℕ) → sum_to count (λ j. f (get_or l j 0)) ≡ sum_to count (λ k. pick (has k l) (f k) 0)
  order_sum_marks f =
      ap (λ (n : ℕ). sum_to n (λ j. f (get_or l j 0))) (sym order_length) ∙ sum_entries count f l order_small order_distinct

  -- nothing is left out
  pub order_reaches : (k : ℕ) → k < count → has k l ≡ true
  order_reaches k h =
      split (has k l) (λ t. t) (λ t.
      let less : sum_to count (λ i. pick (has i l) 1 0) < count =
      sum_less count k (λ i. pick (has i l) 1 0) (λ i. mark_small (has i l)) h (rw t) in
      absurd (omega (arith, order_sum_marks (λ i. 1), sum_ones count)))

  -- each number's index, there and back
  pub index_below : (k : ℕ) → k < count → index_of k l < count
  index_below k h = omega (arith, order_length, (has_at k l (order_reaches k h)).0)

  pub index_there : (k : ℕ) → k < count → get_or l (index_of k l) 0 ≡ k
  index_there k h = (has_at k l (order_reaches k h)).1
