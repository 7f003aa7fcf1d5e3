-- Laws of the inverse: from a sent number to its section and back, the inverse of the inverse, and the identity.
use Prim.Native.Nat.{ℕ, ◌<◌}
use mathlib.Core.Path.{◌≡◌, sym, ◌∙◌, ap}
use mathlib.Core.List.{List}
use mathlib.Core.Bool.{true}
use lib.ListN.{length, get_or}
use Rattle.order.specs.Order.{is_order}
use Rattle.order.specs.Tables.{tabulate, index_of, inverse_of, identity}
use Rattle.order.proofs.Reach.{order_by_lem, order_length, index_below, index_there}
use Rattle.order.proofs.Tables.{same_words, length_tabulate, get_d_tabulate}

-- a table of computed words is an order
pub tabulate_order : (count : ℕ) (f : ℕ → ℕ) → ((j : ℕ) → j < count → f j < count) → ((i j : ℕ) → i < count → j < count → f i ≡ f j → i ≡ j)
    → is_order count (tabulate count f) ≡ true
tabulate_order count f low apart =
    order_by_lem count (tabulate count f) (length_tabulate count f) (λ j h. rw (get_d_tabulate count f j h) (low j h))
    (λ i j hi hj q. apart i j hi hj (sym (get_d_tabulate count f i hi) ∙ q ∙ get_d_tabulate count f j hj))

module _ (count : ℕ) (l : List ℕ) where
  pub inverse_length : length (inverse_of count l) ≡ count
  unfolding inverse_of
  inverse_length = length_tabulate count (λ k. index_of k l)

  pub inverse_at : (k : ℕ) → k < count → get_or (inverse_of count l) k 0 ≡ index_of k l
  unfolding inverse_of
  inverse_at k h = get_d_tabulate count (λ k. index_of k l) k h

module _ (count : ℕ) (l : List ℕ) (o : is_order count l ≡ true) where
  -- from a sent number to its section and back
  pub inverse_there : (k : ℕ) → k < count → get_or l (get_or (inverse_of count l) k 0) 0 ≡ k
  inverse_there k h = ap (λ (j : ℕ). get_or l j 0) (inverse_at count l k h) ∙ index_there count l o k h

  pub inverse_order : is_order count (inverse_of count l) ≡ true
  unfolding inverse_of
  inverse_order =
      tabulate_order count (λ k. index_of k l) (λ k h. index_below count l o k h)
      (λ i j hi hj q. sym (index_there count l o i hi) ∙ ap (λ (k : ℕ). get_or l k 0) q ∙ index_there count l o j hj)

  -- the only table of count words that goes back
  pub inverse_unique : (m : List ℕ) → length m ≡ count → ((j : ℕ) → j < count → get_or m (get_or l j 0) 0 ≡ j) → m ≡ inverse_of count l
  inverse_unique m len back =
      same_words count m (inverse_of count l) len (inverse_length count l) (λ k h.
      ap (λ (i : ℕ). get_or m i 0) (sym (index_there count l o k h)) ∙ back (index_of k l) (index_below count l o k h) ∙ sym (inverse_at count l k h))

pub inverse_inverse : (count : ℕ) (l : List ℕ) → is_order count l ≡ true → inverse_of count (inverse_of count l) ≡ l
inverse_inverse count l o =
    sym (inverse_unique count (inverse_of count l) (inverse_order count l o) l (order_length count l o) (inverse_there count l o))

module _ (count : ℕ) where
  pub identity_length : length (identity count) ≡ count
  unfolding identity
  identity_length = length_tabulate count (λ k. k)

  pub identity_at : (k : ℕ) → k < count → get_or (identity count) k 0 ≡ k
  unfolding identity
  identity_at k h = get_d_tabulate count (λ k. k) k h

  pub identity_order : is_order count (identity count) ≡ true
  unfolding identity
  identity_order = tabulate_order count (λ k. k) (λ j h. h) (λ i j hi hj q. q)

  -- the identity is its own inverse
  pub identity_inverse : inverse_of count (identity count) ≡ identity count
  identity_inverse =
      sym
      (inverse_unique count (identity count) identity_order (identity count) identity_length
      (λ j h. ap (λ (i : ℕ). get_or (identity count) i 0) (identity_at j h) ∙ identity_at j h))

-- the index in the inverse is the order's own entry
pub index_inverse : (count : ℕ) (l : List ℕ) → is_order count l ≡ true → (j : ℕ) → j < count → index_of j (inverse_of count l) ≡ get_or l j 0
index_inverse count l o j h =
    sym (inverse_at count (inverse_of count l) j h) ∙ ap (λ (m : List ℕ). get_or m j 0) (inverse_inverse count l o)
