-- The theorems on an order of sections: no entry twice, sums by section and as sent, sections to sent numbers and back, and the same over what
-- looking up answers.
use Prim.Native.Nat.{ℕ, ◌≤◌, ◌<◌}
use native.Mathlib.Omega.{arith}
use mathlib.Core.Path.{◌≡◌, sym, ◌∙◌, ap}
use mathlib.Core.List.{List}
use mathlib.Core.Bool.{true}
use lib.ListN.{get_or}
use Rattle.bits.specs.Refusals.{pick, none}
use Rattle.order.specs.declared.SectionNumber.{SectionNumber}
use Rattle.order.specs.declared.SentNumber.{SentNumber}
use Rattle.order.specs.Order.{has, is_order}
use Rattle.order.specs.Tables.{tabulate, index_of, inverse_of}
use Rattle.order.specs.Sums.{sum_to}
use Rattle.order.specs.Numbers.{SentAnswer, SectionAnswer, sent_of, section_of}
use Rattle.order.proofs.Entries.{once, index_of_lem}
use Rattle.order.proofs.Sums.{sum_ext}
use Rattle.order.proofs.Reach.{order_length, order_distinct, order_below, order_sum_marks, order_reaches}
use Rattle.order.proofs.Tables.{get_d_tabulate}
use Rattle.order.proofs.Inverse.{inverse_at, inverse_there, inverse_order, inverse_inverse}
use Rattle.order.proofs.Numbers.{sent_answer_lem, section_answer_lem}

module _ (count : ℕ) (l : List ℕ) (o : is_order count l ≡ true) where
  pub order_once : (i j : ℕ) → i < count → j < count → get_or l i 0 ≡ get_or l j 0 → i ≡ j
  order_once i j hi hj q = once l i j (order_distinct count l o) (omega (arith, order_length count l o)) (omega (arith, order_length count l o)) q

  -- by section or as sent, a sum is the same
  pub order_sum : (f : ℕ → ℕ) → sum_to count (λ j. f (get_or l j 0)) ≡ sum_to count f
  order_sum f = order_sum_marks count l o f ∙ sum_ext count (λ k. pick (has k l) (f k) 0) f (λ k h. rw (order_reaches count l o k h))

  -- an entry's index is where it stands
  pub index_back : (j : ℕ) → j < count → index_of (get_or l j 0) l ≡ j
  index_back j h = index_of_lem l j (order_distinct count l o) (omega (arith, order_length count l o))

  -- from a section to its sent number and back
  pub inverse_back : (j : ℕ) → j < count → get_or (inverse_of count l) (get_or l j 0) 0 ≡ j
  inverse_back j h = inverse_at count l (get_or l j 0) (order_below count l o j h) ∙ index_back j h

-- an order is determined by its inverse
pub inverse_determines : (count : ℕ) (l m : List ℕ) → is_order count l ≡ true → is_order count m ≡ true → inverse_of count l ≡ inverse_of count m → l ≡ m
inverse_determines count l m ol om e = sym (inverse_inverse count l ol) ∙ ap (inverse_of count) e ∙ inverse_inverse count m om

-- by section, the words come to the same sum as they do as sent
pub through_sum : (f : ℕ → ℕ) (count : ℕ) (l : List ℕ) → is_order count l ≡ true → sum_to count (λ j. get_or (tabulate count (λ i. f (get_or l i 0))) j 0) ≡ sum_to count f
through_sum f count l o =
    sum_ext count (λ j. get_or (tabulate count (λ i. f (get_or l i 0))) j 0) (λ j. f (get_or l j 0))
    (λ j h. get_d_tabulate count (λ i. f (get_or l i 0)) j h)
    ∙ order_sum count l o f

-- through an order of at most 65,536 sections
module _ (count : ℕ) (l : List ℕ) (small : count ≤ 65536) (o : is_order count l ≡ true) where
  -- a section's sent number is sent for that section
  pub section_of_sent_lem : (s : SectionNumber) → s.0 < count
      → ◌≡◌ {A = SectionAnswer} (section_of (inverse_of count l) count (sent_of l count s).sent) (record { section = s; refusal = none })
  section_of_sent_lem s h =
      rw (sent_answer_lem count l small o s h, section_answer_lem count (inverse_of count l) small (inverse_order count l o) (record { 0 = get_or l s.0 0 }) (order_below count l o s.0 h))
      (ap (λ (j : ℕ). record { section = record { 0 = j }; refusal = none }) (inverse_back count l o s.0 h))

  -- and the other way round
  pub sent_of_section_lem : (k : SentNumber) → k.0 < count
      → ◌≡◌ {A = SentAnswer} (sent_of l count (section_of (inverse_of count l) count k).section) (record { sent = k; refusal = none })
  sent_of_section_lem k h =
      let inv : List ℕ = inverse_of count l in
      rw (section_answer_lem count inv small (inverse_order count l o) k h, sent_answer_lem count l small o (record { 0 = get_or inv k.0 0 }) (order_below count inv (inverse_order count l o) k.0 h))
      (ap (λ (j : ℕ). record { sent = record { 0 = j }; refusal = none }) (inverse_there count l o k.0 h))
