-- Laws of the check: the parts of an order, which refusal each way of the check gives, and what an acceptance says.
use Prim.Native.Nat.{ℕ, ◌≤◌, ◌<◌}
use native.Mathlib.Omega.{arith}
use mathlib.Core.Path.{◌≡◌, sym, ap}
use mathlib.Core.List.{List}
use mathlib.Core.Bool.{true, false, ◌&&◌}
use lib.ListN.{length, replicate, length-replicate, get_or-replicate}
use lib.Dec.{ltb}
use borrow.Author.Tests.{lt-ltb, le-ltb, ltb-true, ltb-false, eq-eqb, ne_eqb}
use Rattle.bits.specs.declared.Refusal.{Refusal}
use Rattle.bits.specs.Refusals.{refusal, none, answered}
use Rattle.bits.proofs.Answered.{answered_ok}
use Rattle.std.specs.Prelude.{Result, Ok, Err}
use Rattle.order.specs.Order.{all_below, distinct, is_order, checked}
use Rattle.order.specs.Private.{Unmarked}
use Rattle.order.proofs.Entries.{split}

abbrev pub number : Refusal → ℕ
number r = r.number

-- so many zeroes are marks for as many numbers or fewer
pub unmarked : (size n : ℕ) → n ≤ size → Unmarked n (replicate size 0)
unmarked size n h = record { room = rw (length-replicate {A = ℕ} size 0) h; clear = λ k low. get_or-replicate {A = ℕ} size k 0 0 (omega arith) }

module _ (count : ℕ) (l : List ℕ) where
  pub other_length : (length l ≡ count → ⊥) → false ≡ is_order count l
  unfolding is_order
  other_length h = rw (ne_eqb (length l) count h)

  pub same_length : length l ≡ count → (all_below count l && distinct l) ≡ is_order count l
  unfolding is_order
  same_length h = rw (eq-eqb (length l) count h)

  pub checked_many : 65536 < count → refusal 10 0 ≡ checked count l
  unfolding checked
  checked_many h = rw (lt-ltb 65536 count h)

  pub checked_good : count ≤ 65536 → is_order count l ≡ true → none ≡ checked count l
  unfolding checked
  checked_good h t = rw (le-ltb 65536 count h, t)

  pub checked_bad : count ≤ 65536 → is_order count l ≡ false → refusal 13 0 ≡ checked count l
  unfolding checked
  checked_bad h t = rw (le-ltb 65536 count h, t)

  -- what an acceptance says
  pub accepted : (checked count l).number ≡ 0 → (count ≤ 65536) × (is_order count l ≡ true)
  accepted z =
      split (ltb 65536 count)
      (λ t. absurd (omega (arith, ap number (checked_many (ltb-true 65536 count t)))))
      (λ t.
      let small : count ≤ 65536 = ltb-false 65536 count t in
      split (is_order count l)
      (λ o. (small, o))
      (λ o. absurd (omega (arith, ap number (checked_bad small o)))))

  -- the same as answers
  pub check_many : 65536 < count → ◌≡◌ {A = Result (Unit {0}) Refusal} (Err (refusal 10 0)) (answered (checked count l) (tt {0}))
  check_many h = rw (← checked_many h)

  pub check_good : count ≤ 65536 → is_order count l ≡ true → ◌≡◌ {A = Result (Unit {0}) Refusal} (Ok tt) (answered (checked count l) (tt {0}))
  check_good h t = rw (← checked_good h t)

  pub check_bad : count ≤ 65536 → is_order count l ≡ false → ◌≡◌ {A = Result (Unit {0}) Refusal} (Err (refusal 13 0)) (answered (checked count l) (tt {0}))
  check_bad h t = rw (← checked_bad h t)

  pub check_passed : (u : Unit {0}) → Ok u ≡ answered (checked count l) (tt {0}) → none ≡ checked count l
  check_passed u e =
      let ok = accepted (answered_ok (checked count l) (tt {0}) u (sym e)).0 in
      checked_good ok.0 ok.1
