-- Laws of inverting into a lent table: a refusal keeps the table, an acceptance leaves the inverse in front.
use Rattle.std.specs.Prelude.{Result, Ok, Err}
use Rattle.bits.specs.Refusals.{answered}
use Rattle.bits.proofs.Answered.{answered_yes, answered_no}
use Prim.Native.Nat.{ℕ, ◌≤◌, ◌<◌}
use native.Mathlib.Omega.{arith}
use mathlib.Core.Path.{◌≡◌, sym, ◌∙◌, ap}
use mathlib.Core.List.{List}
use lib.ListN.{length, take}
use borrow.Author.Tests.{lt-ltb, le-ltb, eq-eqb, ne_eqb}
use Rattle.bits.specs.declared.Refusal.{Refusal}
use Rattle.bits.specs.Refusals.{refusal}
use Rattle.order.specs.Order.{checked}
use Rattle.order.specs.Tables.{inverted, inverse_after}
use Rattle.order.specs.Private.{placed}
use Rattle.order.proofs.Checked.{number, accepted}
use Rattle.order.proofs.Placed.{placed_inverse}

module _ (count : ℕ) (order table : List ℕ) where
  inverted_checked : count ≤ 65536 → count ≤ length table → checked count order ≡ inverted count order table
  unfolding inverted
  inverted_checked small fits = rw (le-ltb 65536 count small, le-ltb (length table) count fits)

  kept : (r : Refusal) → r ≡ inverted count order table → (r.number ≡ 0 → ⊥)
      → (r ≡ inverted count order table) × (table ≡ inverse_after count order table)
  unfolding inverse_after
  kept r e h = (e, rw (ne_eqb (inverted count order table).number 0 (λ z. h (ap number e ∙ z))))

  pub invert_many : (r : Refusal) → r ≡ refusal 10 0 → 65536 < count → (r ≡ inverted count order table) × (table ≡ inverse_after count order table)
  unfolding inverted
  invert_many r e h = kept r (e ∙ rw (lt-ltb 65536 count h)) (λ z. omega (arith, ap number e))

  pub invert_short : (r : Refusal) → r ≡ refusal 3 0 → count ≤ 65536 → length table < count
      → (r ≡ inverted count order table) × (table ≡ inverse_after count order table)
  unfolding inverted
  invert_short r e small h = kept r (e ∙ rw (le-ltb 65536 count small, lt-ltb (length table) count h)) (λ z. omega (arith, ap number e))

  pub invert_bad : (r : Refusal) → r ≡ checked count order → count ≤ 65536 → count ≤ length table → (r.number ≡ 0 → ⊥)
      → (r ≡ inverted count order table) × (table ≡ inverse_after count order table)
  invert_bad r e small fits h = kept r (e ∙ inverted_checked small fits) h

  pub invert_done : (r : Refusal) (after : List ℕ) → r ≡ checked count order → count ≤ 65536 → count ≤ length table → r.number ≡ 0
      → after ≡ placed (take count order) table → (r ≡ inverted count order table) × (after ≡ inverse_after count order table)
  unfolding inverse_after
  invert_done r after e small fits z p =
      let same : r ≡ inverted count order table = e ∙ inverted_checked small fits in
      let good = accepted count order (sym (ap number e) ∙ z) in (
        same,
        rw (eq-eqb (inverted count order table).number 0 (sym (ap number same) ∙ z)) (p ∙ placed_inverse count order table good.1 fits),
      )

  -- as an answer or a refusal
  pub invert_no : {B : Type 0} (r : Refusal) → (r.number ≡ 0 → ⊥) → (r ≡ inverted count order table) × B → (◌≡◌ {A = Result (Unit {0}) Refusal} (Err r) (answered (inverted count order table) tt)) × B
  invert_no r h p = (ap Err p.0 ∙ sym (answered_no (inverted count order table) tt (λ z. h (ap number p.0 ∙ z))), p.1)

  pub invert_yes : {B : Type 0} (r : Refusal) → r.number ≡ 0 → (r ≡ inverted count order table) × B → (◌≡◌ {A = Result (Unit {0}) Refusal} (Ok tt) (answered (inverted count order table) tt)) × B
  invert_yes r z p = (sym (answered_yes (inverted count order table) tt (sym (ap number p.0) ∙ z)), p.1)
