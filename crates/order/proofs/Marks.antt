-- Laws of the marks: after i entries they say exactly which numbers have occurred, and no entry so far was at fault.
use Prim.Native.Nat.{ℕ, ◌+◌, ◌≤◌, ◌<◌}
use native.Mathlib.Omega.{arith}
use native.Mathlib.Numerals.{add-one}
use native.Mathlib.Decide.{ℕ_discrete}
use mathlib.Core.Path.{◌≡◌, refl, sym, ◌∙◌, ap}
use mathlib.Core.Logic.{by_cases}
use mathlib.Core.List.{List, [], ◌∷◌, ◌++◌}
use mathlib.Core.Bool.{Bool, true, false, ◌&&◌, ◌||◌, or-true, or-false}
use lib.ListN.{length, get_or, set, take, length-set}
use lib.Seq.{take-suc, take_all, length-take-le, get_or-take, get_or-set_same, get_or-set_other}
use lib.Dec.{eqb}
use borrow.Author.Tests.{eq-eqb, ne_eqb}
use Rattle.bits.specs.Refusals.{pick}
use Rattle.bits.proofs.Bits.{and_left, and_right}
use Rattle.order.specs.Order.{has, all_below, distinct}
use Rattle.order.specs.Private.{Unmarked}
use Rattle.order.specs.Tables.{index_of}
use Rattle.order.proofs.Entries.{false_by, and_both, below_at, once, has_at, has_more, below_more, distinct_more}

-- a mark as a number
abbrev pub mark : Bool → ℕ
mark b = pick b 1 0

pub record Marked (n : ℕ) (order marks : List ℕ) (i : ℕ) : Type 0 where
  pub within : i ≤ n
  pub room : n ≤ length marks
  pub says : (k : ℕ) → k < n → get_or marks k 0 ≡ mark (has k (take i order))
  pub below : all_below n (take i order) ≡ true
  pub new : distinct (take i order) ≡ true

mark_one : (b : Bool) → (mark b ≡ 0 → ⊥) → b ≡ true
mark_one true h = refl
mark_one false h = absurd (h refl)

mark_none : (b : Bool) → mark b ≡ 0 → b ≡ false
mark_none true h = absurd (omega arith)
mark_none false h = refl

module _ (n : ℕ) (order marks : List ℕ) where
  pub marked_none : Unmarked n marks → Marked n order marks 0
  unfolding has all_below distinct
  marked_none u = record { within = omega arith; room = u.room; says = u.clear; below = refl; new = refl }

module _ (n : ℕ) (order : List ℕ) (whole : length order ≡ n) where
  pub too_large : (i : ℕ) → i < n → n ≤ get_or order i 0 → false ≡ (all_below n order && distinct order)
  too_large i h large =
      sym
      (false_by (all_below n order && distinct order) (λ t.
      let low : get_or order i 0 < n = below_at n order i (and_left (all_below n order) (distinct order) t) (omega arith) in
      omega arith))

  pub marked_all : (marks : List ℕ) (i : ℕ) → Marked n order marks i → n ≤ i → true ≡ (all_below n order && distinct order)
  marked_all marks i m h =
      let all : take i order ≡ order = take_all i order (omega arith) in
      sym (and_both (ap (all_below n) (sym all) ∙ m.below) (ap distinct (sym all) ∙ m.new))

  module _ (marks : List ℕ) (i : ℕ) (m : Marked n order marks i) (h : i < n) (low : get_or order i 0 < n) where
    pub twice : (get_or marks (get_or order i 0) 0 ≡ 0 → ⊥) → false ≡ (all_below n order && distinct order)
    twice set =
        let x : ℕ = get_or order i 0 in
        let came : has x (take i order) ≡ true = mark_one (has x (take i order)) (λ z. set (m.says x (omega arith) ∙ z)) in
        let at = has_at x (take i order) came in
        let len : length (take i order) ≡ i = length-take-le i order (omega arith) in
        let j : ℕ = index_of x (take i order) in
        let j<i : j < i = rw len at at.0 in
        let same : get_or order j 0 ≡ get_or order i 0 = sym (get_or-take i order j 0 j<i) ∙ at.1 in
        sym
        (false_by (all_below n order && distinct order) (λ t.
        let e : j ≡ i = once order j i (and_right (all_below n order) (distinct order) t) (omega arith) (omega arith) same in
        omega arith))

    pub marked_more : get_or marks (get_or order i 0) 0 ≡ 0 → Marked n order (set marks (get_or order i 0) 1) (i + 1)
    marked_more clear =
        let x : ℕ = get_or order i 0 in
        let came : has x (take i order) ≡ false = mark_none (has x (take i order)) (sym (m.says x (omega arith)) ∙ clear) in
        let more : take (i + 1) order ≡ take i order ++ (x ∷ []) = rw add-one (take-suc order i 0 (omega arith)) in
        let said : (k : ℕ) → has k (take (i + 1) order) ≡ (has k (take i order) || eqb x k) = λ k. ap (has k) more ∙ has_more x k (take i order) in
        record {
          within = omega arith;
          room = rw (length-set marks x 1) m.room;
          says = λ k hk.
              by_cases (ℕ_discrete k x)
              (λ q.
              rw (said k, eq-eqb x k (sym q), or-true, q) (get_or-set_same marks x 1 0 (omega (arith, m.room))))
              (λ q.
              rw (said k, ne_eqb x k (λ p. q (sym p)), or-false) (get_or-set_other marks x k 1 0 q ∙ m.says k hk));
          below = ap (all_below n) more ∙ below_more x n (take i order) low m.below;
          new = ap distinct more ∙ distinct_more x (take i order) came m.new;
        }
