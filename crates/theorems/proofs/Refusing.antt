-- What every refusal of a function comes from: none, one of its numbers, or one of two judgments by a test. A list holds what a shorter one holds.
use Prim.Native.Nat.{ℕ, ◌≤◌}
use native.Mathlib.Nat.{le_refl}
use native.Mathlib.Omega.{arith}
use mathlib.Core.Path.{◌≡◌, refl, sym, ◌∙◌}
use mathlib.Core.List.{List, [], ◌∷◌}
use mathlib.Core.Bool.{Bool, true, false, ◌&&◌, ◌||◌, false≢true}
use lib.Dec.{eqb}
use borrow.Author.Tests.{eqb-true, eqb-false, leb-true}
use Rattle.std.specs.Prelude.{Ok, Err}
use Rattle.bits.specs.declared.Refusal.{Refusal}
use Rattle.bits.specs.Refusals.{pick, refusal, none, answered}
use Rattle.bits.proofs.Reading.{picked, of_both}
use Rattle.order.proofs.Entries.{split}
use Rattle.grid.proofs.Accepted.{and_parts}
use Rattle.theorems.specs.Refusing.{among, rules, placed, Refuses, Answers}

-- whether a list holds all of another
abbrev pub holds : List ℕ → List ℕ → Bool
holds l [] = true
holds l (k ∷ more) = among l k && holds l more

-- a number of a list of rules is one of the rules
pub ruled : (l : List ℕ) (n : ℕ) → rules l ≡ true → among l n ≡ true → (1 ≤ n) × (n ≤ 14)
ruled [] n e h = absurd (false≢true h)
ruled (k ∷ more) n e h =
    let parts = and_parts _ _ e in
    let own = and_parts _ _ parts.0 in
    split (eqb k n)
    (λ t. let is : k ≡ n = eqb-true k n t in (rw (← is) (leb-true 1 k own.0), rw (← is) (leb-true k 14 own.1)))
    (λ t. ruled more n parts.1 (rw t at h))

pub among_more : (l more : List ℕ) (n : ℕ) → holds l more ≡ true → among more n ≡ true → among l n ≡ true
among_more l [] n e h = absurd (false≢true h)
among_more l (k ∷ more) n e h =
    let parts = and_parts _ _ e in
    split (eqb k n)
    (λ t. let is : k ≡ n = eqb-true k n t in rw (← is) parts.0)
    (λ t. among_more l more n parts.1 (rw t at h))

pub refuses_none : (numbers : List ℕ) (last : ℕ) → rules numbers ≡ true → Refuses numbers last none
refuses_none numbers last ok = record { ruled = ok; listed = refl; inside = omega arith; elsewhere = λ e. refl }

or_right : (a b : Bool) → b ≡ true → (a || b) ≡ true
or_right true b e = refl
or_right false b e = e

pub refuses_with : (numbers : List ℕ) (last n place : ℕ) → rules numbers ≡ true → among numbers n ≡ true → among placed n ≡ true → place ≤ last
    → Refuses numbers last (refusal n place)
refuses_with numbers last n place ok h p l =
    record { ruled = ok; listed = or_right (eqb 0 n) (among numbers n) h; inside = l; elsewhere = λ e. absurd (false≢true (sym e ∙ p)) }

-- at place 0
pub refuses_here : (numbers : List ℕ) (n : ℕ) → rules numbers ≡ true → among numbers n ≡ true → Refuses numbers 0 (refusal n 0)
refuses_here numbers n ok h = record { ruled = ok; listed = or_right (eqb 0 n) (among numbers n) h; inside = le_refl 0; elsewhere = λ e. refl }

-- The law: one of two judgments by a test
pub refuses_pick : (numbers : List ℕ) (last : ℕ) (b : Bool) (x y : Refusal) → Refuses numbers last x → Refuses numbers last y
    → Refuses numbers last (pick b x y)
refuses_pick numbers last b x y h k = of_both (Refuses numbers last) b x y h k

-- and a list that holds more
pub refuses_more : (l more : List ℕ) (last end : ℕ) (r : Refusal) → rules l ≡ true → holds l more ≡ true → last ≤ end → Refuses more last r
    → Refuses l end r
refuses_more l more last end r ok h k d =
    record {
      ruled = ok;
      listed =
          split (eqb 0 r.number) (λ t. rw t) (λ t. or_right (eqb 0 r.number) (among l r.number)
          (among_more l more r.number h (rw t at d.listed)));
      inside = omega (arith, d.inside);
      elsewhere = d.elsewhere;
    }

-- beside a refusal
pub beside : {A : Type 0} (r : Refusal) (v zero : A) → (r.number ≡ 0 → ⊥) → pick (eqb r.number 0) v zero ≡ zero
beside r v zero some = picked (λ x. x ≡ zero) (eqb r.number 0) v zero (λ e. absurd (some (eqb-true r.number 0 e))) (λ e. refl)

-- every answer that a refusal and a value come to
pub answers_lem : {A : Type 0} (r : Refusal) (a : A) → Answers (answered r a) r
answers_lem r a = picked (λ x. Answers x r) (eqb r.number 0) (Ok a) (Err r) (eqb-true r.number 0) (λ e. (eqb-false r.number 0 e, refl))
