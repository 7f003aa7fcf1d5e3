-- Laws of an answer or a refusal: when it is which, what each says, and what a `?` hands on.
use mathlib.Core.Path.{◌≡◌, refl, ◌∙◌, ap}
use mathlib.Core.Bool.{Bool, true, false}
use Rattle.std.specs.Prelude.{Result, Ok, Err}
use Rattle.std.specs.Result.{IsErrAnd}
use Rattle.std.proofs.lemmas.Result.{err_from_is_err_and}
use borrow.Author.Tests.{eq-eqb, ne_eqb, eqb-true, eqb-false}
use lib.Dec.{eqb}
use Rattle.bits.specs.Refusals.{pick, answered}
use Rattle.bits.specs.declared.Refusal.{Refusal}

module _ {A : Type 0} (r : Refusal) (a : A) where
  pub answered_yes : r.number ≡ 0 → answered r a ≡ Ok a
  answered_yes z = rw (eq-eqb r.number 0 z)

  pub answered_no : (r.number ≡ 0 → ⊥) → answered r a ≡ Err r
  answered_no h = rw (ne_eqb r.number 0 h)

-- what an answer says, and what a refusal says
ok_by : {A : Type 0} (t : Bool) (r : Refusal) (a b : A) → pick t (Ok a) (Err r) ≡ Ok b → (t ≡ true) × (a ≡ b)
ok_by true r a b e = (refl, cc)
ok_by false r a b e = (cc, cc)

err_by : {A : Type 0} (t : Bool) (r s : Refusal) (a : A) → pick t (Ok a) (Err r) ≡ Err s → (t ≡ false) × (r ≡ s)
err_by true r s a e = (cc, cc)
err_by false r s a e = (refl, cc)

pub answered_ok : {A : Type 0} (r : Refusal) (a b : A) → answered r a ≡ Ok b → (r.number ≡ 0) × (a ≡ b)
answered_ok r a b e =
    let w = ok_by (eqb r.number 0) r a b e in
    (eqb-true r.number 0 w.0, w.1)

pub answered_err : {A : Type 0} (r s : Refusal) (a : A) → answered r a ≡ Err s → (r.number ≡ 0 → ⊥) × (r ≡ s)
answered_err r s a e =
    let w = err_by (eqb r.number 0) r s a e in
    (eqb-false r.number 0 w.0, w.1)

-- a refusal says the same of every answer
pub answered_other : {A B : Type 0} (r s : Refusal) (a : A) (b : B) → answered r a ≡ Err s → answered r b ≡ Err s
answered_other r s a b e =
    let w = answered_err r s a e in
    answered_no r b w.0 ∙ ap Err w.1

-- what stands beside a refusal doesn't matter
beside_by : {A : Type 0} (t : Bool) (a d : A) (e : Result A Refusal) → pick t (Ok a) e ≡ pick t (Ok (pick t a d)) e
beside_by true a d e = refl
beside_by false a d e = refl

pub beside : {A : Type 0} (r : Refusal) (a d : A) → answered r a ≡ answered r (pick (eqb r.number 0) a d)
beside r a d = beside_by (eqb r.number 0) a d (Err r)

-- what a `?` hands on
pub handed : {A : Type 0} (r : Result A Refusal) (e : Refusal) → IsErrAnd r (λ (d : Refusal). d ≡ e) → r ≡ Err e
handed r e h =
    let p = err_from_is_err_and r h in
    p.1 ∙ ap Err p.2
