-- What a function hands out of an answer is what the record with its refusal comes to.
use Prim.Native.Nat.{ℕ}
use mathlib.Core.Path.{◌≡◌, refl, ◌∙◌}
use mathlib.Core.Bool.{Bool, true, false}
use mathlib.Core.List.{List}
use lib.Dec.{eqb, ltb}
use lib.ListN.{length}
use lib.Seq.{sets}
use borrow.Author.Tests.{eqb-true, eqb-false}
use Rattle.std.specs.Prelude.{Ok, Err}
use Rattle.bits.specs.declared.Refusal.{Refusal}
use Rattle.bits.specs.Refusals.{pick, none, answered}
use Rattle.bits.proofs.Answered.{answered_yes, answered_no}
use Rattle.order.proofs.Entries.{split}
use Rattle.c_words.specs.Status.{is_early, roomed}
use Rattle.c_words.specs.Answers.{answer, Given, words_of, written_in, Handed}
use Rattle.c_words.proofs.Plain.{Plain}

-- words beside none go in where there is room; beside a refusal nothing does
put_in : (b : Bool) (l before : List ℕ) → written_in b (Ok l) before ≡ pick (eqb (roomed none b).number 0) (sets before 0 l) before
put_in true l before = refl
put_in false l before = refl

kept_in : (b : Bool) (r : Refusal) (before : List ℕ) → written_in b (Err r) before ≡ before
kept_in true r before = refl
kept_in false r before = refl

refused_by_room : (b early : Bool) (r : Refusal) → is_early r.number ≡ early → eqb r.number 0 ≡ false → eqb (roomed r b).number 0 ≡ false
refused_by_room false early r e h = h
refused_by_room true true r e h = rw e h
refused_by_room true false r e h = rw e

pub handed_given : {A : Type 0} (words : A → List ℕ) (r : Refusal) (a : A) {before after : List ℕ} {word : ℕ} → Plain r
    → Handed (length (words a)) (words_of words (answered r a)) before word after → Given (answer r (words a)) before word after
handed_given words r a {before} {after} {word} plain h =
    let short : Bool = ltb (length before) (length (words a)) in
    split (eqb r.number 0)
    (λ t.
    let z : r.number ≡ 0 = eqb-true r.number 0 t in
    let g : Handed (length (words a)) (Ok (words a)) before word after = rw (answered_yes r a z) at h in
    record { status = rw (plain z) g.status; words = rw (plain z) (g.words ∙ put_in short (words a) before) })
    (λ t.
    let g : Handed (length (words a)) (Err r) before word after = rw (answered_no r a (eqb-false r.number 0 t)) at h in
    let no : eqb (roomed r short).number 0 ≡ false = refused_by_room short (is_early r.number) r refl t in
    record { status = g.status; words = g.words ∙ kept_in short r before ∙ rw no })
