-- From a function's own arguments to what the crate below answers: one law for all.
use mathlib.Core.Path.{◌≡◌, ◌∙◌, ap, subst}
use mathlib.Core.List.{List}
use Prim.Native.Nat.{ℕ}
use lib.ListN.{length}
use Rattle.std.specs.Prelude.{Result}
use Rattle.bits.specs.declared.Refusal.{Refusal}
use Rattle.bits.specs.Refusals.{answered}
use Rattle.c_words.specs.Answers.{answer, Given, words_of, Handed}
use Rattle.c_words.proofs.Plain.{Plain}
use Rattle.c_words.proofs.Answering.{handed_given}

-- a question on a frame: the frame made of six numbers, the answer of the crate below, and the words handed out
pub asked : {F A : Type 0} (words : A → List ℕ) (r : F → Refusal) (a : F → A) {f g : F} {x : Result A Refusal} {before after : List ℕ} {word : ℕ}
    → Plain (r g) → f ≡ g → x ≡ answered (r f) (a f) → Handed (length (words (a g))) (words_of words x) before word after
    → Given (answer (r g) (words (a g))) before word after
asked words r a {f} {g} {x} {before} {after} {word} plain ef ex handed =
    handed_given words (r g) (a g) plain
    (subst (λ y. Handed (length (words (a g))) (words_of words y) before word after) (ex ∙ ap (λ h. answered (r h) (a h)) ef) handed)
