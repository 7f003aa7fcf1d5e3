-- A text put into lent bytes from an index on.
use Rattle.std.specs.Prelude.{ℕ, ◌≡◌, List, eqb, leb, length, Result}
use Rattle.std.proofs.lemmas.List.Edits.{sets}
use Rattle.bits.specs.declared.Refusal.{Refusal}
use Rattle.bits.specs.Refusals.{pick, refusal, none, answered}

-- 3 where a text doesn't fit
abbrev pub fitted : List ℕ → List ℕ → Refusal
fitted text out = pick (leb (length text) (length out)) none (refusal 3 0)

-- the text's length, or the refusal
unfoldable pub answer_by : Refusal → List ℕ → Result ℕ Refusal
answer_by r text = answered r (length text)

-- what a function that writes a text promises: its answer, and every byte: the text in front, those behind as they were; refused, all as they were
pub record Texted (r : Refusal) (text before : List ℕ) (result : Result ℕ Refusal) (after : List ℕ) : Type 0 where
  pub answer : result ≡ answer_by r text
  pub bytes : after ≡ pick (eqb r.number 0) (sets before 0 text) before
