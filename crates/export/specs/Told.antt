-- The listing: the status, the text in the lent bytes, and its length as one word.
use Rattle.std.specs.Prelude.{ℕ, ◌≡◌, Bool, List, eqb, length, set}
use Rattle.std.proofs.lemmas.List.Edits.{sets}
use Rattle.bits.specs.declared.Refusal.{Refusal}
use Rattle.bits.specs.Refusals.{pick, refusal}
use Rattle.listing.specs.Put.{fitted}
use Rattle.c_words.specs.Status.{status_of}

-- 3 where there is no word for the length, or no room for the text
unfoldable pub untold : Bool → List ℕ → List ℕ → Refusal
untold short text before = pick short (refusal 3 0) (fitted text before)

-- what is promised of an input's text, with its refusal
pub record Told (r : Refusal) (text before after out out' : List ℕ) (word : ℕ) : Type 0 where
  pub status : word ≡ status_of r
  pub bytes : after ≡ pick (eqb r.number 0) (sets before 0 text) before
  pub words : out' ≡ pick (eqb r.number 0) (set out 0 (length text)) out
