-- A number within a text: from an index on, up to the byte that ends it.
use Rattle.std.specs.Prelude.{ℕ, ◌+◌, Bool, List, [], ◌∷◌, eqb, ltb, length, drop}
use Rattle.bits.specs.Refusals.{pick}
use Rattle.decimal.specs.declared.Step.{Step}
use Rattle.decimal.specs.Decimal.{Parsed, told, parsed, bad}

-- the bytes before the first that is stop, all where none is; and those behind it, none where none is
unfoldable pub up_to : ℕ → List ℕ → List ℕ
up_to stop [] = []
up_to stop (b ∷ text) = pick (eqb b stop) [] (b ∷ up_to stop text)

unfoldable pub behind : ℕ → List ℕ → List ℕ
behind stop [] = []
behind stop (b ∷ text) = pick (eqb b stop) text (behind stop text)

-- one is: not every byte stands before it
abbrev pub ended : ℕ → List ℕ → Bool
ended stop text = ltb (length (up_to stop text)) (length text)

-- a number of at most limit, up to the byte that has to end it
unfoldable pub numbered : ℕ → ℕ → List ℕ → Parsed
numbered stop limit text = pick (ended stop text) (parsed limit (up_to stop text)) bad

-- the index of the first stop from an index on: the length where there is none, and an index past the end as it is
abbrev pub find_at : List ℕ → ℕ → ℕ → ℕ
find_at s at stop = at + length (up_to stop (drop at s))

-- the number from an index on, and the index behind the stop; where there is none, that of the text's end
unfoldable pub number_at : List ℕ → ℕ → ℕ → ℕ → Step
number_at s at stop limit = record {
  number = told (numbered stop limit (drop at s));
  next = pick (ended stop (drop at s)) (find_at s at stop + 1) (find_at s at stop);
}
