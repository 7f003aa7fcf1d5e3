-- The facts line: numbers with a tab (9) behind each but the last, and a line feed (10) behind the last.
use Rattle.std.specs.Prelude.{ℕ, Bool, true, ◌&&◌, List, [], ◌∷◌, eqb, get_or}
use Rattle.decimal.specs.Decimal.{Parsed}
use Rattle.decimal.specs.UpTo.{behind, numbered}
use Rattle.header.specs.declared.Facts.{Facts}

-- the most that each number may be: one of 32 bits, or a flag, 0 or 1
unfoldable pub limits : List ℕ
limits = 4294967295 ∷ 4294967295 ∷ 1 ∷ 1 ∷ 4294967295 ∷ 1 ∷ 1 ∷ []

-- the facts that the numbers stand for: width, height, XYB, grey, extra channels, animation, timecodes
unfoldable pub facts_from : List ℕ → Facts
facts_from values = record {
  width = get_or values 0 0;
  height = get_or values 1 0;
  xyb = eqb (get_or values 2 0) 1;
  grey = eqb (get_or values 3 0) 1;
  extra = get_or values 4 0;
  animation = eqb (get_or values 5 0) 1;
  timecodes = eqb (get_or values 6 0) 1;
}

-- what a line reads as: whether all its numbers are good, the numbers, and what stands behind the line
pub record LineRead : Type 0 where
  pub good : Bool
  pub values : List ℕ
  pub rest : List ℕ

-- a number in front of others
abbrev pub with_first : Parsed → LineRead → LineRead
with_first p line = record { good = p.good && line.good; values = p.value ∷ line.values; rest = line.rest }

-- the byte that ends a number, by the limits of those behind it
unfoldable pub stop_before : List ℕ → ℕ
stop_before [] = 10
stop_before (limit ∷ more) = 9

-- the numbers of a text by their limits
unfoldable pub line_read : List ℕ → List ℕ → LineRead
line_read [] text = record { good = true; values = []; rest = text }
line_read (limit ∷ more) text = with_first (numbered (stop_before more) limit text) (line_read more (behind (stop_before more) text))

-- the facts line: all its numbers are good, its facts, and what stands behind it
abbrev pub good_line : List ℕ → Bool
good_line text = (line_read limits text).good

abbrev pub facts_of : List ℕ → Facts
facts_of text = facts_from (line_read limits text).values

abbrev pub frame_bytes : List ℕ → List ℕ
frame_bytes text = (line_read limits text).rest
