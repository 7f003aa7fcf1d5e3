-- What private functions promise. Nothing that a caller is promised names these.
use Rattle.std.specs.Prelude.{ℕ, ◌≤◌, ◌≡◌, List, length, drop, true}
use Rattle.listing_job.specs.declared.facts.FactsLine.{FactsLine}
use Rattle.listing_job.specs.Line.{line_read, good_line, facts_of, frame_bytes}

-- the numbers of a line that is good:
pub record Valued (s limits out : List ℕ) (next : ℕ) : Type 0 where
  pub good : (line_read limits s).good ≡ true
  pub values : out ≡ (line_read limits s).values
  pub rest : drop next s ≡ (line_read limits s).rest
  pub within : next ≤ length s

-- the facts line, where it is good:
pub record Lined (s : List ℕ) (r : FactsLine) : Type 0 where
  pub good : good_line s ≡ true
  pub facts : r.facts ≡ facts_of s
  pub rest : drop r.next s ≡ frame_bytes s
  pub within : r.next ≤ length s
