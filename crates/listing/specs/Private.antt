-- What private functions promise. Nothing that a caller is promised names these.
use Rattle.std.specs.Prelude.{ℕ, ◌+◌, ◌≡◌, List, length}
use Rattle.std.proofs.lemmas.List.Edits.{sets}

-- each byte at its place, a place that the bytes haven't is passed over; next is the index behind the text
pub record Put (before : List ℕ) (at : ℕ) (text after : List ℕ) (next : ℕ) : Type 0 where
  pub bytes : after ≡ sets before at text
  pub behind : next ≡ at + length text
