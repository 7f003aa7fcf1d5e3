-- The section entries: the status of what was read, and the three words of a table beside the four lent tables.
use Rattle.std.specs.Prelude.{ℕ, ◌+◌, ◌*◌, ◌%◌, ◌^◌, ◌≡◌, List, [], ◌∷◌, ltb, eqb, length}
use Rattle.std.proofs.lemmas.List.Edits.{sets}
use Rattle.bits.specs.declared.Refusal.{Refusal}
use Rattle.bits.specs.Refusals.{pick, refusal}
use Rattle.grid.specs.declared.Frame.{Frame}
use Rattle.grid.specs.Measured.{grid_of}
use Rattle.toc.specs.Reading.{TocAnswer, Table, OrderNeeded, Refused, Tables, Reading, refused_read, after}
use Rattle.c_words.specs.Status.{status_of}

-- 0 for a table, 255 for "order needed" with the place after the flag, else the refusal
abbrev pub toc_status : TocAnswer → ℕ
toc_status (Table toc) = 0
toc_status (OrderNeeded place) = place % 2 ^ 56 * 256 + 255
toc_status (Refused r) = status_of r

-- count, data start, total, written for a table alone
abbrev pub toc_after : TocAnswer → List ℕ → List ℕ
toc_after (Table toc) out = sets out 0 (toc.count ∷ toc.bookmark ∷ toc.total_byte_size ∷ [])
toc_after (OrderNeeded place) out = out
toc_after (Refused r) out = out

-- 3 in its turn, where the lent words are fewer than three: 2, 8, 9, 10, 3
unfoldable pub no_room : ℕ → Frame → Refusal
no_room n f =
    pick (ltb 16777216 n) (refusal 2 0) (pick (eqb (grid_of f).refusal.number 0) (refusal 3 0) (grid_of f).refusal)

unfoldable pub roomed_reading : List ℕ → Frame → List ℕ → Reading → Reading
roomed_reading s f out r = pick (ltb (length out) 3) (refused_read (no_room (length s) f)) r

-- what an entry promises: the status, every word of the four tables, and the lent words
pub record Listed (r : Reading) (before : Tables) (word : ℕ) (o s p i out out' : List ℕ) : Type 0 where
  pub status : word ≡ toc_status r.answer
  pub offsets : o ≡ (after r before).offsets
  pub sizes : s ≡ (after r before).sizes
  pub order : p ≡ (after r before).order
  pub inverse : i ≡ (after r before).inverse
  pub words : out' ≡ toc_after r.answer out
