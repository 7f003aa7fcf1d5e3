-- Where header and table meet: the frame and the place that an accepted header hands on, and demand 3 of a table that was read with them.
use Rattle.std.specs.Prelude.{ℕ, ◌*◌, ◌≤◌, ◌≡◌, List, true, length}
use Rattle.grid.specs.Measured.{good_record}
use Rattle.header.specs.declared.Facts.{Facts}
use Rattle.header.specs.Entry.{stands, HeaderTold}
use Rattle.header.specs.Record.{header_of, frame_of}
use Rattle.toc.specs.declared.Toc.{Toc}
use Rattle.toc.specs.Reading.{Tables}
use Rattle.demand.specs.Whole.{Whole}

-- what an accepted header is: the record of what stands in the bytes, and the place after its last field
pub record HandedOn (facts : Facts) (s : List ℕ) (a : HeaderTold) : Type 0 where
  pub header : a.header ≡ header_of facts (stands facts s).value.front (stands facts s).value.back
  pub end : a.end ≡ (stands facts s).next.at
  -- its frame is never refused with 8, and its end never with 11
  pub good : good_record (frame_of a.header) ≡ true
  pub within : a.end ≤ 8 * length s

-- demand 3 from bytes to bytes: of the bytes and facts, the header that was answered, the table that was answered with the header's frame, the order
-- that is due, the sizes as they were sent, and the four lent tables
pub record BytesToBytes (facts : Facts) (s : List ℕ) (a : HeaderTold) (toc : Toc) (due sent : List ℕ) (t : Tables) : Type 0 where
  pub handed_on : HandedOn facts s a
  pub whole : Whole (frame_of a.header) toc due sent t
