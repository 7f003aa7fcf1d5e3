-- The listing program's output for its input.
use Rattle.std.specs.Prelude.{ℕ, List, eqb, length, take, replicate}
use Rattle.bits.specs.Refusals.{pick, refusal}
use Rattle.grid.specs.declared.Frame.{Frame}
use Rattle.header.specs.declared.Facts.{Facts}
use Rattle.header.specs.Entry.{judged, stands, HeaderTold, answered}
use Rattle.header.specs.Record.{frame_of}
use Rattle.toc.specs.Reading.{TocAnswer, Table, OrderNeeded, Refused, Tables, tables, Reading, first_reading, after}
use Rattle.listing.specs.Text.{refused_text, order_text}
use Rattle.listing.specs.Listed.{listing}
use Rattle.listing_job.specs.Line.{good_line, facts_of, frame_bytes}

-- four tables of 1,024 words: over 1,024 sections is 3
abbrev pub words : List ℕ
words = replicate 1024 0

abbrev pub blank : Tables
blank = tables words words words words

-- the listing of a table that was read, or the line of what came instead
unfoldable pub read_text : Frame → Tables → List ℕ → TocAnswer → List ℕ
read_text f t order (Table toc) = listing f t.offsets t.sizes order
read_text f t order (OrderNeeded place) = order_text place
read_text f t order (Refused r) = refused_text r

unfoldable pub reading_text : Frame → Reading → List ℕ
reading_text f r = read_text f (after r blank) r.order r.answer

-- from the section table on, which begins at the place after the header
abbrev pub sections_text : List ℕ → Frame → ℕ → List ℕ
sections_text s f place = reading_text f (first_reading s f place blank)

-- the header, with a name buffer of 1,071 bytes and room for 256 extra channels
abbrev pub headed : List ℕ → Facts → HeaderTold
headed s facts = answered facts (judged (length s) facts 1071 256 1024) (stands facts s)

unfoldable pub header_text : List ℕ → Facts → List ℕ
header_text s facts =
    pick (eqb (headed s facts).refusal.number 0)
    (sections_text s (frame_of (headed s facts).header) (headed s facts).end)
    (refused_text (headed s facts).refusal)

-- a bad line is 1; else the first 32,768 bytes behind it are the frame
unfoldable pub job_text : List ℕ → List ℕ
job_text input =
    pick (good_line input) (header_text (take 32768 (frame_bytes input)) (facts_of input)) (refused_text (refusal 1 0))
