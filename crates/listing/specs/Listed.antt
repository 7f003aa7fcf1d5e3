-- The listing of an accepted table.
use Rattle.std.specs.Prelude.{ℕ, ◌&&◌, List, ◌++◌, eqb, leb, ltb, length, get_or, Option, Some, None}
use Rattle.bits.specs.declared.Refusal.{Refusal}
use Rattle.bits.specs.Refusals.{pick, refusal}
use Rattle.grid.specs.declared.Frame.{Frame}
use Rattle.grid.specs.declared.Rect.{Rect}
use Rattle.grid.specs.Measured.{Measured, grid_of}
use Rattle.grid.specs.Groups.{judge, rect_for}
use Rattle.order.specs.Order.{checked}
use Rattle.order.specs.Sums.{sum_to}
use Rattle.sections.specs.declared.TocGroupKind.{TocGroupKind}
use Rattle.sections.specs.declared.TocGroupKind.TheVariants.{All, LfGlobal, LfGroup, HfGlobal, GroupPass}
use Rattle.sections.specs.Kinds.{kind_at}
use Rattle.listing.specs.declared.rows.Row.{Row}
use Rattle.listing.specs.Text.{heading, rows_from, total_text}

-- an LF group's rectangle or a group's, clipped; All has the whole colour sample size; the others have none
unfoldable pub rect_by : Measured → TocGroupKind → Option Rect
rect_by g All = Some (record { left = 0; top = 0; width = g.width; height = g.height })
rect_by g LfGlobal = None
rect_by g (LfGroup i) = Some (rect_for g g.lf_side i).rect
rect_by g HfGlobal = None
rect_by g (GroupPass p i) = Some (rect_for g g.side i).rect

-- the kind of section i; where the frame has no such section, All
unfoldable pub kind_in : Frame → ℕ → TocGroupKind
kind_in f i = pick (eqb (judge (grid_of f) (ltb i (grid_of f).sections)).number 0) (kind_at (grid_of f) i) All

-- what the listing shows of section i: its kind, its words of the three tables, and its rectangle
unfoldable pub row_at : Frame → List ℕ → List ℕ → List ℕ → ℕ → Row
row_at f offsets sizes order i = record {
  section = i;
  kind = kind_in f i;
  sent = get_or order i 0;
  offset = get_or offsets i 0;
  size = get_or sizes i 0;
  rect = rect_by (grid_of f) (kind_in f i);
}

-- the heading, a line a section, and the total
unfoldable pub listing_text : ℕ → Frame → List ℕ → List ℕ → List ℕ → List ℕ
listing_text count f offsets sizes order =
    heading ++ (rows_from (row_at f offsets sizes order) count 0 ++ total_text (sum_to count (λ i. get_or sizes i 0)))

abbrev pub listing : Frame → List ℕ → List ℕ → List ℕ → List ℕ
listing f offsets sizes order = listing_text (grid_of f).sections f offsets sizes order

-- 8, 9, 10; then 3 where a table has fewer words than sections or the text doesn't fit; then 13
unfoldable pub listing_refusal : Frame → List ℕ → List ℕ → List ℕ → List ℕ → Refusal
listing_refusal f offsets sizes order out =
    pick (eqb (grid_of f).refusal.number 0)
    (pick ((leb (grid_of f).sections (length offsets) && leb (grid_of f).sections (length sizes)) && leb (length (listing f offsets sizes order)) (length out))
    (checked (grid_of f).sections order)
    (refusal 3 0))
    (grid_of f).refusal
