-- Demand 3 of what the C functions leave in lent memory, by their promises (`HeadRead`, `Listed`, `Given`): over words alone.
use Rattle.std.specs.Prelude.{ℕ, ◌+◌, ◌≤◌, ◌<◌, ◌^◌, ◌≡◌, List, [], ◌∷◌, ltb, length, get_or, take}
use Rattle.bits.specs.Refusals.{pick}
use Rattle.grid.specs.declared.Frame.{Frame}
use Rattle.grid.specs.Measured.{grid_of}
use Rattle.header.specs.declared.Facts.{Facts}
use Rattle.header.specs.Entry.{HeaderTold}
use Rattle.header.specs.Record.{frame_of}
use Rattle.order.specs.Sums.{sum_to}
use Rattle.sections.specs.Kinds.{kind_of}
use Rattle.sections.specs.Lookups.{section_of_sample, place_of, sent_of_section, section_of_sent}
use Rattle.toc.specs.Sizes.{sent_before}
use Rattle.toc.specs.Reading.{Tables}
use Rattle.c_words.specs.Answers.{Answer, Given}
use Rattle.c_words.specs.Records.{frame, section_number, sent_number, grid_answer, placed_answer, section_answer, sent_answer, kind_answer, place_answer}
use Rattle.demand.specs.Whole.{ExactlyOne, group_rect}
use Rattle.demand.specs.Frames.{HandedOn}

-- A frame, in every C function: words 35, 36, 6, 33, 7 and 10 of those that `hingevale_read_frame_header` left. The place after the header is word 0.
abbrev pub frame_by : List ℕ → Frame
frame_by w = frame (get_or w 35 0) (get_or w 36 0) (get_or w 6 0) (get_or w 33 0) (get_or w 7 0) (get_or w 10 0)

-- they are the accepted header's own, and as 32-bit numbers none is another
pub record FrameBy (facts : Facts) (s : List ℕ) (a : HeaderTold) (w : List ℕ) : Type 0 where
  pub handed_on : HandedOn facts s a
  pub frame : frame_by w ≡ frame_of a.header
  pub place : get_or w 0 0 ≡ a.end
  pub small : (get_or w 35 0 < 2 ^ 32) × (get_or w 36 0 < 2 ^ 32) × (get_or w 6 0 < 2 ^ 32) × (get_or w 33 0 < 2 ^ 32) × (get_or w 7 0 < 2 ^ 32)
      × (get_or w 10 0 < 2 ^ 32)

-- A C function that promises `Given a` leaves these words: whatever slice with room for them it is lent, its status is 0, and they stand in front of
-- the slice.
pub record Leaves (a : Answer) (words : List ℕ) : Type 0 where
  pub call : (before after : List ℕ) (status : ℕ) → length words ≤ length before → Given a before status after
      → (status ≡ 0) × (take (length words) after ≡ words)

-- A byte lies in section j of count, by the words of its place.
pub record LiesBy (count : ℕ) (offset size : ℕ → ℕ) (b j : ℕ) : Type 0 where
  pub section : j < count
  pub from : offset j ≤ b
  pub to : b < offset j + size j

-- A sample lies in the rectangle of a group out of so many, by the words of the rectangle.
pub record CoversBy (groups : ℕ) (left top width height : ℕ → ℕ) (x y group : ℕ) : Type 0 where
  pub there : group < groups
  pub from_left : left group ≤ x
  pub to_right : x < left group + width group
  pub from_top : top group ≤ y
  pub to_bottom : y < top group + height group

-- The demand: of a frame, the three words that a section entry left (count, data start, total), the order that is due, the sizes as they were sent,
-- and the four lent tables.
pub record LentWhole (f : Frame) (count start total : ℕ) (due sizesSent : List ℕ) (t : Tables) : Type 0 where
  -- ---- the words that the look-ups leave, whatever they are lent

  -- `hingevale_section_at`, over the lent offsets and sizes: a section's offset and size
  pub offset : ℕ → ℕ
  pub size : ℕ → ℕ
  pub section_at : (j : ℕ) → j < count → Leaves (place_answer (place_of f t.offsets t.sizes (section_number j))) (offset j ∷ size j ∷ [])
  -- `hingevale_sent_of_section`, over the first count words of the lent order: a section's sent number
  pub sent : ℕ → ℕ
  pub sent_of_section_lem : (j : ℕ) → j < count → Leaves (sent_answer (sent_of_section f (take count t.order) (section_number j))) (sent j ∷ [])
  -- `hingevale_section_of_sent`, over the first count words of the lent inverse: a sent number's section
  pub section : ℕ → ℕ
  pub section_of_sent_lem : (k : ℕ) → k < count → Leaves (section_answer (section_of_sent f (take count t.inverse) (sent_number k))) (section k ∷ [])
  -- `hingevale_measure`: words 0, 1, 8 and 10 are the width and height in colour samples, how many groups there are, and how many sections
  pub across : ℕ
  pub down : ℕ
  pub groups : ℕ
  pub measure : (before after : List ℕ) (status : ℕ) → 11 ≤ length before → Given (grid_answer (grid_of f)) before status after
      → (status ≡ 0) × (get_or after 0 0 ≡ across) × (get_or after 1 0 ≡ down) × (get_or after 8 0 ≡ groups) × (get_or after 10 0 ≡ count)
  -- `hingevale_group_rect`: a group's left, top, width and height; 14 for a group that there isn't
  pub left : ℕ → ℕ
  pub top : ℕ → ℕ
  pub width : ℕ → ℕ
  pub height : ℕ → ℕ
  pub group_rect_lem : (group : ℕ) → group < groups → Leaves (placed_answer (group_rect f group)) (left group ∷ top group ∷ width group ∷ height group ∷ [])
  pub no_group : (group : ℕ) → groups ≤ group → (before after : List ℕ) (status : ℕ) → 4 ≤ length before
      → Given (placed_answer (group_rect f group)) before status after
      → status ≡ 14
  -- `hingevale_section_of_sample`, for a sample inside and a pass of the frame: a section of the table
  pub found : ℕ → ℕ → ℕ → ℕ
  pub section_of_sample_lem : (x y pass : ℕ) → x < across → y < down → pass < f.num_passes
      → Leaves (section_answer (section_of_sample f x y pass)) (found x y pass ∷ [])
  pub found_below : (x y pass : ℕ) → x < across → y < down → pass < f.num_passes → found x y pass < count
  -- ---- "sent order to section order and back returns the number begun with, from either side"
  pub from_section : (j : ℕ) → j < count → section (sent j) ≡ j
  pub from_sent : (k : ℕ) → k < count → sent (section k) ≡ k
  pub sent_below : (j : ℕ) → j < count → sent j < count
  pub section_below : (k : ℕ) → k < count → section k < count
  pub sent_due : (j : ℕ) → j < count → sent j ≡ get_or due j 0
  -- ---- "each byte of the data span lies in exactly one section"
  pub each_byte : (b : ℕ) → start ≤ b → b < start + total → ExactlyOne (LiesBy count offset size b)
  pub no_other_byte : (b j : ℕ) → LiesBy count offset size b j → (start ≤ b) × (b < start + total)
  -- ---- "each colour sample in exactly one clipped group rectangle"
  pub each_sample : (x y : ℕ) → x < across → y < down → ExactlyOne (CoversBy groups left top width height x y)
  pub no_other_sample : (x y group : ℕ) → CoversBy groups left top width height x y group → (x < across) × (y < down)
  -- ---- "the section found for a sample and any pass starts at the data start plus the sizes of all sections sent before it"
  pub starts : (x y pass : ℕ) → x < across → y < down → pass < f.num_passes
      → offset (found x y pass) ≡ start + sum_to count (λ j. pick (ltb (sent j) (sent (found x y pass))) (size j) 0)
  -- so does every section; and by the sizes as they were sent
  pub sections_start : (j : ℕ) → j < count → offset j ≡ start + sum_to count (λ i. pick (ltb (sent i) (sent j)) (size i) 0)
  pub sections_start_as_sent : (j : ℕ) → j < count → offset j ≡ start + sent_before sizesSent (sent j)
  pub sizes : (j : ℕ) → j < count → size j ≡ get_or sizesSent (sent j) 0
  -- the section found is the sample's own, by `hingevale_kind_of`: All where there is one section, else GroupPass of the pass and the group that
  -- holds it
  pub all : (x y pass : ℕ) → x < across → y < down → pass < f.num_passes → count ≡ 1
      → Leaves (kind_answer (kind_of f (section_number (found x y pass)))) (0 ∷ 0 ∷ 0 ∷ [])
  pub group : (x y pass : ℕ) → x < across → y < down → pass < f.num_passes → (count ≡ 1 → ⊥)
      → (i : ℕ) → CoversBy groups left top width height x y i → Leaves (kind_answer (kind_of f (section_number (found x y pass)))) (4 ∷ pass ∷ i ∷ [])

-- From the bytes to lent memory: the words w of the header are its frame's and its end, and with these the demand holds, of count n, data start b and
-- total l.
pub record LentBytes (facts : Facts) (s : List ℕ) (a : HeaderTold) (w : List ℕ) (n b l : ℕ) (due sent : List ℕ) (t : Tables) : Type 0 where
  pub frame : FrameBy facts s a w
  pub whole : LentWhole (frame_by w) n b l due sent t
