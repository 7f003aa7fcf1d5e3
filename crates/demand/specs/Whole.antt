-- Demand 3: "For every accepted frame: sent order to section order and back returns the number begun with, from either side; each byte of the data
-- span lies in exactly one section; each colour sample in exactly one clipped group rectangle; the section found for a sample and any pass starts at
-- the data start plus the sizes of all sections sent before it." Said of what the public functions answer, over the four lent tables as a section
-- entry left them.
use Rattle.std.specs.Prelude.{ℕ, ◌+◌, ◌≤◌, ◌<◌, ◌≡◌, List, ltb, get_or, take, Ok}
use Rattle.bits.specs.Refusals.{pick, none}
use Rattle.grid.specs.declared.Frame.{Frame}
use Rattle.grid.specs.declared.Rect.{Rect}
use Rattle.grid.specs.Sizes.{color_width, color_height}
use Rattle.grid.specs.Measured.{grid_of}
use Rattle.grid.specs.Groups.{Placed, Number, told, rect_for, number_or_refused, rect_or_refused}
use Rattle.order.specs.declared.SectionNumber.{SectionNumber}
use Rattle.order.specs.declared.SentNumber.{SentNumber}
use Rattle.order.specs.Numbers.{SentAnswer, SectionAnswer, sent_or_refused, section_or_refused}
use Rattle.order.specs.Sums.{sum_to}
use Rattle.sections.specs.declared.TocGroupKind.TheVariants.{All, GroupPass}
use Rattle.sections.specs.Kinds.{numbers_of, KindTold, kind_of, kind_or_refused}
use Rattle.sections.specs.Lookups.{PlaceAnswer, section_of_sample, place_of, place_or_refused, sent_of_section, section_of_sent}
use Rattle.toc.specs.declared.Toc.{Toc}
use Rattle.toc.specs.Sizes.{sent_before}
use Rattle.toc.specs.Reading.{Tables}

-- ---- what the public functions answer: each name has on its right the definition that the function promises. `kind_of` answers the definition of
-- its name. A function promises its definition by `number_or_refused` and the like: an `Ok` of the value, or an `Err` of the refusal. That it is an
-- `Ok` of the value here, wherever one is asked for, is `Answered` below.

-- `color_sample_width` and `color_sample_height`
abbrev pub colour_width : Frame → Number
colour_width f = told (grid_of f) (grid_of f).width

abbrev pub colour_height : Frame → Number
colour_height f = told (grid_of f) (grid_of f).height

-- `group_rect`
abbrev pub group_rect : Frame → ℕ → Placed
group_rect f group = rect_for (grid_of f) (grid_of f).side group

-- `section_of_sample`: the section that is found for a sample and a pass
abbrev pub found : Frame → ℕ → ℕ → ℕ → SectionNumber
found f x y pass = (section_of_sample f x y pass).section

-- `section_at`, over the lent offsets and sizes
abbrev pub place_in : Frame → Tables → SectionNumber → PlaceAnswer
place_in f t section = place_of f t.offsets t.sizes section

-- `sent_of_section`, over the first count words of the lent order
abbrev pub sent_in : Frame → Toc → Tables → SectionNumber → SentAnswer
sent_in f toc t section = sent_of_section f (take toc.count t.order) section

-- `section_of_sent`, over the first count words of the lent inverse
abbrev pub section_in : Frame → Toc → Tables → SentNumber → SectionAnswer
section_in f toc t sent = section_of_sent f (take toc.count t.inverse) sent

-- the section of a number
abbrev pub numbered : ℕ → SectionNumber
numbered j = record { 0 = j }

-- ---- "exactly one": one has it, and whatever has it is that one

pub record ExactlyOne (Has : ℕ → Type 0) : Type 0 where
  pub one : ℕ
  pub has : Has one
  pub only : (other : ℕ) → Has other → other ≡ one

-- ---- "sent order to section order and back returns the number begun with, from either side"

pub record ThereAndBack (f : Frame) (toc : Toc) (due : List ℕ) (t : Tables) : Type 0 where
  -- begun with a section: back from its sent number, it is the section begun with
  pub from_section : (section : SectionNumber) → section.0 < toc.count
      → ◌≡◌ {A = SectionAnswer} (section_in f toc t (sent_in f toc t section).sent) (record { section = section; refusal = none })
  -- begun with a sent number: back from its section, it is the sent number begun with
  pub from_sent : (sent : SentNumber) → sent.0 < toc.count
      → ◌≡◌ {A = SentAnswer} (sent_in f toc t (section_in f toc t sent).section) (record { sent = sent; refusal = none })
  -- on the way nothing is refused and no number is past the count; and the sent number is the one that is due
  pub sent : (section : SectionNumber) → section.0 < toc.count
      → ◌≡◌ {A = SentAnswer} (sent_in f toc t section) (record { sent = record { 0 = get_or due section.0 0 }; refusal = none })
  pub sent_below : (section : SectionNumber) → section.0 < toc.count → (sent_in f toc t section).sent.0 < toc.count
  pub section : (sent : SentNumber) → sent.0 < toc.count → (section_in f toc t sent).refusal ≡ none
  pub section_below : (sent : SentNumber) → sent.0 < toc.count → (section_in f toc t sent).section.0 < toc.count

-- ---- "each byte of the data span lies in exactly one section"

-- byte b lies in section j: the table has it, and by `section_at` its offset is at most b, and b before its offset plus its size
pub record Lies (f : Frame) (toc : Toc) (t : Tables) (b j : ℕ) : Type 0 where
  pub section : j < toc.count
  pub from : (place_in f t (numbered j)).offset ≤ b
  pub to : b < (place_in f t (numbered j)).offset + (place_in f t (numbered j)).size

pub record OneSection (f : Frame) (toc : Toc) (t : Tables) : Type 0 where
  -- the data span: from the data start up to, and without, the data start plus the total
  pub each_byte : (b : ℕ) → toc.bookmark ≤ b → b < toc.bookmark + toc.total_byte_size → ExactlyOne (Lies f toc t b)
  -- no section holds another byte
  pub no_other : (b j : ℕ) → Lies f toc t b j → (toc.bookmark ≤ b) × (b < toc.bookmark + toc.total_byte_size)

-- ---- "each colour sample in exactly one clipped group rectangle"

-- a sample lies in a rectangle
pub record Inside (r : Rect) (x y : ℕ) : Type 0 where
  pub left : r.left ≤ x
  pub right : x < r.left + r.width
  pub top : r.top ≤ y
  pub bottom : y < r.top + r.height

-- sample x, y lies in the rectangle of a group: `group_rect` answers for the group, and the sample lies in its answer
pub record Covers (f : Frame) (x y group : ℕ) : Type 0 where
  pub answered : (group_rect f group).refusal ≡ none
  pub inside : Inside (group_rect f group).rect x y

pub record OneRectangle (f : Frame) : Type 0 where
  -- the size in colour samples is answered, as the frame's size divided by the upsampling and by 8^lf_level; it is not empty
  pub width : ◌≡◌ {A = Number} (colour_width f) (record { value = color_width f; refusal = none })
  pub height : ◌≡◌ {A = Number} (colour_height f) (record { value = color_height f; refusal = none })
  pub some : (0 < color_width f) × (0 < color_height f)
  pub each_sample : (x y : ℕ) → x < (colour_width f).value → y < (colour_height f).value → ExactlyOne (Covers f x y)
  -- no rectangle holds another sample: it is clipped
  pub no_other : (x y group : ℕ) → Covers f x y group → (x < (colour_width f).value) × (y < (colour_height f).value)

-- ---- "the section found for a sample and any pass starts at the data start plus the sizes of all sections sent before it"

-- the sizes of all sections sent before a section: the sum, over all sections of the table whose sent number is below its own, of the size that
-- `section_at` answers
abbrev pub sizes_before : Frame → Toc → Tables → SectionNumber → ℕ
sizes_before f toc t section =
    sum_to toc.count (λ j. pick (ltb (sent_in f toc t (numbered j)).sent.0 (sent_in f toc t section).sent.0) (place_in f t (numbered j)).size 0)

-- what `section_at` answers for a section of the table; `sent` is the sizes as they were sent
pub record Starts (f : Frame) (toc : Toc) (sent : List ℕ) (t : Tables) (section : SectionNumber) : Type 0 where
  pub answered : (place_in f t section).refusal ≡ none
  -- it starts at the data start plus the sizes of all sections sent before it
  pub offset : (place_in f t section).offset ≡ toc.bookmark + sizes_before f toc t section
  -- the same by the sizes as they were sent: those of all sent numbers below its own
  pub offset_as_sent : (place_in f t section).offset ≡ toc.bookmark + sent_before sent (sent_in f toc t section).sent.0
  -- its size is the one that was sent as its number
  pub size : (place_in f t section).size ≡ get_or sent (sent_in f toc t section).sent.0 0

-- the section that is found for a sample and a pass
pub record Found (f : Frame) (toc : Toc) (sent : List ℕ) (t : Tables) (x y pass : ℕ) : Type 0 where
  -- one is found, which the table has
  pub answered : (section_of_sample f x y pass).refusal ≡ none
  pub section : (found f x y pass).0 < toc.count
  -- it is the sample's own: All, exactly where the frame has one section
  pub all : toc.count ≡ 1 → ◌≡◌ {A = KindTold} (kind_of f (found f x y pass)) (record { numbers = numbers_of All; refusal = none })
  pub all_only : (kind_of f (found f x y pass)).numbers ≡ numbers_of All → toc.count ≡ 1
  -- else GroupPass of that pass and of the group whose rectangle holds the sample
  pub group : (toc.count ≡ 1 → ⊥) → (group : ℕ) → Covers f x y group
      → ◌≡◌ {A = KindTold} (kind_of f (found f x y pass)) (record { numbers = numbers_of (GroupPass pass group); refusal = none })
  -- and it starts where it is due
  pub starts : Starts f toc sent t (found f x y pass)

-- ---- the answers themselves, as each function promises them: all that is said above of a value is said of an `Ok` of this value

pub record Answered (f : Frame) (toc : Toc) (t : Tables) : Type 0 where
  -- `color_sample_width`, `color_sample_height`
  pub width : number_or_refused (colour_width f) ≡ Ok (colour_width f).value
  pub height : number_or_refused (colour_height f) ≡ Ok (colour_height f).value
  -- `group_rect`, of every group that it answers for, and of no other
  pub rect : (group : ℕ) → (group_rect f group).refusal ≡ none → rect_or_refused (group_rect f group) ≡ Ok (group_rect f group).rect
  pub rect_only : (group : ℕ) (r : Rect) → rect_or_refused (group_rect f group) ≡ Ok r
      → ((group_rect f group).refusal ≡ none) × ((group_rect f group).rect ≡ r)
  -- `section_at`, `sent_of_section` and `section_of_sent`, of every number below the count
  pub place : (section : SectionNumber) → section.0 < toc.count
      → place_or_refused (place_in f t section) ≡ Ok (record { offset = (place_in f t section).offset; size = (place_in f t section).size })
  pub sent : (section : SectionNumber) → section.0 < toc.count → sent_or_refused (sent_in f toc t section) ≡ Ok (sent_in f toc t section).sent
  pub section : (sent : SentNumber) → sent.0 < toc.count → section_or_refused (section_in f toc t sent) ≡ Ok (section_in f toc t sent).section
  -- `section_of_sample` of every sample and pass, and `kind_of` what it finds
  pub sample : (x y pass : ℕ) → x < (colour_width f).value → y < (colour_height f).value → pass < f.num_passes
      → section_or_refused (section_of_sample f x y pass) ≡ Ok (found f x y pass)
  pub kind : (x y pass : ℕ) → x < (colour_width f).value → y < (colour_height f).value → pass < f.num_passes
      → kind_or_refused (kind_of f (found f x y pass)) ≡ Ok (kind_of f (found f x y pass)).numbers

-- ---- demand 3: of a frame, the table that was answered, the order that is due, the sizes as they were sent, and the four lent tables

pub record Whole (f : Frame) (toc : Toc) (due sent : List ℕ) (t : Tables) : Type 0 where
  pub there_and_back : ThereAndBack f toc due t
  pub bytes : OneSection f toc t
  pub samples : OneRectangle f
  pub found_where_due : (x y pass : ℕ) → x < (colour_width f).value → y < (colour_height f).value → pass < f.num_passes → Found f toc sent t x y pass
  -- the functions answer so
  pub answered : Answered f toc t
  -- every other section starts where it is due, too
  pub sections : (section : SectionNumber) → section.0 < toc.count → Starts f toc sent t section
