-- What goes into a function as numbers, and what comes out as words: the order of each record's words.
use Rattle.std.specs.Prelude.{ℕ, Bool, false, List, [], ◌∷◌, leb, eqb}
use Rattle.bits.specs.Refusals.{pick}
use Rattle.grid.specs.declared.Frame.{Frame}
use Rattle.grid.specs.declared.Rect.{Rect}
use Rattle.grid.specs.declared.Grid.{Grid}
use Rattle.grid.specs.Measured.{Measured, grid_in, grid_of}
use Rattle.grid.specs.Groups.{Number, Placed, Touches, judge}
use Rattle.order.specs.declared.SectionNumber.{SectionNumber}
use Rattle.order.specs.declared.SentNumber.{SentNumber}
use Rattle.order.specs.Numbers.{SentAnswer, SectionAnswer}
use Rattle.sections.specs.declared.KindNumbers.{KindNumbers}
use Rattle.sections.specs.declared.SectionPlace.{SectionPlace}
use Rattle.sections.specs.declared.TocGroupKind.{TocGroupKind}
use Rattle.sections.specs.declared.TocGroupKind.TheVariants.{All, LfGlobal, LfGroup, HfGlobal, GroupPass}
use Rattle.sections.specs.Kinds.{KindTold, section_of_kind}
use Rattle.sections.specs.Kinds as kinds
use Rattle.sections.specs.Lookups.{PlaceAnswer}
use Rattle.c_words.specs.Answers.{Answer, answer}

-- the six numbers of a frame, and the four of a region
abbrev pub frame : ℕ → ℕ → ℕ → ℕ → ℕ → ℕ → Frame
frame width height upsampling level shift passes = record {
  width = width;
  height = height;
  upsampling = upsampling;
  lf_level = level;
  group_size_shift = shift;
  num_passes = passes;
}

abbrev pub rect : ℕ → ℕ → ℕ → ℕ → Rect
rect left top width height = record { left = left; top = top; width = width; height = height }

-- a section number and a sent number, each of its own kind
abbrev pub section_number : ℕ → SectionNumber
section_number n = record { 0 = n }

abbrev pub sent_number : ℕ → SentNumber
sent_number n = record { 0 = n }

-- yes is 1, no is 0
abbrev pub bit : Bool → ℕ
bit b = pick b 1 0

-- one word
abbrev pub number_words : ℕ → List ℕ
number_words n = n ∷ []

abbrev pub touch_words : Bool → List ℕ
touch_words b = bit b ∷ []

abbrev pub section_words : SectionNumber → List ℕ
section_words n = n.0 ∷ []

abbrev pub sent_words : SentNumber → List ℕ
sent_words n = n.0 ∷ []

-- left, top, width, height
abbrev pub rect_words : Rect → List ℕ
rect_words r = r.left ∷ r.top ∷ r.width ∷ r.height ∷ []

-- the colour sample size, both sides, columns and rows of groups and of LF groups, the counts of groups, LF groups and sections
abbrev pub grid_words : Grid → List ℕ
grid_words g = g.width ∷ g.height ∷ g.side ∷ g.lf_side ∷ g.columns ∷ g.rows ∷ g.lf_columns ∷ g.lf_rows ∷ g.groups ∷ g.lf_groups ∷ g.sections ∷ []

-- number (All 0, LfGlobal 1, LfGroup 2, HfGlobal 3, GroupPass 4), pass, group or LF group
abbrev pub kind_words : KindNumbers → List ℕ
kind_words k = k.kind ∷ k.pass_idx ∷ k.group_idx ∷ []

-- offset, size
abbrev pub place_words : SectionPlace → List ℕ
place_words p = p.offset ∷ p.size ∷ []

-- each with its refusal
abbrev pub number_answer : Number → Answer
number_answer n = answer n.refusal (number_words n.value)

abbrev pub touch_answer : Touches → Answer
touch_answer t = answer t.refusal (touch_words t.value)

abbrev pub section_answer : SectionAnswer → Answer
section_answer a = answer a.refusal (section_words a.section)

abbrev pub sent_answer : SentAnswer → Answer
sent_answer a = answer a.refusal (sent_words a.sent)

abbrev pub placed_answer : Placed → Answer
placed_answer p = answer p.refusal (rect_words p.rect)

abbrev pub grid_answer : Measured → Answer
grid_answer g = answer g.refusal (grid_words (grid_in g))

abbrev pub kind_answer : KindTold → Answer
kind_answer a = answer a.refusal (kind_words a.numbers)

abbrev pub place_answer : PlaceAnswer → Answer
place_answer a = answer a.refusal (place_words (record { offset = a.offset; size = a.size }))

-- the kind of a number from 0 to 4
abbrev pub kind_named : ℕ → ℕ → ℕ → TocGroupKind
kind_named kind pass group =
    pick (eqb kind 1) LfGlobal (pick (eqb kind 2) (LfGroup group) (pick (eqb kind 3) HfGlobal (pick (eqb kind 4) (GroupPass pass group) All)))

-- a kind by its numbers to its section; an unknown number is 14
unfoldable pub section_of_numbers : Frame → ℕ → ℕ → ℕ → SectionAnswer
section_of_numbers f kind pass group =
    pick (leb kind 4) (section_of_kind f (kind_named kind pass group)) (kinds.section_answer (judge (grid_of f) false) 0)
