-- Look-ups: a sample and a pass to a section, and a section to its offset and size.
use Rattle.std.specs.Prelude.{ℕ, List, Bool, ◌&&◌, length, get_or, eqb, leb, ltb, Result}
use Rattle.bits.specs.declared.Refusal.{Refusal}
use Rattle.bits.specs.Refusals.{pick, refusal, answered}
use Rattle.grid.specs.declared.Frame.{Frame}
use Rattle.grid.specs.Measured.{Measured, grid_of}
use Rattle.grid.specs.Groups.{judge, index_at}
use Rattle.order.specs.declared.SectionNumber.{SectionNumber}
use Rattle.order.specs.declared.SentNumber.{SentNumber}
use Rattle.order.specs.Numbers.{SentAnswer, SectionAnswer, sent_of, section_of}
use Rattle.sections.specs.declared.TocGroupKind.{TocGroupKind}
use Rattle.sections.specs.declared.TocGroupKind.TheVariants.{All, GroupPass}
use Rattle.sections.specs.declared.SectionPlace.{SectionPlace}
use Rattle.sections.specs.Kinds.{numbers_of, section_number, section_answer}

-- the kind of the section that holds a sample in a pass: that GroupPass through the sample's group, or All
unfoldable pub sample_kind : Measured → ℕ → ℕ → ℕ → TocGroupKind
sample_kind g x y pass = pick (eqb g.sections 1) All (GroupPass pass (index_at g.columns g.side x y))

-- whether the sample lies in the colour sample size, and the pass is below the count
unfoldable pub has_sample : Measured → ℕ → ℕ → ℕ → ℕ → Bool
has_sample g passes x y pass = (ltb x g.width && ltb y g.height) && ltb pass passes

-- 8, 9, 10, then 14
unfoldable pub section_of_sample : Frame → ℕ → ℕ → ℕ → SectionAnswer
section_of_sample f x y pass =
    section_answer (judge (grid_of f) (has_sample (grid_of f) f.num_passes x y pass))
    (section_number (grid_of f) (numbers_of (sample_kind (grid_of f) x y pass)))

-- 8, 9, 10, then 3 where one of two tables is shorter than the count, then 14 for a section number not below it
unfoldable pub place_refusal : Measured → ℕ → ℕ → ℕ → Refusal
place_refusal g offsets sizes i =
    pick (eqb g.refusal.number 0)
    (pick (leb g.sections offsets && leb g.sections sizes) (judge g (ltb i g.sections)) (refusal 3 0))
    g.refusal

-- a section's offset and size, 0 beside a refusal
pub record PlaceAnswer : Type 0 where
  pub offset : ℕ
  pub size : ℕ
  pub refusal : Refusal

-- as the function gives it: the two, or why they aren't known
abbrev pub place_or_refused : PlaceAnswer → Result SectionPlace Refusal
place_or_refused a = answered a.refusal (record { offset = a.offset; size = a.size })

unfoldable pub place_by : Refusal → ℕ → ℕ → PlaceAnswer
place_by r offset size = record { offset = pick (eqb r.number 0) offset 0; size = pick (eqb r.number 0) size 0; refusal = r }

unfoldable pub place_of : Frame → List ℕ → List ℕ → SectionNumber → PlaceAnswer
place_of f offsets sizes section =
    place_by (place_refusal (grid_of f) (length offsets) (length sizes) section.0) (get_or offsets section.0 0) (get_or sizes section.0 0)

-- section to sent number through the order, and back through the inverse: 8, 9, 10 of the frame, then 13 and 14 as the order tables have it
unfoldable pub sent_of_section : Frame → List ℕ → SectionNumber → SentAnswer
sent_of_section f order section =
    pick (eqb (grid_of f).refusal.number 0)
    (sent_of order (grid_of f).sections section)
    (record { sent = record { 0 = 0 }; refusal = (grid_of f).refusal })

unfoldable pub section_of_sent : Frame → List ℕ → SentNumber → SectionAnswer
section_of_sent f inverse sent =
    pick (eqb (grid_of f).refusal.number 0)
    (section_of inverse (grid_of f).sections sent)
    (record { section = record { 0 = 0 }; refusal = (grid_of f).refusal })
