-- What a function answers is a value where its definition refuses nothing, and else an `Err` of just that refusal: `answers_lem`, for each kind of
-- answer.
use mathlib.Core.Path.{◌≡◌}
use Rattle.std.specs.Prelude.{Result, Ok, Err}
use Rattle.bits.specs.declared.Refusal.{Refusal}
use Rattle.grid.specs.declared.Frame.{Frame}
use Rattle.grid.specs.Measured.{Measured, grid_in, grid_or_refused}
use Rattle.grid.specs.Groups.{Number, Touches, Placed, Sized, number_or_refused, touch_or_refused, rect_or_refused, size_or_refused}
use Rattle.order.specs.declared.SectionNumber.{SectionNumber}
use Rattle.order.specs.Numbers.{SentAnswer, SectionAnswer, sent_or_refused, section_or_refused}
use Rattle.sections.specs.declared.TocGroupKind.{TocGroupKind}
use Rattle.sections.specs.declared.KindNumbers.{KindNumbers}
use Rattle.sections.specs.Kinds.{numbers_of, kind_of, numbers_in, kind_or_refused}
use Rattle.sections.specs.Lookups.{PlaceAnswer, place_or_refused}
use Rattle.layout.specs.Layouts.{LayoutAnswer, layout_or_refused}
use Rattle.theorems.specs.Refusing.{Answers}
use Rattle.theorems.proofs.Refusing.{answers_lem}

pub grid_answers : (g : Measured) → Answers (grid_or_refused g) g.refusal
grid_answers g = answers_lem g.refusal (grid_in g)

pub number_answers : (n : Number) → Answers (number_or_refused n) n.refusal
number_answers n = answers_lem n.refusal n.value

pub touch_answers : (t : Touches) → Answers (touch_or_refused t) t.refusal
touch_answers t = answers_lem t.refusal t.value

pub rect_answers : (p : Placed) → Answers (rect_or_refused p) p.refusal
rect_answers p = answers_lem p.refusal p.rect

pub size_answers : (z : Sized) → Answers (size_or_refused z) z.refusal
size_answers z = answers_lem z.refusal (record { width = z.width; height = z.height })

pub sent_answers : (a : SentAnswer) → Answers (sent_or_refused a) a.refusal
sent_answers a = answers_lem a.refusal a.sent

pub section_answers : (a : SectionAnswer) → Answers (section_or_refused a) a.refusal
section_answers a = answers_lem a.refusal a.section

pub place_answers : (a : PlaceAnswer) → Answers (place_or_refused a) a.refusal
place_answers a = answers_lem a.refusal (record { offset = a.offset; size = a.size })

pub layout_answers : (a : LayoutAnswer) → Answers (layout_or_refused a) a.refusal
layout_answers a = answers_lem a.refusal a.layout

-- a kind is promised by its numbers
kind_by : (a : Result TocGroupKind Refusal) (b : Result KindNumbers Refusal) (r : Refusal) → numbers_in a ≡ b → Answers b r → Answers a r
kind_by (Ok kind) b r e h = rw (← e) at h
kind_by (Err x) b r e h = rw (← e) at h

pub kind_answers : (f : Frame) (section : SectionNumber) (a : Result TocGroupKind Refusal) → numbers_in a ≡ kind_or_refused (kind_of f section)
    → Answers a (kind_of f section).refusal
kind_answers f section a e = kind_by a (kind_or_refused (kind_of f section)) _ e (answers_lem (kind_of f section).refusal (kind_of f section).numbers)
