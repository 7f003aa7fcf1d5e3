-- A refusal of number 0 that a function gives is `none`: its place is 0.
use Prim.Native.Nat.{ℕ}
use mathlib.Core.Path.{◌≡◌, refl, sym, ap}
use mathlib.Core.Bool.{Bool, true, false}
use mathlib.Core.List.{List}
use lib.Dec.{eqb}
use borrow.Author.Tests.{eqb-false}
use Rattle.bits.specs.declared.Refusal.{Refusal}
use Rattle.bits.specs.Refusals.{pick, refusal, none}
use Rattle.grid.specs.declared.Frame.{Frame}
use Rattle.grid.specs.Measured.{Measured, grid_in, grid_of}
use Rattle.grid.specs.declared.Rect.{Rect}
use Rattle.grid.specs.Groups.{judge, numbered, placed, touching, sampled, rect_for, touch_for, lf_index_of, index_for}
use Rattle.grid.proofs.Answered.{measured_from}
use Rattle.order.specs.declared.SectionNumber.{SectionNumber}
use Rattle.order.specs.declared.SentNumber.{SentNumber}
use Rattle.order.specs.Order.{checked}
use Rattle.order.specs.Numbers.{looked_up, entry_at, sent_of, section_of, SentAnswer, SectionAnswer}
use Rattle.sections.specs.Lookups.{place_refusal, place_by, place_of, section_of_sample, sent_of_section, section_of_sent}
use Rattle.sections.specs.Kinds.{kind_of, section_answer, section_of_kind}
use Rattle.layout.specs.declared.Layout.{Layout}
use Rattle.layout.specs.Layouts.{layout_of, section_in}
use Rattle.c_words.specs.Records.{section_of_numbers}
use Rattle.c_words.specs.Layouts.{section_by}

abbrev pub Plain : Refusal → Type 0
Plain r = r.number ≡ 0 → r ≡ none

plain_none : Plain none
plain_none z = refl

plain_number : (n p : ℕ) → eqb n 0 ≡ false → Plain (refusal n p)
plain_number n p h z = absurd (eqb-false n 0 h z)

plain_of : {A : Type 0} (get : A → Refusal) (t : Bool) (x y : A) → Plain (get x) → Plain (get y) → Plain (get (pick t x y))
plain_of get true x y p q = p
plain_of get false x y p q = q

plain_pick : (t : Bool) (r s : Refusal) → Plain r → Plain s → Plain (pick t r s)
plain_pick = plain_of (λ r. r)

pub plain_grid : (f : Frame) → Plain (grid_of f).refusal
plain_grid f z = ap (λ (m : Measured). m.refusal) (sym (measured_from f (grid_in (grid_of f)) z refl))

plain_judge : (f : Frame) (known : Bool) → Plain (judge (grid_of f) known)
unfolding judge
plain_judge f known = plain_pick _ _ _ (plain_pick known _ _ plain_none (plain_number 14 0 refl)) (plain_grid f)

plain_checked : (count : ℕ) (l : List ℕ) → Plain (checked count l)
unfolding checked
plain_checked count l = plain_pick _ _ _ (plain_number 10 0 refl) (plain_pick _ _ _ plain_none (plain_number 13 0 refl))

plain_looked : (table : List ℕ) (count index : ℕ) → Plain (looked_up table count index)
unfolding looked_up
plain_looked table count index = plain_pick _ _ _ (plain_pick _ _ _ plain_none (plain_number 14 0 refl)) (plain_checked count table)

plain_sent_of : (order : List ℕ) (count : ℕ) (section : SectionNumber) → Plain (sent_of order count section).refusal
unfolding sent_of entry_at
plain_sent_of order count section = plain_looked order count section.0

plain_section_of : (inverse : List ℕ) (count : ℕ) (sent : SentNumber) → Plain (section_of inverse count sent).refusal
unfolding section_of entry_at
plain_section_of inverse count sent = plain_looked inverse count sent.0

plain_place : (f : Frame) (o s i : ℕ) → Plain (place_refusal (grid_of f) o s i)
unfolding place_refusal
plain_place f o s i = plain_pick _ _ _ (plain_pick _ _ _ (plain_judge f _) (plain_number 3 0 refl)) (plain_grid f)

pub plain_sent : (f : Frame) (order : List ℕ) (section : SectionNumber) → Plain (sent_of_section f order section).refusal
unfolding sent_of_section
plain_sent f order section = plain_of (λ (a : SentAnswer). a.refusal) _ _ _ (plain_sent_of order (grid_of f).sections section) (plain_grid f)

pub plain_back : (f : Frame) (inverse : List ℕ) (sent : SentNumber) → Plain (section_of_sent f inverse sent).refusal
unfolding section_of_sent
plain_back f inverse sent = plain_of (λ (a : SectionAnswer). a.refusal) _ _ _ (plain_section_of inverse (grid_of f).sections sent) (plain_grid f)

plain_kind : (f : Frame) (known : Bool) (n : ℕ) → Plain (section_answer (judge (grid_of f) known) n).refusal
unfolding section_answer
plain_kind f known n = plain_judge f known

pub plain_numbers : (f : Frame) (kind pass group : ℕ) → Plain (section_of_numbers f kind pass group).refusal
unfolding section_of_numbers section_of_kind
plain_numbers f kind pass group = plain_of (λ (a : SectionAnswer). a.refusal) _ _ _ (plain_kind f _ _) (plain_kind f false 0)

plain_in : (l : Layout) (x y pass : ℕ) → Plain (section_in l x y pass).refusal
unfolding section_in
plain_in l x y pass = plain_of (λ (a : SectionAnswer). a.refusal) _ _ _ plain_none (plain_number 14 0 refl)

pub plain_by : (words : List ℕ) (x y pass : ℕ) → Plain (section_by words x y pass).refusal
unfolding section_by
plain_by words x y pass = plain_of (λ (a : SectionAnswer). a.refusal) _ _ _ (plain_number 3 0 refl) (plain_in _ x y pass)

-- the questions on a frame
module _ (f : Frame) where
  pub plain_sampled : (n u : ℕ) → Plain (sampled f n u).refusal
  unfolding sampled numbered
  plain_sampled n u = plain_grid f

  pub plain_rect : (side i : ℕ) → Plain (rect_for (grid_of f) side i).refusal
  unfolding rect_for placed
  plain_rect side i = plain_judge f _

  pub plain_touch : (side i : ℕ) (region : Rect) → Plain (touch_for (grid_of f) side i region).refusal
  unfolding touch_for touching
  plain_touch side i region = plain_judge f _

  pub plain_lf : (i : ℕ) → Plain (lf_index_of (grid_of f) i).refusal
  unfolding lf_index_of numbered
  plain_lf i = plain_judge f _

  pub plain_index : (x y : ℕ) → Plain (index_for (grid_of f) x y).refusal
  unfolding index_for numbered
  plain_index x y = plain_judge f _

  pub plain_sample : (x y pass : ℕ) → Plain (section_of_sample f x y pass).refusal
  unfolding section_of_sample
  plain_sample x y pass = plain_kind f _ _

  pub plain_kind_of : (section : SectionNumber) → Plain (kind_of f section).refusal
  unfolding kind_of
  plain_kind_of section = plain_judge f _

  pub plain_layout : Plain (layout_of f).refusal
  unfolding layout_of
  plain_layout = plain_grid f

  pub plain_place_of : (offsets sizes : List ℕ) (section : SectionNumber) → Plain (place_of f offsets sizes section).refusal
  unfolding place_of place_by
  plain_place_of offsets sizes section = plain_place f _ _ _
