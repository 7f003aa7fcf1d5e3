-- Orders, sections and layouts: 10, 13, 14 of a lent order; 8, 9, 10 of a frame before them; beside a refusal every number is 0.
use Prim.Native.Nat.{ℕ}
use native.Mathlib.Omega.{arith}
use mathlib.Core.Path.{◌≡◌, refl, ap}
use mathlib.Core.List.{List, [], ◌∷◌}
use mathlib.Core.Bool.{Bool, ◌&&◌}
use lib.Dec.{eqb, leb, ltb}
use lib.ListN.{length, get_or}
use Rattle.bits.specs.declared.Refusal.{Refusal}
use Rattle.bits.specs.Refusals.{pick, refusal, none}
use Rattle.bits.proofs.Reading.{of_both}
use Rattle.grid.specs.declared.Frame.{Frame}
use Rattle.grid.specs.Measured.{Measured, grid_of}
use Rattle.grid.specs.Groups.{judge}
use Rattle.order.specs.declared.SectionNumber.{SectionNumber}
use Rattle.order.specs.declared.SentNumber.{SentNumber}
use Rattle.order.specs.Order.{is_order, checked}
use Rattle.order.specs.Tables.{inverted, inverse_after}
use Rattle.order.specs.Numbers.{looked_up, entry_at, sent_of, section_of}
use Rattle.sections.specs.declared.TocGroupKind.{TocGroupKind}
use Rattle.sections.specs.declared.TocGroupKind.TheVariants.{All}
use Rattle.sections.specs.Kinds.{numbers_of, has_kind, kind_at, section_answer, section_of_kind, kind_of}
use Rattle.sections.specs.Lookups.{has_sample, section_of_sample, place_refusal, place_by, place_of, sent_of_section, section_of_sent}
use Rattle.layout.specs.declared.Layout.{Layout}
use Rattle.layout.specs.Layouts.{laid_out, nowhere, layout_of, has_in, number_in, group_in, not_in, section_in}
use Rattle.theorems.specs.Refusing.{Refuses, Ends, SectionEnds, SentEnds, KindEnds, PlaceEnds, LayoutEnds, of_frame, of_index, of_index_room, of_layout, of_order, of_inverse, of_entry, of_sent}
use Rattle.theorems.proofs.Refusing.{refuses_none, refuses_here, refuses_pick, refuses_more, beside}
use Rattle.theorems.proofs.GridEnds.{grid_refuses, judged}

-- ---- orders

pub check_order : (count : ℕ) (l : List ℕ) → Refuses of_order 0 (checked count l)
unfolding checked
check_order count l =
    refuses_pick of_order 0 (ltb 65536 count) (refusal 10 0) (pick (is_order count l) none (refusal 13 0)) (refuses_here of_order 10 refl refl)
    (refuses_pick of_order 0 (is_order count l) none (refusal 13 0) (refuses_none of_order 0 refl) (refuses_here of_order 13 refl refl))

looked_up_lem : (table : List ℕ) (count i : ℕ) → Refuses of_entry 0 (looked_up table count i)
unfolding looked_up
looked_up_lem table count i =
    refuses_pick of_entry 0 (eqb (checked count table).number 0) (pick (ltb i count) none (refusal 14 0)) (checked count table)
    (refuses_pick of_entry 0 (ltb i count) none (refusal 14 0) (refuses_none of_entry 0 refl) (refuses_here of_entry 14 refl refl))
    (refuses_more of_entry of_order 0 0 (checked count table) refl refl (omega arith) (check_order count table))

pub sent_of_lem : (order : List ℕ) (count : ℕ) (section : SectionNumber) → SentEnds of_entry (sent_of order count section)
unfolding sent_of entry_at
sent_of_lem order count section =
    record {
      refuses = looked_up_lem order count section.0;
      either = λ some. beside (looked_up order count section.0)
          (get_or order section.0 0) 0 some;
    }

pub section_of_lem : (inverse : List ℕ) (count : ℕ) (sent : SentNumber) → SectionEnds of_entry (section_of inverse count sent)
unfolding section_of entry_at
section_of_lem inverse count sent =
    record {
      refuses = looked_up_lem inverse count sent.0;
      either = λ some. beside (looked_up inverse count sent.0)
          (get_or inverse sent.0 0) 0 some;
    }

-- the table stays as it was
pub invert : (count : ℕ) (order table : List ℕ) → Ends of_inverse 0 (inverted count order table) table (inverse_after count order table)
unfolding inverted inverse_after
invert count order table =
    let room : Refusal = pick (ltb (length table) count) (refusal 3 0) (checked count order) in
    record {
      refuses =
          refuses_pick of_inverse 0 (ltb 65536 count) (refusal 10 0) room (refuses_here of_inverse 10 refl refl)
          (refuses_pick of_inverse 0 (ltb (length table) count) (refusal 3 0) (checked count order) (refuses_here of_inverse 3 refl refl)
          (refuses_more of_inverse of_order 0 0 (checked count order) refl refl (omega arith) (check_order count order)));
      either = λ some. beside (pick (ltb 65536 count) (refusal 10 0) room) _ table some;
    }

-- ---- sections

section_ends : (l : List ℕ) (r : Refusal) (v : ℕ) → Refuses l 0 r → SectionEnds l (section_answer r v)
unfolding section_answer
section_ends l r v d = record { refuses = d; either = λ some. beside r v 0 some }

pub section_of_kind_lem : (f : Frame) (kind : TocGroupKind) → SectionEnds of_index (section_of_kind f kind)
unfolding section_of_kind
section_of_kind_lem f kind = section_ends of_index _ _ (judged f (has_kind (grid_of f) f.num_passes (numbers_of kind)))

pub section_of_sample_lem : (f : Frame) (x y pass : ℕ) → SectionEnds of_index (section_of_sample f x y pass)
unfolding section_of_sample
section_of_sample_lem f x y pass = section_ends of_index _ _ (judged f (has_sample (grid_of f) f.num_passes x y pass))

pub kind_of_lem : (f : Frame) (section : SectionNumber) → KindEnds of_index (kind_of f section)
unfolding kind_of
kind_of_lem f section =
    let known : Bool = ltb section.0 (grid_of f).sections in
    record {
      refuses = judged f known;
      either =
          λ some.
          ap (λ (k : TocGroupKind). (numbers_of k).kind ∷ (numbers_of k).pass_idx ∷ (numbers_of k).group_idx ∷ [])
          (beside (judge (grid_of f) known) (kind_at (grid_of f) section.0) All some);
    }

pub section_at : (f : Frame) (offsets sizes : List ℕ) (section : SectionNumber) → PlaceEnds of_index_room (place_of f offsets sizes section)
unfolding place_of place_by place_refusal
section_at f offsets sizes section =
    let g : Measured = grid_of f in
    let room : Bool = leb g.sections (length offsets) && leb g.sections (length sizes) in
    let last : Refusal = pick room (judge g (ltb section.0 g.sections)) (refusal 3 0) in
    let r : Refusal = pick (eqb g.refusal.number 0) last g.refusal in
    record {
      refuses =
          refuses_pick of_index_room 0 (eqb g.refusal.number 0) last g.refusal
          (refuses_pick of_index_room 0 room (judge g (ltb section.0 g.sections)) (refusal 3 0)
          (refuses_more of_index_room of_index 0 0 _ refl refl (omega arith) (judged f (ltb section.0 g.sections)))
          (refuses_here of_index_room 3 refl refl))
          (refuses_more of_index_room of_frame 0 0 g.refusal refl refl (omega arith) (grid_refuses f));
      either =
          λ some.
          let off : pick (eqb r.number 0) (get_or offsets section.0 0) 0 ≡ 0 = beside r (get_or offsets section.0 0) 0 some in
          let size : pick (eqb r.number 0) (get_or sizes section.0 0) 0 ≡ 0 = beside r (get_or sizes section.0 0) 0 some in
          rw (off, size);
    }

pub sent_of_section_lem : (f : Frame) (order : List ℕ) (section : SectionNumber) → SentEnds of_sent (sent_of_section f order section)
unfolding sent_of_section
sent_of_section_lem f order section =
    of_both (SentEnds of_sent) (eqb (grid_of f).refusal.number 0) (sent_of order (grid_of f).sections section)
    (record { sent = record { 0 = 0 }; refusal = (grid_of f).refusal })
    (let own = sent_of_lem order (grid_of f).sections section in record {
      refuses = refuses_more of_sent of_entry 0 0 _ refl refl (omega arith)
          own.refuses;
      either = own.either;
    })
    (record { refuses = refuses_more of_sent of_frame 0 0 (grid_of f).refusal refl refl (omega arith) (grid_refuses f); either = λ some. refl })

pub section_of_sent_lem : (f : Frame) (inverse : List ℕ) (sent : SentNumber) → SectionEnds of_sent (section_of_sent f inverse sent)
unfolding section_of_sent
section_of_sent_lem f inverse sent =
    of_both (SectionEnds of_sent) (eqb (grid_of f).refusal.number 0) (section_of inverse (grid_of f).sections sent)
    (record { section = record { 0 = 0 }; refusal = (grid_of f).refusal })
    (let own = section_of_lem inverse (grid_of f).sections sent in record {
      refuses = refuses_more of_sent of_entry 0 0 _ refl refl (omega arith)
          own.refuses;
      either = own.either;
    })
    (record { refuses = refuses_more of_sent of_frame 0 0 (grid_of f).refusal refl refl (omega arith) (grid_refuses f); either = λ some. refl })

-- ---- layouts

pub layout_of_lem : (f : Frame) → LayoutEnds of_frame (layout_of f)
unfolding layout_of
layout_of_lem f =
    record {
      refuses = grid_refuses f;
      either =
          λ some.
          ap (λ (l : Layout). l.width ∷ l.height ∷ l.power ∷ l.columns ∷ l.groups ∷ l.lf_groups ∷ l.sections ∷ l.passes ∷ [])
          (beside (grid_of f).refusal (laid_out f (grid_of f)) nowhere some);
    }

pub section_in_lem : (l : Layout) (x y pass : ℕ) → SectionEnds of_layout (section_in l x y pass)
unfolding section_in
section_in_lem l x y pass =
    of_both (SectionEnds of_layout) (has_in l x y pass) (record { section = record { 0 = number_in l pass (group_in l x y) }; refusal = none }) not_in
    (record { refuses = refuses_none of_layout 0 refl; either = λ some. absurd (some refl) })
    (record { refuses = refuses_here of_layout 14 refl refl; either = λ some. refl })
