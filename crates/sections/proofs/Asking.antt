-- Laws of the look-ups: what each way answers, and that the section of a sample is one that the frame has.
use Prim.Native.Nat.{ℕ, ◌<◌}
use native.Mathlib.Omega.{arith}
use mathlib.Core.Path.{◌≡◌, refl, sym}
use mathlib.Core.List.{List}
use mathlib.Core.Bool.{Bool, true, false, not, ◌&&◌}
use lib.ListN.{length, get_or}
use lib.Dec.{eqb, leb, ltb}
use borrow.Author.Tests.{eq-eqb, ne_eqb, eqb-true, eqb-false, leb-true, lt-ltb, ltb-true, not-false}
use Rattle.bits.specs.declared.Refusal.{Refusal}
use Rattle.bits.specs.Refusals.{pick, refusal}
use Rattle.grid.specs.declared.Frame.{Frame}
use Rattle.grid.specs.Measured.{Measured, grid_of}
use Rattle.grid.specs.Groups.{judge, index_at}
use Rattle.grid.proofs.Accepted.{and_parts}
use Rattle.grid.proofs.Answers.{judged}
use Rattle.order.specs.declared.SectionNumber.{SectionNumber}
use Rattle.order.specs.declared.SentNumber.{SentNumber}
use Rattle.order.specs.Numbers.{SectionAnswer}
use Rattle.order.specs.Numbers.{SentAnswer, sent_of, section_of}
use Rattle.order.proofs.Entries.{split, and_both}
use Rattle.sections.specs.declared.TocGroupKind.{TocGroupKind}
use Rattle.sections.specs.declared.TocGroupKind.TheVariants.{All, GroupPass}
use Rattle.sections.specs.declared.KindNumbers.{KindNumbers}
use Rattle.sections.specs.Lookups.{PlaceAnswer}
use Rattle.sections.specs.Kinds.{numbers_of, has_kind, section_number}
use Rattle.sections.specs.Lookups.{sample_kind, has_sample, section_of_sample, place_refusal, place_by, place_of, sent_of_section, section_of_sent}
use Rattle.sections.proofs.Counts.{Counts}
use Rattle.sections.proofs.OfKinds.{has_one, has_pass_lem, section_yes, section_no}

-- a sample and a pass that the frame has
pub record Sample (g : Measured) (passes x y pass : ℕ) : Type 0 where
  pub across : x < g.width
  pub down : y < g.height
  pub early : pass < passes

pub sample_parts : (g : Measured) (passes x y pass : ℕ) → has_sample g passes x y pass ≡ true → Sample g passes x y pass
unfolding has_sample
sample_parts g passes x y pass e =
    let both = and_parts (ltb x g.width && ltb y g.height) (ltb pass passes) e in
    let inside = and_parts (ltb x g.width) (ltb y g.height) both.0 in
    record { across = ltb-true x g.width inside.0; down = ltb-true y g.height inside.1; early = ltb-true pass passes both.1 }

module _ (g : Measured) (x y pass : ℕ) where
  pub sample_all : g.sections ≡ 1 → All ≡ sample_kind g x y pass
  unfolding sample_kind
  sample_all h = rw (eq-eqb g.sections 1 h)

  -- the side may be written as another number that is the same
  pub sample_group_by : (d : ℕ) → d ≡ g.side → (g.sections ≡ 1 → ⊥) → GroupPass pass (index_at g.columns d x y) ≡ sample_kind g x y pass
  unfolding sample_kind
  sample_group_by d ed h = rw (ed, ne_eqb g.sections 1 h)

  pub sample_group : (g.sections ≡ 1 → ⊥) → GroupPass pass (index_at g.columns g.side x y) ≡ sample_kind g x y pass
  sample_group = sample_group_by g.side refl

-- the frame has the sample's kind
pub sample_has : (f : Frame) (g : Measured) → Counts f g → (x y pass : ℕ) → Sample g f.num_passes x y pass → has_kind g f.num_passes (numbers_of (sample_kind g x y pass)) ≡ true
sample_has f g n x y pass a =
    let passes : ℕ = f.num_passes in
    let group : ℕ = index_at g.columns g.side x y in
    split (eqb g.sections 1)
    (λ t.
    let h : g.sections ≡ 1 = eqb-true g.sections 1 t in
    rw (← sample_all g x y pass h) (sym (has_one g passes (numbers_of All) h)))
    (λ t.
    let h : g.sections ≡ 1 → ⊥ = eqb-false g.sections 1 t in
    let k : KindNumbers = numbers_of (GroupPass pass group) in
    rw (← sample_group g x y pass h)
    (sym (has_pass_lem g passes k h (eqb-false 4 2 refl) refl true
    (sym (and_both (lt-ltb pass passes a.early) (lt-ltb group g.groups (n.sample x y a.across a.down)))))))

module _ (f : Frame) (g : Measured) (m : g ≡ grid_of f) (x y pass : ℕ) (known : Bool) (en : known ≡ has_sample g f.num_passes x y pass) (r : Refusal) (er : r ≡ judge g known) where
  pub of_sample_no : (r.number ≡ 0 → ⊥) → ◌≡◌ {A = SectionAnswer} (record { section = record { 0 = 0 }; refusal = r }) (section_of_sample f x y pass)
  unfolding section_of_sample
  of_sample_no h = rw (← m, ← en, ← er) (section_no r _ h)

  module _ (z : r.number ≡ 0) (kind : TocGroupKind) (ek : kind ≡ sample_kind g x y pass) (k : KindNumbers) (ekn : k ≡ numbers_of kind) where
    pub of_sample_yes : (n : ℕ) → n ≡ section_number g k → ◌≡◌ {A = SectionAnswer} (record { section = record { 0 = n }; refusal = r }) (section_of_sample f x y pass)
    unfolding section_of_sample
    of_sample_yes n e = rw (← m, ← en, ← er, ← ek, ← ekn, ← e) (section_yes r n z)

-- the judgement on a section number and two tables
module _ (g : Measured) (o s i : ℕ) where
  pub place_frame : (g.refusal.number ≡ 0 → ⊥) → g.refusal ≡ place_refusal g o s i
  unfolding place_refusal
  place_frame h = rw (ne_eqb g.refusal.number 0 h)

  module _ (z : g.refusal.number ≡ 0) (room : Bool) (e : room ≡ (leb g.sections o && leb g.sections s)) where
    pub place_judged : (r : Refusal) → not room ≡ false → r ≡ judge g (ltb i g.sections) → r ≡ place_refusal g o s i
    unfolding place_refusal
    place_judged r t er = rw (eq-eqb g.refusal.number 0 z, ← e, not-false room t) er

ways : (b d : Bool) (own j : Refusal) → (b ≡ false → own.number ≡ 0 → ⊥) → (pick b (pick d j (refusal 3 0)) own).number ≡ 0 → (d ≡ true) × (j.number ≡ 0)
ways true true own j h z = (refl, z)
ways true false own j h z = absurd (omega arith)
ways false d own j h z = absurd (h refl z)

-- nothing was refused: the section stands in both tables
pub place_inside : (g : Measured) (o s i : ℕ) (r : Refusal) → r ≡ place_refusal g o s i → r.number ≡ 0 → (i < o) × (i < s)
unfolding place_refusal
place_inside g o s i r e z =
    let way = ways (eqb g.refusal.number 0) (leb g.sections o && leb g.sections s) g.refusal (judge g (ltb i g.sections)) (eqb-false g.refusal.number 0) (rw e at z) in
    let room = and_parts (leb g.sections o) (leb g.sections s) way.0 in
    let low : i < g.sections = ltb-true i g.sections (judged g (ltb i g.sections) way.1).1 in
    (omega (arith, leb-true g.sections o room.0), omega (arith, leb-true g.sections s room.1))

module _ (f : Frame) (offsets sizes : List ℕ) (section : SectionNumber) (g : Measured) (m : g ≡ grid_of f) (r : Refusal) (er : r ≡ place_refusal g (length offsets) (length sizes) section.0) where
  pub place_yes : r.number ≡ 0
      → ◌≡◌ {A = PlaceAnswer} (record { offset = get_or offsets section.0 0; size = get_or sizes section.0 0; refusal = r }) (place_of f offsets sizes section)
  unfolding place_of place_by
  place_yes h = rw (← m, ← er, eq-eqb r.number 0 h)

-- through the orders
module _ (f : Frame) (table : List ℕ) (g : Measured) (m : g ≡ grid_of f) where
  pub sent_yes : (section : SectionNumber) (r : SentAnswer) → g.refusal.number ≡ 0 → r ≡ sent_of table g.sections section → r ≡ sent_of_section f table section
  unfolding sent_of_section
  sent_yes section r h e = rw (← m, eq-eqb g.refusal.number 0 h) e

  pub back_yes : (sent : SentNumber) (r : SectionAnswer) → g.refusal.number ≡ 0 → r ≡ section_of table g.sections sent → r ≡ section_of_sent f table sent
  unfolding section_of_sent
  back_yes sent r h e = rw (← m, eq-eqb g.refusal.number 0 h) e
