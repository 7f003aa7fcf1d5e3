-- The theorem on a whole frame: sections and sent numbers, bytes, samples, and where a sample's section starts. One record of four parts, for
-- either entry: over the tables as they are defined, and over the words of the lent tables after an accepted call.
use Rattle.order.specs.Numbers.{SectionAnswer}
use Prim.Native.Nat.{ℕ, ◌+◌, ◌-◌, ◌≤◌, ◌<◌}
use native.Mathlib.Omega.{arith}
use mathlib.Core.Path.{◌≡◌, refl, sym, ◌∙◌, ap}
use mathlib.Core.List.{List}
use mathlib.Core.Bool.{true}
use lib.ListN.{get_or}
use lib.Dec.{ltb}
use Rattle.bits.specs.Refusals.{pick, none}
use Rattle.grid.specs.declared.Frame.{Frame}
use Rattle.grid.specs.Sizes.{up, color_width, color_height, group_side}
use Rattle.grid.specs.Measured.{Measured, grid_of, laid}
use Rattle.grid.specs.Groups.{rect_of, index_at}
use Rattle.grid.proofs.Accepted.{accepted}
use Rattle.grid.proofs.Answers.{judge_known}
use Rattle.order.specs.Numbers.{SectionAnswer}
use Rattle.order.specs.Tables.{identity, inverse_of}
use Rattle.order.specs.Sums.{sum_to}
use Rattle.order.proofs.Sums.{sum_ext}
use Rattle.order.proofs.Reach.{order_below}
use Rattle.order.proofs.Inverse.{inverse_order, inverse_there}
use Rattle.order.proofs.Tables.{get_d_tabulate}
use Rattle.toc.specs.declared.Toc.{Toc}
use Rattle.sections.specs.declared.TocGroupKind.{TocGroupKind}
use Rattle.sections.specs.declared.TocGroupKind.TheVariants.{All, GroupPass}
use Rattle.sections.specs.Kinds.{numbers_of, section_number, KindTold, kind_of}
use Rattle.toc.specs.Sizes.{sent_before, offsets_by, sizes_by}
use Rattle.toc.specs.Reading.{Table, Tables, tables, Reading, first_reading, second_reading, Done}
use Rattle.sections.specs.Lookups.{sample_kind, section_of_sample}
use Rattle.sections.proofs.OfKinds.{number_below, of_kind_yes}
use Rattle.sections.proofs.Asking.{Sample, sample_all, sample_group, sample_has}
use Rattle.toc.proofs.Accepted.{Accepted, first_accepted, same_answer, first_telling, second_telling}
use Rattle.theorems.proofs.Orders.{order_once, order_sum, inverse_back}
use Rattle.theorems.proofs.Rectangles.{In, Exactly, groups_exactly}
use Rattle.theorems.proofs.KindsBack.{kind_of_section_of}
use Rattle.theorems.proofs.Tables.{second_accepted, offset_at_lem, size_at_lem, order_at, inverse_at}
use Rattle.theorems.proofs.Found.{sample_answer}
use Rattle.theorems.proofs.Spots.{Spot, spot, spot_end, spot_once, sum_cut}

-- ---- the words of the theorem. Of four tables `t` it speaks of the words below the count: offset[j], size[j], order[j], inverse[k].

-- byte b lies in section j: there is such a section, and offset[j] ≤ b < offset[j] + size[j]
pub record Holds (toc : Toc) (t : Tables) (b j : ℕ) : Type 0 where
  pub section : j < toc.count
  pub from : get_or t.offsets j 0 ≤ b
  pub to : b < get_or t.offsets j 0 + get_or t.sizes j 0

-- the sum of size[i] over all sections i with order[i] < order[j]: those that are sent before section j
abbrev pub sent_earlier : Toc → Tables → ℕ → ℕ
sent_earlier toc t j = sum_to toc.count (λ i. pick (ltb (get_or t.order i 0) (get_or t.order j 0)) (get_or t.sizes i 0) 0)

-- the section that is found for a sample and a pass, by its number
abbrev pub found_for : Frame → ℕ → ℕ → ℕ → ℕ
found_for f x y pass = (section_of_sample f x y pass).section.0

-- ---- the four parts

-- sections to sent numbers and back, from either side; `order` is the order that is due
pub record ThereAndBack (toc : Toc) (order : List ℕ) (t : Tables) : Type 0 where
  -- the table of the order holds the order that is due
  pub due : (j : ℕ) → j < toc.count → get_or t.order j 0 ≡ get_or order j 0
  -- a section's sent number is below the count, and a sent number's section too
  pub sent : (j : ℕ) → j < toc.count → get_or t.order j 0 < toc.count
  pub section : (k : ℕ) → k < toc.count → get_or t.inverse k 0 < toc.count
  -- inverse[order[j]] is j, for every section
  pub back : (j : ℕ) → j < toc.count → get_or t.inverse (get_or t.order j 0) 0 ≡ j
  -- order[inverse[k]] is k, for every sent number
  pub there : (k : ℕ) → k < toc.count → get_or t.order (get_or t.inverse k 0) 0 ≡ k

-- each byte from the data start to the data start plus the total lies in exactly one section; `sent` is the sizes as they were sent
pub record OneByteOneSection (toc : Toc) (sent : List ℕ) (t : Tables) : Type 0 where
  -- a section has the size that was sent as its number
  pub size : (j : ℕ) → j < toc.count → get_or t.sizes j 0 ≡ get_or sent (get_or t.order j 0) 0
  -- there is a section that holds the byte
  pub some : (b : ℕ) → toc.bookmark ≤ b → b < toc.bookmark + toc.total_byte_size → (j : ℕ) × Holds toc t b j
  -- any two that hold it are the same
  pub only : (b i j : ℕ) → Holds toc t b i → Holds toc t b j → i ≡ j
  -- no section holds a byte before the data start or behind the total
  pub within : (b j : ℕ) → Holds toc t b j → (toc.bookmark ≤ b) × (b < toc.bookmark + toc.total_byte_size)
  -- a section of size zero holds none
  pub empty : (b j : ℕ) → get_or t.sizes j 0 ≡ 0 → Holds toc t b j → ⊥

-- the section that is found for a sample and a pass starts at the data start plus the sizes of all sections sent before it
pub record FoundWhereSent (f : Frame) (toc : Toc) (sent : List ℕ) (t : Tables) (x y pass : ℕ) : Type 0 where
  -- nothing is refused, and the section is one of the table
  pub answered : (section_of_sample f x y pass).refusal ≡ none
  pub section : found_for f x y pass < toc.count
  -- where there is one section alone, its kind is All
  pub all : toc.count ≡ 1 → ◌≡◌ {A = KindTold} (kind_of f (section_of_sample f x y pass).section) (record { numbers = numbers_of All; refusal = none })
  -- else its kind is GroupPass, of the pass and of the group whose rectangle holds the sample
  pub group : (toc.count ≡ 1 → ⊥) → (i : ℕ) → In (rect_of (color_width f) (color_height f) (group_side f) i) x y
      → ◌≡◌ {A = KindTold} (kind_of f (section_of_sample f x y pass).section) (record { numbers = numbers_of (GroupPass pass i); refusal = none })
  -- its offset, by the sizes in sent order: those of the sent numbers below its own
  pub starts : get_or t.offsets (found_for f x y pass) 0 ≡ toc.bookmark + sent_before sent (get_or t.order (found_for f x y pass) 0)
  -- its offset, by the sizes of the sections that are sent before it
  pub starts_by_section : get_or t.offsets (found_for f x y pass) 0 ≡ toc.bookmark + sent_earlier toc t (found_for f x y pass)

-- the four together: of a frame, what was answered, the order that is due, the sizes as they were sent, and four tables
pub record Demand (f : Frame) (toc : Toc) (order sent : List ℕ) (t : Tables) : Type 0 where
  pub there_and_back : ThereAndBack toc order t
  pub one_byte_one_section : OneByteOneSection toc sent t
  -- each colour sample lies in the clipped rectangle of exactly one group
  pub one_sample_one_rectangle : Exactly (color_width f) (color_height f) (group_side f)
  -- for each colour sample and each pass of the frame
  pub found_where_sent : (x y pass : ℕ) → x < color_width f → y < color_height f → pass < f.num_passes → FoundWhereSent f toc sent t x y pass

-- ---- the tables that it holds of

-- the four tables of a reading, as they are defined
abbrev pub defined : Toc → Reading → Tables
defined toc q =
    tables (offsets_by toc.count toc.bookmark q.sizes q.order) (sizes_by toc.count q.sizes q.order) q.order (inverse_of toc.count q.order)

-- the words below the count are those of the reading's order and sizes
pub record Written (toc : Toc) (q : Reading) (t : Tables) : Type 0 where
  pub offsets : (j : ℕ) → j < toc.count → get_or t.offsets j 0 ≡ toc.bookmark + sent_before q.sizes (get_or q.order j 0)
  pub sizes : (j : ℕ) → j < toc.count → get_or t.sizes j 0 ≡ get_or q.sizes (get_or q.order j 0) 0
  pub order : (j : ℕ) → j < toc.count → get_or t.order j 0 ≡ get_or q.order j 0
  pub inverse : (k : ℕ) → k < toc.count → get_or t.inverse k 0 ≡ get_or (inverse_of toc.count q.order) k 0

-- of the definitions
pub written_defined : (toc : Toc) (q : Reading) → Written toc q (defined toc q)
unfolding offsets_by sizes_by
written_defined toc q = record {
  offsets = λ j l. get_d_tabulate toc.count (λ i. toc.bookmark + sent_before q.sizes (get_or q.order i 0)) j l;
  sizes = λ j l. get_d_tabulate toc.count (λ i. get_or q.sizes (get_or q.order i 0) 0) j l;
  order = λ j l. refl;
  inverse = λ k l. refl;
}

-- and of the lent tables after a call that answered a table
pub written_words : (s : List ℕ) (f : Frame) (t : Tables) (toc : Toc) (q : Reading) → Accepted s f t toc q → (o z p i : List ℕ) → Done q t (Table toc) o z p i
    → Written toc q (tables o z p i)
written_words s f t toc q a o z p i d = record {
  offsets = λ j l. ap (λ (x : List ℕ). get_or x j 0) d.offsets ∙ offset_at_lem s f t toc q a j l;
  sizes = λ j l. ap (λ (x : List ℕ). get_or x j 0) d.sizes ∙ size_at_lem s f t toc q a j l;
  order = λ j l. ap (λ (x : List ℕ). get_or x j 0) d.order ∙ order_at s f t toc q a j l;
  inverse = λ k l. ap (λ (x : List ℕ). get_or x k 0) d.inverse ∙ inverse_at s f t toc q a k l;
}

-- ---- the proof, for any tables with these words

abbrev kinded : TocGroupKind → KindTold
kinded k = record { numbers = numbers_of k; refusal = none }

abbrev size_sent : Reading → ℕ → ℕ
size_sent q k = get_or q.sizes k 0

module _ (s : List ℕ) (f : Frame) (lent : Tables) (toc : Toc) (q : Reading) (a : Accepted s f lent toc q) (t : Tables) (w : Written toc q t) where
  sent_below : (j : ℕ) → j < toc.count → get_or q.order j 0 < toc.count
  sent_below j l = order_below toc.count q.order a.order j l

  section_below : (k : ℕ) → k < toc.count → get_or (inverse_of toc.count q.order) k 0 < toc.count
  section_below k l = order_below toc.count (inverse_of toc.count q.order) (inverse_order toc.count q.order a.order) k l

  there_back : ThereAndBack toc q.order t
  there_back = record {
    due = w.order;
    sent = λ j l. rw (w.order j l) (sent_below j l);
    section = λ k l. rw (w.inverse k l) (section_below k l);
    back = λ j l. rw (w.order j l, w.inverse (get_or q.order j 0) (sent_below j l)) (inverse_back toc.count q.order a.order j l);
    there = λ k l. rw (w.inverse k l, w.order (get_or (inverse_of toc.count q.order) k 0) (section_below k l)) (inverse_there toc.count q.order a.order k l);
  }

  -- the sizes sent before a number, as a sum of terms
  before : (k : ℕ) → sent_before q.sizes k ≡ sum_to k (size_sent q)
  unfolding sent_before
  before k = refl

  -- a byte in a section lies in the term of its sent number
  holds_spot : (b j : ℕ) → Holds toc t b j → (toc.bookmark ≤ b) × Spot (size_sent q) (b - toc.bookmark) (get_or q.order j 0)
  holds_spot b j h =
      let o = w.offsets j h.section ∙ ap (λ (x : ℕ). toc.bookmark + x) (before (get_or q.order j 0)) in
      let z = w.sizes j h.section in
      (omega (arith, h.from), record { from = omega (arith, h.from); to = omega (arith, h.from, h.to) })

  spot_holds : (b j : ℕ) → j < toc.count → toc.bookmark ≤ b → Spot (size_sent q) (b - toc.bookmark) (get_or q.order j 0) → Holds toc t b j
  spot_holds b j l h x =
      let o = w.offsets j l ∙ ap (λ (x : ℕ). toc.bookmark + x) (before (get_or q.order j 0)) in
      let z = w.sizes j l in
      record { section = l; from = omega (arith, x.from); to = omega (arith, x.to) }

  one_byte : OneByteOneSection toc q.sizes t
  one_byte = record {
    size = λ j l. rw (w.order j l) (w.sizes j l);
    some = λ b from to.
        let total : toc.total_byte_size ≡ sum_to toc.count (size_sent q) = a.total ∙ before toc.count in
        let at = spot toc.count (size_sent q) (b - toc.bookmark) (omega arith) in
        let j : ℕ = get_or (inverse_of toc.count q.order) at.0 0 in
        let is : get_or q.order j 0 ≡ at.0 = inverse_there toc.count q.order a.order at.0 at.1 in
        (j, spot_holds b j (section_below at.0 at.1) from (rw is at.2));
    only = λ b i j x y.
        order_once toc.count q.order a.order i j x.section y.section
        (spot_once (size_sent q) (b - toc.bookmark) (get_or q.order i 0) (get_or q.order j 0) (holds_spot b i x).1 (holds_spot b j y).1);
    within = λ b j x.
        let at = holds_spot b j x in
        let total : toc.total_byte_size ≡ sum_to toc.count (size_sent q) = a.total ∙ before toc.count in
        (at.0, omega (arith, at.0, at.1.to, spot_end toc.count (size_sent q) (get_or q.order j 0) (sent_below j x.section)));
    empty = λ b j z x. omega (arith, x.from, x.to);
  }

  -- the sizes sent before a section, over the sections
  by_section : (j : ℕ) → j < toc.count → sent_earlier toc t j ≡ sent_before q.sizes (get_or q.order j 0)
  unfolding sent_before
  by_section j l =
      let m : ℕ = get_or q.order j 0 in
      sum_ext toc.count (λ i. pick (ltb (get_or t.order i 0) (get_or t.order j 0)) (get_or t.sizes i 0) 0) (λ i. pick (ltb (get_or q.order i 0) m) (size_sent q (get_or q.order i 0)) 0)
      (λ i h. rw (w.order i h, w.order j l, w.sizes i h))
      ∙ order_sum toc.count q.order a.order (λ k. pick (ltb k m) (size_sent q k) 0)
      ∙ sum_cut toc.count m (size_sent q) (omega (arith, sent_below j l))

  starts_at : (j : ℕ) → j < toc.count → get_or t.offsets j 0 ≡ toc.bookmark + sent_before q.sizes (get_or t.order j 0)
  starts_at j l = w.offsets j l ∙ ap (λ (k : ℕ). toc.bookmark + sent_before q.sizes k) (sym (w.order j l))

  -- the grid's numbers are the frame's
  columns : (grid_of f).columns ≡ up (color_width f) (group_side f)
  unfolding laid
  columns = ap (λ (g : Measured). g.columns) (accepted f a.frame).grid

  side : (grid_of f).side ≡ group_side f
  unfolding laid
  side = ap (λ (g : Measured). g.side) (accepted f a.frame).grid

  -- a sample of the colour sample size is one of the grid
  sampled : (x y pass : ℕ) → x < color_width f → y < color_height f → pass < f.num_passes → Sample (grid_of f) f.num_passes x y pass
  unfolding laid
  sampled x y pass hx hy hp = rw (accepted f a.frame).grid (record { across = hx; down = hy; early = hp })

  -- the group whose rectangle holds a sample
  group_is : (x y i : ℕ) → In (rect_of (color_width f) (color_height f) (group_side f) i) x y → x < color_width f → y < color_height f
      → index_at (grid_of f).columns (grid_of f).side x y ≡ i
  group_is x y i at hx hy =
      let e = groups_exactly f a.frame in
      rw (columns, side) (e.only x y _ i (e.inside x y hx hy) at)

  found : (x y pass : ℕ) → x < color_width f → y < color_height f → pass < f.num_passes → FoundWhereSent f toc q.sizes t x y pass
  found x y pass hx hy hp =
      let g : Measured = grid_of f in
      let h : Sample g f.num_passes x y pass = sampled x y pass hx hy hp in
      let is = sample_answer f a.frame x y pass h in
      let number : ℕ = section_number g (numbers_of (sample_kind g x y pass)) in
      let has = sample_has f g a.counts x y pass h in
      let of = of_kind_yes f g refl none (sample_kind g x y pass) (numbers_of (sample_kind g x y pass)) refl true (sym has) (judge_known g true none a.frame refl refl) number refl refl in
      let n : found_for f x y pass ≡ number = ap (λ (r : SectionAnswer). r.section.0) is in
      let l : found_for f x y pass < toc.count = omega (arith, n, a.count, number_below f g a.counts (numbers_of (sample_kind g x y pass)) has) in
      let kind =
      ap (λ (r : SectionAnswer). kind_of f r.section) (is ∙ of)
      ∙ kind_of_section_of f (sample_kind g x y pass) (ap (λ (r : SectionAnswer). r.refusal.number) (sym of)) in
      record {
        answered = ap (λ (r : SectionAnswer). r.refusal) is;
        section = l;
        all = λ one. kind ∙ ap kinded (sym (sample_all g x y pass (sym a.count ∙ one)));
        group = λ several i at.
            kind
            ∙ ap kinded (sym (sample_group g x y pass (λ one. several (a.count ∙ one))))
            ∙ ap (λ (n : ℕ). kinded (GroupPass pass n)) (group_is x y i at hx hy);
        starts = starts_at (found_for f x y pass) l;
        starts_by_section = w.offsets (found_for f x y pass) l ∙ ap (λ (k : ℕ). toc.bookmark + k) (sym (by_section (found_for f x y pass) l));
      }

  pub demand : Demand f toc q.order q.sizes t
  demand = record {
    there_and_back = there_back;
    one_byte_one_section = one_byte;
    one_sample_one_rectangle = groups_exactly f a.frame;
    found_where_sent = found;
  }

-- the same order by another name
due_order : (f : Frame) (toc : Toc) (l m sent : List ℕ) (t : Tables) → l ≡ m → Demand f toc l sent t → Demand f toc m sent t
due_order f toc l m sent t e d = rw (← e) d

-- ---- the theorem. Whatever the bytes, the frame, the place and the lent tables: if a table is answered, the four parts hold.

-- the first entry, where the identity is due
module _ (s : List ℕ) (f : Frame) (place : ℕ) (t : Tables) (toc : Toc) where
  -- of the tables as they are defined
  pub first_demand : (first_reading s f place t).answer ≡ Table toc
      → Demand f toc (identity toc.count) (first_reading s f place t).sizes (defined toc (first_reading s f place t))
  first_demand e =
      let q : Reading = first_reading s f place t in
      let ok = first_accepted s f place t toc e in
      due_order f toc q.order _ q.sizes _ ok.1 (demand s f t toc q ok.0 (defined toc q) (written_defined toc q))

  -- of what the call left in the lent tables, by what it promises
  pub first_written : (o z p i : List ℕ) → Done (first_reading s f place t) t (Table toc) o z p i
      → Demand f toc (identity toc.count) (first_reading s f place t).sizes (tables o z p i)
  first_written o z p i d =
      let q : Reading = first_reading s f place t in
      let ok = first_accepted s f place t toc (sym (same_answer (Table toc) q.answer (first_telling s f place t) d.answer)) in
      due_order f toc q.order _ q.sizes _ ok.1 (demand s f t toc q ok.0 (tables o z p i) (written_words s f t toc q ok.0 o z p i d))

-- the second entry, where the lent order is due
module _ (s : List ℕ) (f : Frame) (place : ℕ) (order : List ℕ) (t : Tables) (toc : Toc) where
  pub second_demand : (second_reading s f place order t).answer ≡ Table toc
      → Demand f toc order (second_reading s f place order t).sizes (defined toc (second_reading s f place order t))
  second_demand e =
      let q : Reading = second_reading s f place order t in
      let ok = second_accepted s f place order t toc e in
      due_order f toc q.order _ q.sizes _ ok.1 (demand s f t toc q ok.0 (defined toc q) (written_defined toc q))

  pub second_written : (o z p i : List ℕ) → Done (second_reading s f place order t) t (Table toc) o z p i
      → Demand f toc order (second_reading s f place order t).sizes (tables o z p i)
  second_written o z p i d =
      let q : Reading = second_reading s f place order t in
      let ok = second_accepted s f place order t toc (sym (same_answer (Table toc) q.answer (second_telling s f place t order) d.answer)) in
      due_order f toc q.order _ q.sizes _ ok.1 (demand s f t toc q ok.0 (tables o z p i) (written_words s f t toc q ok.0 o z p i d))
