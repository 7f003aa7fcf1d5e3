-- What an accepted table is: its parts. Over these the theorems on a whole frame are proved (crate `theorems`).
use Rattle.std.proofs.Common.{◌≡◌, ℕ, ◌*◌, ◌/◌, ◌<◌, ◌≤◌, Bool, true, false, eqb, List, length, get_or, sym, refl, ap, ◌∙◌, arith, eqb-true}
use borrow.Author.Tests.{eqb-false}
use Rattle.bits.specs.declared.Read.{Read}
use Rattle.bits.specs.declared.Refusal.{Refusal}
use Rattle.bits.specs.declared.Cursor.{Cursor}
use Rattle.bits.specs.Refusals.{pick, start, clear}
use Rattle.bits.specs.Bits.{bit_count}
use Rattle.bits.specs.Codec.{bool, field}
use Rattle.bits.specs.Table.{read}
use Rattle.bits.proofs.Reading.{picked, read_within_end, field_within}
use Rattle.grid.specs.declared.Frame.{Frame}
use Rattle.grid.specs.Measured.{Measured, grid_of}
use Rattle.order.specs.Order.{is_order, checked}
use Rattle.order.specs.Tables.{tabulate, identity}
use Rattle.order.proofs.Entries.{split}
use Rattle.order.proofs.Inverse.{identity_order}
use Rattle.order.proofs.Tables.{length_tabulate, get_d_tabulate}
use Rattle.toc.specs.declared.Toc.{Toc}
use Rattle.toc.specs.Sizes.{Sent, size_rows, toc_rows, sent_before}
use Rattle.toc.specs.Private.{size_at, padded, walked, Room}
use Rattle.toc.specs.Reading.{TocAnswer, Table, OrderNeeded, Refused, Tables, roomy, judged, judged_order, TocNumbers, toc_numbers, Reading, toc_of, sized_answer, first_read, second_read, refused_read, first_reading, second_reading, tables_of, written, after}
use Rattle.sections.proofs.Counts.{Counts, counts}
use Rattle.toc.proofs.Walking.{size_small, rows_read}
use Rattle.toc.proofs.Judging.{Fair, judged_fair}
use Rattle.toc.proofs.Entering.{sized_reading_lem, fair, roomed, first_refused, first_needed, first_is}

-- an accepted table: count, order, sizes as sent, data start, total, room, and what was written
pub record Accepted (s : List ℕ) (f : Frame) (t : Tables) (toc : Toc) (q : Reading) : Type 0 where
  pub frame : (grid_of f).refusal.number ≡ 0
  pub counts : Counts f (grid_of f)
  pub count : toc.count ≡ (grid_of f).sections
  pub few : toc.count ≤ 65536
  pub order : is_order toc.count q.order ≡ true
  pub sent : length q.sizes ≡ toc.count
  pub small : (k : ℕ) → k < toc.count → get_or q.sizes k 0 < 1077953536
  pub short : length s ≤ 16777216
  pub begins : toc.bookmark ≤ length s
  pub total : toc.total_byte_size ≡ sent_before q.sizes toc.count
  pub room : Room toc.count (length t.offsets) (length t.sizes) (length t.order) (length t.inverse)
  pub filled : after q t ≡ tables_of toc q.sizes q.order t

-- An answer that its number and values tell whole: a table has a section, and a refusal a number.
abbrev pub Telling : TocAnswer → Type 0
Telling (Table toc) = 0 < toc.count
Telling (OrderNeeded place) = Unit {0}
Telling (Refused r) = r.number ≡ 0 → ⊥

-- then another with the same number and values is the same
pub same_answer : (a b : TocAnswer) → Telling b → toc_numbers a ≡ toc_numbers b → a ≡ b
same_answer (Table x) (Table y) k e = ap (λ (n : TocNumbers). Table n.toc) e
same_answer (Table x) (OrderNeeded q) k e = absurd (let z : ◌≡◌ {A = ℕ} 0 255 = ap (λ (n : TocNumbers). n.number) e in omega arith)
same_answer (Table x) (Refused r) k e = absurd (k (sym (ap (λ (n : TocNumbers). n.number) e)))
same_answer (OrderNeeded p) (Table y) k e = absurd (let z : ◌≡◌ {A = ℕ} 255 0 = ap (λ (n : TocNumbers). n.number) e in omega arith)
same_answer (OrderNeeded p) (OrderNeeded q) k e = ap (λ (n : TocNumbers). OrderNeeded n.next) e
same_answer (OrderNeeded p) (Refused r) k e = absurd (k (sym (ap (λ (n : TocNumbers). n.refusal.number) e)))
same_answer (Refused r) (Table y) k e = absurd (let z : ◌≡◌ {A = ℕ} 0 y.count = ap (λ (n : TocNumbers). n.toc.count) e in omega (arith, k))
same_answer (Refused r) (OrderNeeded q) k e =
    absurd (let z : ◌≡◌ {A = ℕ} r.number 255 = ap (λ (n : TocNumbers). n.number) e in let y : ◌≡◌ {A = ℕ} r.number 0 = ap (λ (n : TocNumbers). n.refusal.number) e in omega arith)
same_answer (Refused r) (Refused r') k e = ap (λ (n : TocNumbers). Refused n.refusal) e

sized_by : (b : Bool) (x toc : Toc) (r : Refusal) → pick b (Table x) (Refused r) ≡ Table toc → toc ≡ x
sized_by true x toc r e = cc
sized_by false x toc r e = absurd (let z : ◌≡◌ {A = ℕ} 0 1 = cc in omega arith)

pub not_refused : (r : Refusal) (toc : Toc) (a : TocAnswer) → (r.number ≡ 0 → ⊥) → toc_numbers (Refused r) ≡ toc_numbers a → a ≡ Table toc → ⊥
not_refused r toc a some p q = some (ap (λ (n : TocNumbers). n.number) (p ∙ ap toc_numbers q))

pub not_needed : (n : ℕ) (toc : Toc) (a : TocAnswer) → toc_numbers (OrderNeeded n) ≡ toc_numbers a → a ≡ Table toc → ⊥
not_needed n toc a p q = let z : ◌≡◌ {A = ℕ} 255 0 = ap (λ (n : TocNumbers). n.number) (p ∙ ap toc_numbers q) in omega arith

-- a lent order is judged only where nothing was refused before it
judged_both : (b : Bool) (first last : Refusal) → eqb first.number 0 ≡ b → (pick b last first).number ≡ 0 → first.number ≡ 0
judged_both true first last e z = eqb-true first.number 0 e
judged_both false first last e z = z

-- a reading with an order l, from the padding at c on
module _ (s : List ℕ) (f : Frame) (t : Tables) (toc : Toc) (q : Reading) (l : List ℕ) (c : Cursor)
    (eq : q ≡ record {
      answer = sized_answer (grid_of f).sections (tabulate (grid_of f).sections (size_at s (padded s c))) (walked s c (grid_of f).sections).last;
      order = l;
      sizes = tabulate (grid_of f).sections (size_at s (padded s c));
    }) (table : q.answer ≡ Table toc)
  where
    toc_is : toc ≡ toc_of (grid_of f).sections (tabulate (grid_of f).sections (size_at s (padded s c))) (walked s c (grid_of f).sections).last
    unfolding sized_answer
    toc_is =
        let last : Cursor = (walked s c (grid_of f).sections).last in
        sized_by (clear last) (toc_of (grid_of f).sections (tabulate (grid_of f).sections (size_at s (padded s c))) last) toc last.fault
        (sym (ap (λ (x : Reading). x.answer) eq) ∙ table)

    count_is : toc.count ≡ (grid_of f).sections
    unfolding toc_of
    count_is = ap (λ (x : Toc). x.count) toc_is

    start_is : toc.bookmark ≡ (walked s c (grid_of f).sections).last.at / 8
    unfolding toc_of
    start_is = ap (λ (x : Toc). x.bookmark) toc_is

    total_is : toc.total_byte_size ≡ sent_before (tabulate (grid_of f).sections (size_at s (padded s c))) (grid_of f).sections
    unfolding toc_of
    total_is = ap (λ (x : Toc). x.total_byte_size) toc_is

    sizes_are : q.sizes ≡ tabulate (grid_of f).sections (size_at s (padded s c))
    sizes_are = ap (λ (x : Reading). x.sizes) eq

    last_within : c.at ≤ bit_count s → (walked s c (grid_of f).sections).last.at ≤ bit_count s
    last_within h =
        let is : (read (size_rows (grid_of f).sections) s c).next ≡ (walked s c (grid_of f).sections).last =
        ap (λ (o : Read (List ℕ)). o.next) (rows_read s c (grid_of f).sections) in
        rw (← is) (read_within_end (size_rows (grid_of f).sections) s c h)

    filled_is : after q t ≡ tables_of toc q.sizes q.order t
    unfolding written
    filled_is = ap (λ (a : TocAnswer). written a q.sizes q.order t) table

    pub accepted_by : is_order (grid_of f).sections l ≡ true → (place : ℕ) (room : Bool) → Fair s (grid_of f) place room
        → Room (grid_of f).sections (length t.offsets) (length t.sizes) (length t.order) (length t.inverse) → c.at ≤ bit_count s
        → Accepted s f t toc q
    accepted_by o place room fair rooms h =
        let n : Counts f (grid_of f) = counts f (grid_of f) refl fair.frame in
        let l-is : q.order ≡ l = ap (λ (x : Reading). x.order) eq in
        record {
          frame = fair.frame;
          counts = n;
          count = count_is;
          few = omega (arith, count_is, n.small);
          order = rw (count_is, l-is) o;
          sent = ap length sizes_are ∙ length_tabulate (grid_of f).sections (size_at s (padded s c)) ∙ sym count_is;
          small = λ k lt. rw (sizes_are, get_d_tabulate (grid_of f).sections (size_at s (padded s c)) k (omega (arith, count_is))) (size_small s (padded s c) k);
          short = fair.short;
          begins = omega (arith, start_is, last_within h);
          total = rw (count_is, sizes_are) total_is;
          room = rw count_is rooms;
          filled = filled_is;
        }

-- within the bits from a place that is not past the end
pub place_within : (s : List ℕ) (place : ℕ) → length s ≤ 16777216 → place ≤ 8 * length s → place ≤ bit_count s
place_within s place h k = omega arith

-- the first entry: the order is the identity
pub first_accepted : (s : List ℕ) (f : Frame) (place : ℕ) (t : Tables) (toc : Toc) → (first_reading s f place t).answer ≡ Table toc
    → Accepted s f t toc (first_reading s f place t) × ((first_reading s f place t).order ≡ identity toc.count)
first_accepted s f place t toc e =
    let g : Measured = grid_of f in
    let r : Refusal = judged s g place t in
    split (eqb r.number 0)
    (λ z'.
    let z : r.number ≡ 0 = eqb-true r.number 0 z' in
    let ok = fair s f place t g refl (roomy g.sections t) refl r refl z in
    let flag : Read ℕ = field s true bool 0 (start place) in
    split (eqb flag.value 0)
    (λ p.
    let is =
    sym (first_is s f place t g refl (roomy g.sections t) refl r refl z (start place) refl flag refl (eqb-true flag.value 0 p))
    ∙ sized_reading_lem s flag.next g.sections (identity g.sections) in
    let inside : flag.next.at ≤ bit_count s = field_within s true bool 0 (start place) (place_within s place ok.short ok.inside) in
    let a =
    accepted_by s f t toc (first_reading s f place t) (identity g.sections) flag.next is e (identity_order g.sections) place (roomy g.sections t) ok
    (roomed s f place t g refl (roomy g.sections t) refl r refl z) inside in
    (a, ap (λ (x : Reading). x.order) is ∙ ap identity (sym a.count)))
    (λ p.
    absurd (not_needed _ toc _ (first_needed s f place t g refl (roomy g.sections t) refl r refl z (start place) refl flag refl (eqb-false flag.value 0 p)).answer e)))
    (λ z'. absurd (not_refused r toc _ (eqb-false r.number 0 z') (first_refused s f place t g refl (roomy g.sections t) refl r refl (eqb-false r.number 0 z')).answer e))

-- whatever an entry answers is told whole
module _ (s : List ℕ) (f : Frame) (place : ℕ) (t : Tables) where
  some_section : (room : Bool) → Fair s (grid_of f) place room → 0 < (grid_of f).sections
  some_section room ok = (counts f (grid_of f) refl ok.frame).some_section

  sized_telling : (count : ℕ) (sizes : List ℕ) (c : Cursor) → 0 < count → Telling (sized_answer count sizes c)
  unfolding sized_answer toc_of
  sized_telling count sizes c some =
      picked Telling (clear c) (Table (toc_of count sizes c)) (Refused c.fault) (λ e. some) (λ e. eqb-false c.fault.number 0 e)

  pub first_telling : Telling (first_reading s f place t).answer
  unfolding first_reading first_read refused_read
  first_telling =
      let g : Measured = grid_of f in
      let r : Refusal = judged s g place t in
      let out : Read Sent = read (toc_rows g.sections) s (start place) in
      picked (λ (q : Reading). Telling q.answer) (eqb r.number 0) (first_read g.sections out) (refused_read r)
      (λ e.
      picked Telling (eqb out.value.permuted 0) (sized_answer g.sections out.value.sizes out.next) (OrderNeeded out.next.at)
      (λ p. sized_telling g.sections out.value.sizes out.next (some_section (roomy g.sections t) (judged_fair s g place (roomy g.sections t) (eqb-true r.number 0 e))))
      (λ p. tt))
      (λ e. eqb-false r.number 0 e)

  pub second_telling : (lent : List ℕ) → Telling (second_reading s f place lent t).answer
  unfolding second_reading second_read refused_read judged_order
  second_telling lent =
      let g : Measured = grid_of f in
      let r : Refusal = judged_order s g place lent t in
      let first : Refusal = judged s g place t in
      let out : Read (List ℕ) = read (size_rows g.sections) s (start place) in
      picked (λ (q : Reading). Telling q.answer) (eqb r.number 0) (second_read g.sections lent out) (refused_read r)
      (λ e.
      sized_telling g.sections out.value out.next
      (some_section (roomy g.sections t) (judged_fair s g place (roomy g.sections t) (judged_both (eqb first.number 0) first (checked g.sections lent) refl (eqb-true r.number 0 e)))))
      (λ e. eqb-false r.number 0 e)
