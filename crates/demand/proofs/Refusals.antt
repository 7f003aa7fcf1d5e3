-- Two refusals never follow on an accepted header: its frame is never refused with 8, and its end never with 11, at either section entry.
use Prim.Native.Nat.{ℕ, ◌*◌, ◌≤◌}
use native.Mathlib.Omega.{arith}
use mathlib.Core.Path.{◌≡◌}
use mathlib.Core.Logic.{inl, inr}
use mathlib.Core.List.{List}
use mathlib.Core.Bool.{Bool, true}
use lib.Dec.{eqb, leb, ltb}
use lib.ListN.{length}
use borrow.Author.Tests.{le-leb}
use Rattle.bits.specs.declared.Refusal.{Refusal}
use Rattle.bits.specs.declared.Cursor.{Cursor}
use Rattle.bits.specs.Refusals.{pick, refusal, none, start, clear}
use Rattle.bits.specs.Table.{read}
use Rattle.bits.proofs.Reading.{of_both}
use Rattle.grid.specs.declared.Frame.{Frame}
use Rattle.grid.specs.Measured.{Measured, good_record, zero_size, too_many, laid, refused_grid, grid_of}
use Rattle.header.specs.declared.Facts.{Facts}
use Rattle.header.specs.Entry.{HeaderTold}
use Rattle.header.specs.Record.{frame_of}
use Rattle.order.specs.Order.{is_order, checked}
use Rattle.toc.specs.Sizes.{size_rows, toc_rows}
use Rattle.toc.specs.Reading.{TocAnswer, Table, OrderNeeded, Refused, Tables, roomy, judged_by, judged, judged_order, Reading, toc_of, sized_answer, first_read, second_read, refused_read, first_reading, second_reading}
use Rattle.demand.specs.Frames.{HandedOn}
use Rattle.demand.proofs.Ranges.{Own, Reads, read_own, Any, reads_bind, reads_inside, reads_pick, reads_times}

sizes_reads : (count : ℕ) → Reads Any (size_rows count)
unfolding size_rows Reads
sizes_reads count = λ p x. reads_bind Any Any _ _ (reads_times count 0 _ (λ k n y. tt)) (λ sizes y q z. tt)

toc_reads : (count : ℕ) → Reads Any (toc_rows count)
unfolding toc_rows Reads
toc_reads count = λ flag x. reads_pick Any (eqb flag 0) _ _ (reads_inside Any Any _ _ _ (sizes_reads count) (λ sizes y. tt)) tt

-- what is refused, if anything is, has a number with a property
abbrev pub Refuses : (ℕ → Type 0) → TocAnswer → Type 0
Refuses P (Table toc) = Unit {0}
Refuses P (OrderNeeded place) = Unit {0}
Refuses P (Refused r) = P r.number

pub refuses_by : (P : ℕ → Type 0) (a : TocAnswer) → Refuses P a → (r : Refusal) → a ≡ Refused r → P r.number
refuses_by P a h r e = rw e at h

-- a property that all numbers have with which an entry may refuse: those of fields, 10, 13, the frame's own, and that of the place
pub record Allowed (P : ℕ → Type 0) (s : List ℕ) (f : Frame) (place : ℕ) : Type 0 where
  pub own : (n : ℕ) → Own n → P n
  pub many : P 10
  pub order : P 13
  pub frame : P (grid_of f).refusal.number
  pub inside : P (pick (leb place (8 * length s)) none (refusal 11 0)).number

module _ (P : ℕ → Type 0) (s : List ℕ) (f : Frame) (place : ℕ) (ok : Allowed P s f place) where
  abbrev Has : Refusal → Type 0
  Has r = P r.number

  judged_has : (room : Bool) → Has (judged_by s (grid_of f) place room)
  unfolding judged_by
  judged_has room =
      let inside : Refusal = pick (leb place (8 * length s)) none (refusal 11 0) in
      let lent : Refusal = pick room inside (refusal 3 0) in
      of_both Has (ltb 16777216 (length s)) (refusal 2 0) (pick (eqb (grid_of f).refusal.number 0) lent (grid_of f).refusal)
      (ok.own 2 (inl (omega arith)))
      (of_both Has (eqb (grid_of f).refusal.number 0) lent (grid_of f).refusal
      (of_both Has room inside (refusal 3 0) ok.inside (ok.own 3 (inl (omega arith)))) ok.frame)

  checked_has : (count : ℕ) (l : List ℕ) → Has (checked count l)
  unfolding checked
  checked_has count l =
      of_both Has (ltb 65536 count) (refusal 10 0) (pick (is_order count l) none (refusal 13 0)) ok.many
      (of_both Has (is_order count l) none (refusal 13 0) (ok.own 0 (inl (omega arith))) ok.order)

  order_has : (lent : List ℕ) (t : Tables) → Has (judged_order s (grid_of f) place lent t)
  unfolding judged_order
  order_has lent t =
      of_both Has (eqb (judged s (grid_of f) place t).number 0) (checked (grid_of f).sections lent) (judged s (grid_of f) place t)
      (checked_has (grid_of f).sections lent)
      (judged_has (roomy (grid_of f).sections t))

  sized_has : (count : ℕ) (sizes : List ℕ) (c : Cursor) → Own c.fault.number → Refuses P (sized_answer count sizes c)
  unfolding sized_answer
  sized_has count sizes c h = of_both (Refuses P) (clear c) (Table (toc_of count sizes c)) (Refused c.fault) tt (ok.own c.fault.number h)

  abbrev Answers : Reading → Type 0
  Answers q = Refuses P q.answer

  -- whatever an entry refuses has the property
  pub first_refuses : (t : Tables) → Refuses P (first_reading s f place t).answer
  unfolding first_reading first_read refused_read
  first_refuses t =
      let count : ℕ = (grid_of f).sections in
      let out = read (toc_rows count) s (start place) in
      of_both Answers (eqb (judged s (grid_of f) place t).number 0) (first_read count out) (refused_read (judged s (grid_of f) place t))
      (of_both (Refuses P) (eqb out.value.permuted 0) (sized_answer count out.value.sizes out.next) (OrderNeeded out.next.at)
      (sized_has count out.value.sizes out.next (read_own Any (toc_rows count) (toc_reads count) s (start place) (inl (omega arith)))) tt)
      (judged_has (roomy count t))

  pub second_refuses : (lent : List ℕ) (t : Tables) → Refuses P (second_reading s f place lent t).answer
  unfolding second_reading second_read refused_read
  second_refuses lent t =
      let count : ℕ = (grid_of f).sections in
      let out = read (size_rows count) s (start place) in
      of_both Answers (eqb (judged_order s (grid_of f) place lent t).number 0) (second_read count lent out)
      (refused_read (judged_order s (grid_of f) place lent t))
      (sized_has count out.value out.next (read_own Any (size_rows count) (sizes_reads count) s (start place) (inl (omega arith))))
      (order_has lent t)

-- ---- the two numbers

abbrev pub Not8 : ℕ → Type 0
Not8 n = n ≡ 8 → ⊥

abbrev pub Not11 : ℕ → Type 0
Not11 n = n ≡ 11 → ⊥

pub own_8 : (n : ℕ) → Own n → Not8 n
own_8 n (inl h) e = omega arith
own_8 n (inr h) e = omega arith

pub own_11 : (n : ℕ) → Own n → Not11 n
own_11 n (inl h) e = omega arith
own_11 n (inr h) e = omega arith

-- a good record is refused with 9 or 10 alone
grid_8 : (f : Frame) → good_record f ≡ true → Not8 (grid_of f).refusal.number
unfolding grid_of refused_grid laid
grid_8 f g =
    rw g
    (of_both (λ (x : Measured). Not8 x.refusal.number) (zero_size f) (refused_grid 9) (pick (too_many f) (refused_grid 10) (laid f)) (λ e. omega arith)
    (of_both (λ (x : Measured). Not8 x.refusal.number) (too_many f) (refused_grid 10) (laid f) (λ e. omega arith) (λ e. omega arith)))

-- no frame is refused with 11
grid_11 : (f : Frame) → Not11 (grid_of f).refusal.number
unfolding grid_of refused_grid laid
grid_11 f =
    let counted : Measured = pick (too_many f) (refused_grid 10) (laid f) in
    of_both (λ (x : Measured). Not11 x.refusal.number) (good_record f) (pick (zero_size f) (refused_grid 9) counted) (refused_grid 8)
    (of_both (λ (x : Measured). Not11 x.refusal.number) (zero_size f) (refused_grid 9) counted (λ e. omega arith)
    (of_both (λ (x : Measured). Not11 x.refusal.number) (too_many f) (refused_grid 10) (laid f) (λ e. omega arith) (λ e. omega arith)))
    (λ e. omega arith)

pub allowed_8 : (s : List ℕ) (f : Frame) (place : ℕ) → good_record f ≡ true → Allowed Not8 s f place
allowed_8 s f place g = record {
  own = own_8;
  many = λ e. omega arith;
  order = λ e. omega arith;
  frame = grid_8 f g;
  inside = of_both (λ (r : Refusal). Not8 r.number) (leb place (8 * length s)) none (refusal 11 0) (λ e. omega arith) (λ e. omega arith);
}

pub allowed_11 : (s : List ℕ) (f : Frame) (place : ℕ) → place ≤ 8 * length s → Allowed Not11 s f place
allowed_11 s f place h = record {
  own = own_11;
  many = λ e. omega arith;
  order = λ e. omega arith;
  frame = grid_11 f;
  inside = rw (le-leb place (8 * length s) h) (λ e. omega arith);
}

-- ---- the laws. `HandedOn` is what an accepted header is (`header_handed` of Frames).
module _ (facts : Facts) (s : List ℕ) (a : HeaderTold) (h : HandedOn facts s a) where
  -- the header's frame, at any place, is never refused with 8
  pub first_never_8 : (place : ℕ) (t : Tables) (r : Refusal) → (first_reading s (frame_of a.header) place t).answer ≡ Refused r → r.number ≡ 8 → ⊥
  first_never_8 place t = refuses_by Not8 _ (first_refuses Not8 s (frame_of a.header) place (allowed_8 s (frame_of a.header) place h.good) t)

  pub second_never_8 : (place : ℕ) (lent : List ℕ) (t : Tables) (r : Refusal) → (second_reading s (frame_of a.header) place lent t).answer ≡ Refused r
      → r.number ≡ 8 → ⊥
  second_never_8 place lent t =
      refuses_by Not8 _ (second_refuses Not8 s (frame_of a.header) place (allowed_8 s (frame_of a.header) place h.good) lent t)

  -- the header's end, of any frame, is never refused with 11
  pub first_never_11 : (f : Frame) (t : Tables) (r : Refusal) → (first_reading s f a.end t).answer ≡ Refused r → r.number ≡ 11 → ⊥
  first_never_11 f t = refuses_by Not11 _ (first_refuses Not11 s f a.end (allowed_11 s f a.end h.within) t)

  pub second_never_11 : (f : Frame) (lent : List ℕ) (t : Tables) (r : Refusal) → (second_reading s f a.end lent t).answer ≡ Refused r
      → r.number ≡ 11 → ⊥
  second_never_11 f lent t = refuses_by Not11 _ (second_refuses Not11 s f a.end (allowed_11 s f a.end h.within) lent t)
