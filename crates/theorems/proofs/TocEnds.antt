-- The section entries: a table, "order needed" where no order is lent, or a refusal with a number of theirs at a place within the input; only a
-- table is written.
use Prim.Native.Nat.{ℕ, ◌*◌, ◌≤◌}
use native.Mathlib.Omega.{arith}
use mathlib.Core.Path.{◌≡◌, refl}
use mathlib.Core.List.{List, [], ◌∷◌}
use mathlib.Core.Bool.{Bool, true, false}
use lib.Dec.{eqb, leb, ltb}
use lib.ListN.{length}
use borrow.Author.Tests.{eqb-true}
use Rattle.bits.specs.declared.Read.{Read}
use Rattle.bits.specs.declared.Refusal.{Refusal}
use Rattle.bits.specs.declared.Cursor.{Cursor}
use Rattle.bits.specs.Refusals.{pick, refusal, none, start, clear}
use Rattle.bits.specs.Bits.{bit_count}
use Rattle.bits.specs.Table.{read}
use Rattle.bits.proofs.Reading.{picked, read_within_end, of_both}
use Rattle.grid.specs.declared.Frame.{Frame}
use Rattle.grid.specs.Measured.{grid_of}
use Rattle.order.specs.Order.{checked}
use Rattle.toc.specs.Sizes.{Sent, size_rows, toc_rows}
use Rattle.toc.specs.Reading.{TocAnswer, Table, OrderNeeded, Refused, Tables, tables, roomy, judged_by, judged, judged_order, Reading, toc_of, sized_answer, first_read, second_read, refused_read, first_reading, second_reading, written, after, Done}
use Rattle.toc.proofs.Judging.{judged_fair}
use Rattle.toc.proofs.Accepted.{Telling, same_answer, first_telling, second_telling}
use Rattle.theorems.specs.Refusing.{Refuses, Tells, of_frame, of_order, of_toc, of_toc_order}
use Rattle.theorems.proofs.Refusing.{holds, refuses_none, refuses_here, refuses_pick, refuses_more}
use Rattle.theorems.proofs.Readers.{Own, own_bind, own_inside, own_pick, own_times, read_refuses}
use Rattle.theorems.proofs.GridEnds.{grid_refuses}
use Rattle.theorems.proofs.SectionEnds.{check_order}

-- what is said by an answer, apart from what was written
abbrev Said : List ℕ → Bool → ℕ → TocAnswer → Type 0
Said l needs last (Table toc) = Unit {0}
Said l needs last (OrderNeeded place) = (needs ≡ true) × (place ≤ last)
Said l needs last (Refused r) = Refuses l last r

-- with what is known to be told: a table has a section, a refusal a number
tells : (l : List ℕ) (needs : Bool) (last : ℕ) (a : TocAnswer) (sizes order : List ℕ) (t : Tables) → Telling a → Said l needs last a
    → Tells l needs last t (written a sizes order t) a
unfolding written
tells l needs last (Table toc) sizes order t k h = k
tells l needs last (OrderNeeded place) sizes order t k h = (h.0, h.1, refl)
tells l needs last (Refused r) sizes order t k h = (k, h, refl)

-- an entry's answer is the one of its definition
ends : (l : List ℕ) (needs : Bool) (last : ℕ) (q : Reading) (t : Tables) (result : TocAnswer) (o z p i : List ℕ)
    → Telling q.answer → Said l needs last q.answer → Done q t result o z p i → Tells l needs last t (tables o z p i) result
ends l needs last q t result o z p i k h d =
    let is : result ≡ q.answer = same_answer result q.answer k d.answer in
    let lent : tables o z p i ≡ after q t = rw (d.offsets, d.sizes, d.order, d.inverse) in
    rw (is, lent) (tells l needs last q.answer q.sizes q.order t k h)

-- ---- before anything is read

abbrev unread : List ℕ
unread = 2 ∷ 8 ∷ 9 ∷ 10 ∷ 3 ∷ 11 ∷ []

judged_refuses : (s : List ℕ) (f : Frame) (place : ℕ) (room : Bool) → Refuses unread 0 (judged_by s (grid_of f) place room)
unfolding judged_by
judged_refuses s f place room =
    let inside : Refusal = pick (leb place (8 * length s)) none (refusal 11 0) in
    let lent : Refusal = pick room inside (refusal 3 0) in
    refuses_pick unread 0 (ltb 16777216 (length s)) (refusal 2 0) (pick (eqb (grid_of f).refusal.number 0) lent (grid_of f).refusal)
    (refuses_here unread 2 refl refl)
    (refuses_pick unread 0 (eqb (grid_of f).refusal.number 0) lent (grid_of f).refusal
    (refuses_pick unread 0 room inside (refusal 3 0)
    (refuses_pick unread 0 (leb place (8 * length s)) none (refusal 11 0) (refuses_none unread 0 refl) (refuses_here unread 11 refl refl))
    (refuses_here unread 3 refl refl))
    (refuses_more unread of_frame 0 0 (grid_of f).refusal refl refl (omega arith) (grid_refuses f)))

order_refuses : (s : List ℕ) (f : Frame) (place : ℕ) (lent : List ℕ) (t : Tables)
    → Refuses of_toc_order (bit_count s) (judged_order s (grid_of f) place lent t)
unfolding judged_order
order_refuses s f place lent t =
    let first : Refusal = judged s (grid_of f) place t in
    refuses_pick of_toc_order (bit_count s) (eqb first.number 0) (checked (grid_of f).sections lent) first
    (refuses_more of_toc_order of_order 0 (bit_count s) (checked (grid_of f).sections lent) refl refl (omega arith)
    (check_order (grid_of f).sections lent))
    (refuses_more of_toc_order unread 0 (bit_count s) first refl refl (omega arith) (judged_refuses s f place (roomy (grid_of f).sections t)))

-- ---- what is read

own_sizes : (l : List ℕ) → holds l (4 ∷ []) ≡ true → holds l (4 ∷ 12 ∷ []) ≡ true → (count : ℕ) → Own l (size_rows count)
unfolding size_rows Own
own_sizes l h k count = (k, λ p. own_bind l _ _ (own_times l count 0 _ (λ i. (h, λ n. tt))) (λ sizes. (k, λ q. tt)))

own_toc : (count : ℕ) → Own of_toc (toc_rows count)
unfolding toc_rows Own
own_toc count = (refl, λ flag. own_pick of_toc (eqb flag 0) _ _ (own_inside of_toc _ _ _ (own_sizes of_toc refl refl count) (λ sizes. tt)) tt)

sized_said : (l : List ℕ) (needs : Bool) (last count : ℕ) (sizes : List ℕ) (c : Cursor) → Refuses l last c.fault
    → Said l needs last (sized_answer count sizes c)
unfolding sized_answer
sized_said l needs last count sizes c h = of_both (Said l needs last) (clear c) (Table (toc_of count sizes c)) (Refused c.fault) tt h

-- an accepted place is within the bits that may be read
within : (s : List ℕ) (f : Frame) (place : ℕ) (room : Bool) → (judged_by s (grid_of f) place room).number ≡ 0 → place ≤ bit_count s
within s f place room z =
    let fair = judged_fair s (grid_of f) place room z in
    omega (arith, fair.short, fair.inside)

first_said : (s : List ℕ) (f : Frame) (place : ℕ) (t : Tables) → Said of_toc true (bit_count s) (first_reading s f place t).answer
unfolding first_reading first_read refused_read
first_said s f place t =
    let count : ℕ = (grid_of f).sections in
    let r : Refusal = judged s (grid_of f) place t in
    let out : Read Sent = read (toc_rows count) s (start place) in
    picked (λ (q : Reading). Said of_toc true (bit_count s) q.answer) (eqb r.number 0) (first_read count out) (refused_read r)
    (λ e.
    let h : place ≤ bit_count s = within s f place (roomy count t) (eqb-true _ 0 e) in
    of_both (Said of_toc true (bit_count s)) (eqb out.value.permuted 0) (sized_answer count out.value.sizes out.next)
    (OrderNeeded out.next.at)
    (sized_said of_toc true (bit_count s) count out.value.sizes out.next (read_refuses of_toc refl s (toc_rows count) (own_toc count) place h))
    (refl, read_within_end (toc_rows count) s (start place) h))
    (λ e. refuses_more of_toc unread 0 (bit_count s) r refl refl (omega arith) (judged_refuses s f place (roomy count t)))

-- an order is judged only where nothing was refused before it
order_last : (b : Bool) (first last : Refusal) → eqb first.number 0 ≡ b → (pick b last first).number ≡ 0 → first.number ≡ 0
order_last true first last e z = eqb-true first.number 0 e
order_last false first last e z = z

judged_first : (s : List ℕ) (f : Frame) (place : ℕ) (lent : List ℕ) (t : Tables) → (judged_order s (grid_of f) place lent t).number ≡ 0
    → (judged s (grid_of f) place t).number ≡ 0
unfolding judged_order
judged_first s f place lent t z = order_last _ (judged s (grid_of f) place t) (checked (grid_of f).sections lent) refl z

second_said : (s : List ℕ) (f : Frame) (place : ℕ) (lent : List ℕ) (t : Tables)
    → Said of_toc_order false (bit_count s) (second_reading s f place lent t).answer
unfolding second_reading second_read refused_read
second_said s f place lent t =
    let count : ℕ = (grid_of f).sections in
    let r : Refusal = judged_order s (grid_of f) place lent t in
    let out : Read (List ℕ) = read (size_rows count) s (start place) in
    picked (λ (q : Reading). Said of_toc_order false (bit_count s) q.answer) (eqb r.number 0) (second_read count lent out) (refused_read r)
    (λ e.
    let h : place ≤ bit_count s = within s f place (roomy count t) (judged_first s f place lent t (eqb-true _ 0 e)) in
    sized_said of_toc_order false (bit_count s) count out.value out.next
    (read_refuses of_toc_order refl s (size_rows count) (own_sizes of_toc_order refl refl count) place h))
    (λ e. order_refuses s f place lent t)

-- ---- the two entries, with what their definitions say for the C functions

pub first_tells : (s : List ℕ) (f : Frame) (place : ℕ) (t : Tables)
    → Tells of_toc true (bit_count s) t (after (first_reading s f place t) t) (first_reading s f place t).answer
first_tells s f place t = tells of_toc true (bit_count s) (first_reading s f place t).answer _ _ t (first_telling s f place t) (first_said s f place t)

pub second_tells : (s : List ℕ) (f : Frame) (place : ℕ) (lent : List ℕ) (t : Tables)
    → Tells of_toc_order false (bit_count s) t (after (second_reading s f place lent t) t) (second_reading s f place lent t).answer
second_tells s f place lent t =
    tells of_toc_order false (bit_count s) (second_reading s f place lent t).answer _ _ t (second_telling s f place t lent)
    (second_said s f place lent t)

pub read_toc : (s : List ℕ) (f : Frame) (place : ℕ) (t : Tables) (result : TocAnswer) (o z p i : List ℕ)
    → Done (first_reading s f place t) t result o z p i → Tells of_toc true (bit_count s) t (tables o z p i) result
read_toc s f place t result o z p i d =
    ends of_toc true (bit_count s) (first_reading s f place t) t result o z p i (first_telling s f place t) (first_said s f place t) d

pub read_toc_with_order : (s : List ℕ) (f : Frame) (place : ℕ) (lent : List ℕ) (t : Tables) (result : TocAnswer) (o z p i : List ℕ)
    → Done (second_reading s f place lent t) t result o z p i → Tells of_toc_order false (bit_count s) t (tables o z p i) result
read_toc_with_order s f place lent t result o z p i d =
    ends of_toc_order false (bit_count s) (second_reading s f place lent t) t result o z p i (second_telling s f place t lent)
    (second_said s f place lent t) d
