-- The C functions: the status word holds the refusal whole, 3 among its numbers where a lent slice is too short, and a refusal leaves the lent
-- slices as they were.
use Rattle.order.specs.Numbers.{SectionAnswer}
use Prim.Native.Nat.{ℕ, ◌+◌, ◌*◌, ◌/◌, ◌%◌, ◌^◌, ◌≤◌, ◌<◌}
use native.Mathlib.Nat.{mod-eq_of_lt}
use native.Mathlib.Omega.{arith}
use mathlib.Core.Path.{◌≡◌, refl, ◌∙◌, ap}
use mathlib.Core.Logic.{inl, inr}
use mathlib.Core.List.{List}
use mathlib.Core.Bool.{Bool, true, false, not, ◌&&◌}
use lib.Dec.{eqb, leb, ltb}
use lib.Ieee.{Float}
use lib.IntN.{ℤ}
use lib.ListN.{length, set}
use lib.Seq.{sets}
use borrow.Author.Tests.{eqb-true, eqb-false}
use Rattle.std.specs.Prelude.{Result, Ok, Err}
use Rattle.bits.specs.declared.Refusal.{Refusal}
use Rattle.bits.specs.Refusals.{pick, refusal, none}
use Rattle.bits.specs.Bits.{bit_count}
use Rattle.bits.proofs.Reading.{picked, of_both}
use Rattle.grid.specs.declared.Frame.{Frame}
use Rattle.grid.specs.declared.Rect.{Rect}
use Rattle.grid.specs.Measured.{grid_of}
use Rattle.grid.specs.Groups.{judge, sampled, rect_for, lf_index_of, index_for, touch_for}
use Rattle.header.specs.declared.Facts.{Facts}
use Rattle.header.specs.declared.entry.HeaderRead.{HeaderRead}
use Rattle.header.specs.Blending.{words}
use Rattle.header.specs.Entry.{bad_facts, judged, stands, HeaderTold, answered, told, refused_header}
use Rattle.order.specs.Numbers.{SectionAnswer}
use Rattle.order.proofs.Entries.{split}
use Rattle.sections.specs.Kinds.{section_of_kind, kind_of}
use Rattle.sections.specs.Kinds as kinds
use Rattle.sections.specs.Lookups.{section_of_sample, place_of, sent_of_section, section_of_sent}
use Rattle.layout.specs.Layouts.{layout_of, section_in}
use Rattle.toc.specs.Reading.{TocAnswer, Table, OrderNeeded, Refused, Tables, tables, Reading, refused_read, first_reading, second_reading, written, after}
use Rattle.listing.specs.Put.{fitted}
use Rattle.c_words.specs.Status.{status_of, is_early, roomed}
use Rattle.c_words.specs.Answers.{Answer, refusal_for, Given, words_of, refused_in, written_in, Handed}
use Rattle.c_words.specs.Records.{section_number, sent_number, number_answer, touch_answer, section_answer, sent_answer, placed_answer, grid_answer, kind_answer, place_answer, kind_named, section_of_numbers}
use Rattle.c_words.specs.Layouts.{layout_answer, layout_by, section_by}
use Rattle.c_words.specs.Contents.{toc_status, toc_after, no_room, roomed_reading, Listed}
use Rattle.c_words.specs.Heading.{Buffers, buffers, HandedOut, HandedBy, HeadRead, record_room, no_record, judged_all, words_after, signed_after, floats_after}
use Rattle.listing_job.specs.Job.{job_text}
use Rattle.export.specs.Told.{untold, Told}
use Rattle.theorems.specs.Refusing.{among, rules, Refuses, Ends, refusal_in, Tells, SectionEnds, held, WordEnds, lent, ListLent, TocWordEnds, of_frame, of_index, of_frame_room, of_index_room, of_layout, of_layout_room, of_sent, of_sent_room, of_toc, of_toc_order, of_toc_room, of_facts, of_header, of_text}
use Rattle.theorems.proofs.Refusing.{holds, ruled, refuses_none, refuses_here, refuses_pick, refuses_more, beside}
use Rattle.theorems.proofs.GridEnds as grid
use Rattle.theorems.proofs.SectionEnds as sections
use Rattle.theorems.proofs.TocEnds.{first_tells, second_tells}
use Rattle.theorems.proofs.HeaderEnds.{judge_header, answered_refuses, buffer_kept}
use Rattle.theorems.proofs.ListingEnds.{fits}

-- ---- the word

low : (l : List ℕ) (last : ℕ) (r : Refusal) → Refuses l last r → r.number ≤ 14
low l last r d =
    split (eqb 0 r.number) (λ t. let z : 0 ≡ r.number = eqb-true 0 r.number t in omega arith)
    (λ t. (ruled l r.number d.ruled (rw t at d.listed)).1)

apart : (p n : ℕ) → n < 256 → ((p * 256 + n) % 256 ≡ n) × ((p * 256 + n) / 256 ≡ p)
apart p n h = (omega arith, omega arith)

-- a refusal comes back from its word
pub status_held : (l : List ℕ) (last : ℕ) (r : Refusal) → last < 2 ^ 56 → Refuses l last r → held (status_of r) ≡ r
status_held l last r big d =
    let small : r.number % 256 ≡ r.number = mod-eq_of_lt (omega (arith, low l last r d)) in
    let near : r.place % 2 ^ 56 ≡ r.place = mod-eq_of_lt (omega (arith, d.inside)) in
    let parts = apart r.place r.number (omega (arith, low l last r d)) in
    rw (small, near, parts.0, parts.1)

-- what a word says of a refusal, with what is lent
worded : {A : Type 0} (l : List ℕ) (last : ℕ) (r : Refusal) (word : ℕ) (before after : A) → last < 2 ^ 56 → word ≡ status_of r
    → Ends l last r before after → WordEnds l last word before after
worded l last r word before after big e d =
    let is : held word ≡ r = ap held e ∙ status_held l last r big d.refuses in
    rw is d

-- ---- records as words

room : (l more : List ℕ) (r : Refusal) (short : Bool) → rules l ≡ true → holds l more ≡ true → among l 3 ≡ true → Refuses more 0 r
    → Refuses l 0 (roomed r short)
room l more r short ok h three d =
    refuses_pick l 0 (short && not (is_early r.number)) (refusal 3 0) r (refuses_here l 3 ok three) (refuses_more l more 0 0 r ok h (omega arith) d)

-- every function that hands out a record
pub given : (l more : List ℕ) (a : Answer) (before : List ℕ) (word : ℕ) (after : List ℕ)
    → rules l ≡ true → holds l more ≡ true → among l 3 ≡ true → Refuses more 0 a.refusal → Given a before word after
    → WordEnds l 0 word before after
given l more a before word after ok h three d g =
    let r : Refusal = refusal_for a before in
    worded l 0 r word before after (omega arith) g.status
    (record {
      refuses = room l more a.refusal (ltb (length before) (length a.words)) ok h three d;
      either = λ some. g.words ∙ beside r (sets before 0 a.words) before some;
    })

-- and of every answer that such a function is given: the words of an `Ok`, or an `Err` of one of the numbers
handed_by : {A : Type 0} (words : A → List ℕ) (short : Bool) (l more : List ℕ) (a : Result A Refusal) (before : List ℕ) (word : ℕ) (after : List ℕ)
    → rules l ≡ true → holds l more ≡ true → among l 3 ≡ true → Refuses more 0 (refusal_in a)
    → word ≡ status_of (roomed (refused_in (words_of words a)) short) → after ≡ written_in short (words_of words a) before
    → WordEnds l 0 word before after
handed_by words true l more (Ok a) before word after ok h three d e w =
    worded l 0 (refusal 3 0) word before after (omega arith) e (record { refuses = refuses_here l 3 ok three; either = λ some. w })
handed_by words false l more (Ok a) before word after ok h three d e w =
    worded l 0 none word before after (omega arith) e (record { refuses = refuses_none l 0 ok; either = λ some. absurd (some refl) })
handed_by words true l more (Err r) before word after ok h three d e w =
    worded l 0 (roomed r true) word before after (omega arith) e (record { refuses = room l more r true ok h three d; either = λ some. w })
handed_by words false l more (Err r) before word after ok h three d e w =
    worded l 0 (roomed r false) word before after (omega arith) e (record { refuses = room l more r false ok h three d; either = λ some. w })

pub handed : {A : Type 0} (words : A → List ℕ) (n : ℕ) (l more : List ℕ) (a : Result A Refusal) (before : List ℕ) (word : ℕ) (after : List ℕ)
    → rules l ≡ true → holds l more ≡ true → among l 3 ≡ true → Refuses more 0 (refusal_in a) → Handed n (words_of words a) before word after
    → WordEnds l 0 word before after
handed words n l more a before word after ok h three d g =
    handed_by words (ltb (length before) n) l more a before word after ok h three d g.status g.words

-- a kind by its numbers, a layout by its words, and what is refused where there is no room for a table's or a header's words
pub section_named : (f : Frame) (kind pass group : ℕ) → SectionEnds of_index (section_of_numbers f kind pass group)
unfolding section_of_numbers kinds.section_answer
section_named f kind pass group =
    of_both (SectionEnds of_index) (leb kind 4) (section_of_kind f (kind_named kind pass group)) (kinds.section_answer (judge (grid_of f) false) 0)
    (sections.section_of_kind_lem f (kind_named kind pass group))
    (record { refuses = grid.judged f false; either = λ some. beside (judge (grid_of f) false) 0 0 some })

pub section_by_lem : (words : List ℕ) (x y pass : ℕ) → SectionEnds of_layout_room (section_by words x y pass)
unfolding section_by
section_by_lem words x y pass =
    let short : SectionAnswer = record { section = record { 0 = 0 }; refusal = refusal 3 0 } in
    let own : SectionEnds of_layout (section_in (layout_by words) x y pass) = sections.section_in_lem (layout_by words) x y pass in
    of_both (SectionEnds of_layout_room) (ltb (length words) 8) short (section_in (layout_by words) x y pass)
    (record { refuses = refuses_here of_layout_room 3 refl refl; either = λ some. refl })
    (record { refuses = refuses_more of_layout_room of_layout 0 0 _ refl refl (omega arith) own.refuses; either = own.either })

pub no_room_lem : (n : ℕ) (f : Frame) → Refuses of_toc_room 0 (no_room n f)
unfolding no_room
no_room_lem n f =
    let own : Refusal = pick (eqb (grid_of f).refusal.number 0) (refusal 3 0) (grid_of f).refusal in
    refuses_pick of_toc_room 0 (ltb 16777216 n) (refusal 2 0) own (refuses_here of_toc_room 2 refl refl)
    (refuses_pick of_toc_room 0 (eqb (grid_of f).refusal.number 0) (refusal 3 0) (grid_of f).refusal (refuses_here of_toc_room 3 refl refl)
    (refuses_more of_toc_room of_frame 0 0 (grid_of f).refusal refl refl (omega arith) (grid.grid_refuses f)))

pub no_record_lem : (n : ℕ) (f : Facts) → Refuses of_facts 0 (no_record n f)
unfolding no_record
no_record_lem n f =
    refuses_pick of_facts 0 (ltb 16777216 n) (refusal 2 0) (pick (bad_facts f) (refusal 1 0) (refusal 3 0)) (refuses_here of_facts 2 refl refl)
    (refuses_pick of_facts 0 (bad_facts f) (refusal 1 0) (refusal 3 0) (refuses_here of_facts 1 refl refl) (refuses_here of_facts 3 refl refl))

-- ---- geometry and look-ups, over the frame of the six numbers, and with any lent words

module _ (f : Frame) (before : List ℕ) (word : ℕ) (after : List ℕ) where
  pub hingevale_measure : Given (grid_answer (grid_of f)) before word after → WordEnds of_frame_room 0 word before after
  hingevale_measure g = given of_frame_room of_frame _ before word after refl refl refl (grid.measure f).refuses g

  pub hingevale_sample_width : (by : ℕ) → Given (number_answer (sampled f f.width by)) before word after → WordEnds of_frame_room 0 word before after
  hingevale_sample_width by g = given of_frame_room of_frame _ before word after refl refl refl (grid.sample_width_lem f by).refuses g

  pub hingevale_sample_height : (by : ℕ) → Given (number_answer (sampled f f.height by)) before word after
      → WordEnds of_frame_room 0 word before after
  hingevale_sample_height by g = given of_frame_room of_frame _ before word after refl refl refl (grid.sample_height_lem f by).refuses g

  pub hingevale_group_rect : (i : ℕ) → Given (placed_answer (rect_for (grid_of f) (grid_of f).side i)) before word after
      → WordEnds of_index_room 0 word before after
  hingevale_group_rect i g = given of_index_room of_index _ before word after refl refl refl (grid.group_rect_lem f i).refuses g

  pub hingevale_lf_group_rect : (i : ℕ) → Given (placed_answer (rect_for (grid_of f) (grid_of f).lf_side i)) before word after
      → WordEnds of_index_room 0 word before after
  hingevale_lf_group_rect i g = given of_index_room of_index _ before word after refl refl refl (grid.lf_group_rect f i).refuses g

  pub hingevale_group_idx_from_coord : (x y : ℕ) → Given (number_answer (index_for (grid_of f) x y)) before word after
      → WordEnds of_index_room 0 word before after
  hingevale_group_idx_from_coord x y g = given of_index_room of_index _ before word after refl refl refl (grid.group_idx_from_coord f x y).refuses g

  pub hingevale_lf_group_idx_from_group_idx : (i : ℕ) → Given (number_answer (lf_index_of (grid_of f) i)) before word after
      → WordEnds of_index_room 0 word before after
  hingevale_lf_group_idx_from_group_idx i g =
      given of_index_room of_index _ before word after refl refl refl (grid.lf_group_idx_from_group_idx f i).refuses g

  pub hingevale_is_group_collides_region : (i : ℕ) (region : Rect)
      → Given (touch_answer (touch_for (grid_of f) (grid_of f).side i region)) before word after
      → WordEnds of_index_room 0 word before after
  hingevale_is_group_collides_region i region g =
      given of_index_room of_index _ before word after refl refl refl (grid.is_group_collides_region f i region).refuses g

  pub hingevale_is_lf_group_collides_region : (i : ℕ) (region : Rect)
      → Given (touch_answer (touch_for (grid_of f) (grid_of f).lf_side i region)) before word after
      → WordEnds of_index_room 0 word before after
  hingevale_is_lf_group_collides_region i region g =
      given of_index_room of_index _ before word after refl refl refl (grid.is_lf_group_collides_region f i region).refuses g

  pub hingevale_section_of_kind : (kind pass group : ℕ) → Given (section_answer (section_of_numbers f kind pass group)) before word after
      → WordEnds of_index_room 0 word before after
  hingevale_section_of_kind kind pass group g =
      given of_index_room of_index _ before word after refl refl refl (section_named f kind pass group).refuses g

  pub hingevale_kind_of : (section : ℕ) → Given (kind_answer (kind_of f (section_number section))) before word after
      → WordEnds of_index_room 0 word before after
  hingevale_kind_of section g = given of_index_room of_index _ before word after refl refl refl (sections.kind_of_lem f (section_number section)).refuses g

  pub hingevale_section_of_sample : (x y pass : ℕ) → Given (section_answer (section_of_sample f x y pass)) before word after
      → WordEnds of_index_room 0 word before after
  hingevale_section_of_sample x y pass g =
      given of_index_room of_index _ before word after refl refl refl (sections.section_of_sample_lem f x y pass).refuses g

  pub hingevale_layout_of : Given (layout_answer (layout_of f)) before word after → WordEnds of_frame_room 0 word before after
  hingevale_layout_of g = given of_frame_room of_frame _ before word after refl refl refl (sections.layout_of_lem f).refuses g

  pub hingevale_section_at : (offsets sizes : List ℕ) (section : ℕ)
      → Given (place_answer (place_of f offsets sizes (section_number section))) before word after
      → WordEnds of_index_room 0 word before after
  hingevale_section_at offsets sizes section g =
      given of_index_room of_index_room _ before word after refl refl refl (sections.section_at f offsets sizes (section_number section)).refuses g

  pub hingevale_sent_of_section : (order : List ℕ) (section : ℕ)
      → Given (sent_answer (sent_of_section f order (section_number section))) before word after
      → WordEnds of_sent_room 0 word before after
  hingevale_sent_of_section order section g =
      given of_sent_room of_sent _ before word after refl refl refl (sections.sent_of_section_lem f order (section_number section)).refuses g

  pub hingevale_section_of_sent : (inverse : List ℕ) (sent : ℕ) → Given (section_answer (section_of_sent f inverse (sent_number sent))) before word after
      → WordEnds of_sent_room 0 word before after
  hingevale_section_of_sent inverse sent g =
      given of_sent_room of_sent _ before word after refl refl refl (sections.section_of_sent_lem f inverse (sent_number sent)).refuses g

pub hingevale_section_in : (words : List ℕ) (x y pass : ℕ) (before : List ℕ) (word : ℕ) (after : List ℕ)
    → Given (section_answer (section_by words x y pass)) before word after → WordEnds of_layout_room 0 word before after
hingevale_section_in words x y pass before word after g =
    given of_layout_room of_layout_room _ before word after refl refl refl (section_by_lem words x y pass).refuses g

-- ---- the section entries

-- no room for the three words is refused with a number
pub some_number : (n : ℕ) (f : Frame) → (no_room n f).number ≡ 0 → ⊥
unfolding no_room
some_number n f =
    of_both (λ (r : Refusal). r.number ≡ 0 → ⊥) (ltb 16777216 n) (refusal 2 0)
    (pick (eqb (grid_of f).refusal.number 0) (refusal 3 0) (grid_of f).refusal) (λ z. omega arith)
    (picked (λ (r : Refusal). r.number ≡ 0 → ⊥) (eqb (grid_of f).refusal.number 0) (refusal 3 0) (grid_of f).refusal (λ e z. omega arith)
    (λ e. eqb-false (grid_of f).refusal.number 0 e))

module _ (l : List ℕ) (ok : rules l ≡ true) (needs : Bool) (last : ℕ) (big : last < 2 ^ 56) where
  -- `give_toc`: what is told of an answer, the word holds
  pub answer_word : (a : TocAnswer) (before after : Tables) (out : List ℕ) → Tells l needs last before after a
      → TocWordEnds l needs last (toc_status a) (lent before out) (lent after (toc_after a out))
  answer_word (Table toc) before after out h = inl (record { refuses = refuses_none l last ok; either = λ some. absurd (some refl) })
  answer_word (OrderNeeded place) before after out h =
      let near : place % 2 ^ 56 ≡ place = mod-eq_of_lt (omega (arith, h.1)) in
      let parts = apart place 255 (omega arith) in
      let same : after ≡ before = h.2 in
      inr (record { asked = h.0; number = rw (near, parts.0); inside = rw (near, parts.1) h.1; kept = rw same })
  answer_word (Refused r) before after out h =
      let same : after ≡ before = h.2 in
      inl (worded l last r (status_of r) (lent before out) (lent after out) big refl (record { refuses = h.1; either = λ some. rw same }))

  listed : (q : Reading) (t : Tables) (word : ℕ) (o z p i out out' : List ℕ) → Tells l needs last t (after q t) q.answer
      → Listed q t word o z p i out out'
      → TocWordEnds l needs last word (lent t out) (lent (tables o z p i) out')
  listed q t word o z p i out out' h d =
      let same : tables o z p i ≡ after q t = rw (d.offsets, d.sizes, d.order, d.inverse) in
      rw (d.status, same, d.words) (answer_word q.answer t (after q t) out h)

  pub roomed_tells : (s : List ℕ) (f : Frame) (out : List ℕ) (q : Reading) (t : Tables) → holds l of_toc_room ≡ true
      → Tells l needs last t (after q t) q.answer
      → Tells l needs last t (after (roomed_reading s f out q) t) (roomed_reading s f out q).answer
  unfolding roomed_reading refused_read written
  roomed_tells s f out q t h d =
      of_both (λ (r : Reading). Tells l needs last t (after r t) r.answer) (ltb (length out) 3) (refused_read (no_room (length s) f)) q
      (some_number (length s) f, refuses_more l of_toc_room 0 last _ ok h (omega arith) (no_room_lem (length s) f), refl) d

pub hingevale_read_toc : (s : List ℕ) (f : Frame) (place : ℕ) (t : Tables) (word : ℕ) (o z p i out out' : List ℕ)
    → Listed (roomed_reading s f out (first_reading s f place t)) t word o z p i out out'
    → TocWordEnds of_toc true (bit_count s) word (lent t out) (lent (tables o z p i) out')
hingevale_read_toc s f place t word o z p i out out' d =
    let big : bit_count s < 2 ^ 56 = omega arith in
    listed of_toc refl true (bit_count s) big (roomed_reading s f out (first_reading s f place t)) t word o z p i out out'
    (roomed_tells of_toc refl true (bit_count s) big s f out (first_reading s f place t) t refl (first_tells s f place t)) d

pub hingevale_read_toc_with_order : (s : List ℕ) (f : Frame) (place : ℕ) (order : List ℕ) (t : Tables) (word : ℕ) (o z p i out out' : List ℕ)
    → Listed (roomed_reading s f out (second_reading s f place order t)) t word o z p i out out'
    → TocWordEnds of_toc_order false (bit_count s) word (lent t out) (lent (tables o z p i) out')
hingevale_read_toc_with_order s f place order t word o z p i out out' d =
    let big : bit_count s < 2 ^ 56 = omega arith in
    listed of_toc_order refl false (bit_count s) big (roomed_reading s f out (second_reading s f place order t)) t word o z p i out out'
    (roomed_tells of_toc_order refl false (bit_count s) big s f out (second_reading s f place order t) t refl (second_tells s f place order t)) d

-- ---- the header entry

-- whatever record is handed out
pub give_record : (l : List ℕ) (last : ℕ) (a : HeaderTold) (word : ℕ) (w w' : List ℕ) (i i' : List ℤ) (r r' : List Float) → last < 2 ^ 56
    → Refuses l last a.refusal
    → HandedOut a word w w' i i' r r' → WordEnds {A = List ℕ × List ℤ × List Float} l last word (w, i, r) (w', i', r')
give_record l last a word w w' i i' r r' big d h =
    worded {A = List ℕ × List ℤ × List Float} l last a.refusal word (w, i, r) (w', i', r') big h.status
    (record {
      refuses = d;
      either =
          λ some.
          let x : w' ≡ w = h.numbers ∙ beside a.refusal (words_after a w) w some in
          let y : i' ≡ i = h.signs ∙ beside a.refusal (signed_after a.header i) i some in
          let z : r' ≡ r = h.reals ∙ beside a.refusal (floats_after a.header.restoration_filter r) r some in
          rw (x, y, z);
    })

-- and whatever answer the function is given: a header, or a refusal
pub record_handed : (l : List ℕ) (last : ℕ) (a : Result HeaderRead Refusal) (word : ℕ) (w w' : List ℕ) (i i' : List ℤ) (r r' : List Float)
    → last < 2 ^ 56 → Refuses l last (refusal_in a)
    → HandedBy (told a) word w w' i i' r r' → WordEnds {A = List ℕ × List ℤ × List Float} l last word (w, i, r) (w', i', r')
unfolding refused_header
record_handed l last (Ok a) word w w' i i' r r' big d h =
    worded {A = List ℕ × List ℤ × List Float} l last none word (w, i, r) (w', i', r') big h.status
    (record { refuses = d; either = λ some. absurd (some refl) })
record_handed l last (Err e) word w w' i i' r r' big d h =
    worded {A = List ℕ × List ℤ × List Float} l last e word (w, i, r) (w', i', r') big h.status
    (record {
      refuses = d;
      either =
          λ some.
          let x : w' ≡ w = h.numbers in
          let y : i' ≡ i = h.signs in
          let z : r' ≡ r = h.reals in
          rw (x, y, z);
    })

pub judged_all_lem : (s : List ℕ) (f : Facts) (b : Buffers) → Refuses of_facts 0 (judged_all s f b)
unfolding judged_all
judged_all_lem s f b =
    refuses_pick of_facts 0 (record_room (length b.numbers) (length b.signs) (length b.reals))
    (judged (length s) f (length b.name) (length b.upsampling) (length b.blending)) (no_record (length s) f)
    (judge_header (length s) f (length b.name) (length b.upsampling) (length b.blending)) (no_record_lem (length s) f)

together : {a b : Buffers}
    → (a.name ≡ b.name) × (a.upsampling ≡ b.upsampling) × (a.blending ≡ b.blending)
    × (a.numbers ≡ b.numbers) × (a.signs ≡ b.signs) × (a.reals ≡ b.reals)
    → a ≡ b
together {a} {b} (n, u, c, w, i, r) =
    let same : buffers a.name a.upsampling a.blending a.numbers a.signs a.reals
    ≡ buffers b.name b.upsampling b.blending b.numbers b.signs b.reals = rw (n, u, c, w, i, r) in
    same

pub hingevale_read_frame_header : (f : Facts) (s : List ℕ) (word : ℕ) (before after : Buffers) → HeadRead f s word before after
    → WordEnds of_header (bit_count s) word before after
hingevale_read_frame_header f s word before after h =
    let own = judged_all_lem s f before in
    let a : HeaderTold = answered f (judged_all s f before) (stands f s) in
    worded of_header (bit_count s) a.refusal word before after (omega arith) h.recorded.status
    (record {
      refuses = answered_refuses f s (judged_all s f before) own;
      either =
          λ some.
          let n : after.name ≡ before.name = h.named ∙ buffer_kept f s (judged_all s f before) own some (stands f s).value.name before.name in
          let u : after.upsampling ≡ before.upsampling =
          h.upsampled ∙ buffer_kept f s (judged_all s f before) own some (stands f s).value.upsampling before.upsampling in
          let b : after.blending ≡ before.blending =
          h.blended ∙ buffer_kept f s (judged_all s f before) own some (words (stands f s).value.blending) before.blending in
          let w : after.numbers ≡ before.numbers =
          h.recorded.numbers ∙ beside a.refusal (words_after a before.numbers) before.numbers some in
          let i : after.signs ≡ before.signs =
          h.recorded.signs ∙ beside a.refusal (signed_after a.header before.signs) before.signs some in
          let r : after.reals ≡ before.reals =
          h.recorded.reals ∙ beside a.refusal (floats_after a.header.restoration_filter before.reals) before.reals some in
          together (n, u, b, w, i, r);
    })

-- ---- the listing: no word for its length, or no room for the text

pub hingevale_list : (input before after out out' : List ℕ) (word : ℕ)
    → Told (untold (ltb (length out) 1) (job_text input) before) (job_text input) before after out out' word
    → WordEnds {A = ListLent} of_text 0 word (record { bytes = before; words = out }) (record { bytes = after; words = out' })
unfolding untold
hingevale_list input before after out out' word d =
    let text : List ℕ = job_text input in
    let short : Bool = ltb (length out) 1 in
    let r : Refusal = pick short (refusal 3 0) (fitted text before) in
    worded {A = ListLent} of_text 0 r word _ _ (omega arith) d.status
    (record {
      refuses = refuses_pick of_text 0 short (refusal 3 0) (fitted text before) (refuses_here of_text 3 refl refl) (fits text before);
      either =
          λ some.
          let x : after ≡ before = d.bytes ∙ beside r (sets before 0 text) before some in
          let y : out' ≡ out = d.words ∙ beside r (set out 0 (length text)) out some in
          rw (x, y);
    })
