-- The entries of C: where their status is 0, what the words say that they left. With these the demand holds of the look-ups' words.
use Prim.Native.Nat.{ℕ, ◌-◌, ◌≤◌, ◌<◌, ◌^◌}
use native.Mathlib.Omega.{arith}
use mathlib.Core.Path.{◌≡◌, refl, sym, ◌∙◌, ap}
use mathlib.Core.Logic.{inl}
use mathlib.Core.List.{List, [], ◌∷◌}
use mathlib.Core.Bool.{Bool, true, false, ◌&&◌, ◌||◌}
use lib.Dec.{eqb, leb, ltb}
use lib.ListN.{length, get_or, set, length-set}
use lib.Seq.{sets, length-sets, get_or-set_same, get_or-set_other}
use borrow.Author.Tests.{eqb-true, eqb-false, leb-true, ltb-false}
use Rattle.fill.proofs.Filling.{sets_inside, sets_outside}
use Rattle.bits.specs.declared.Refusal.{Refusal}
use Rattle.bits.specs.Refusals.{pick}
use Rattle.grid.specs.declared.Frame.{Frame}
use Rattle.grid.specs.Measured.{upsamples, good_record}
use Rattle.grid.proofs.Accepted.{Good, good, and_parts}
use Rattle.header.specs.declared.Facts.{Facts}
use Rattle.header.specs.Entry.{bad_facts, judged, stands, answered, HeaderTold}
use Rattle.header.specs.Record.{frame_of}
use Rattle.order.specs.Tables.{identity}
use Rattle.order.proofs.Entries.{split}
use Rattle.toc.specs.declared.Toc.{Toc}
use Rattle.toc.specs.Reading.{TocAnswer, Table, OrderNeeded, Refused, Tables, tables, Reading, refused_read, first_reading, second_reading, Done, toc_numbers, after}
use Rattle.toc.proofs.Accepted.{first_accepted, not_refused}
use Rattle.c_words.specs.Contents.{toc_status, toc_after, no_room, roomed_reading, Listed}
use Rattle.c_words.specs.Heading.{front_words, back_words, front_after, arrays_after, words_after, record_room, no_record, Buffers, judged_all, HeadRead}
use Rattle.c_words.proofs.Recording.{not_none}
use Rattle.theorems.proofs.Tables.{second_accepted}
use Rattle.bits.specs.Bits.{bit_count}
use Rattle.theorems.specs.Refusing.{Tells, held, of_toc, of_toc_order}
use Rattle.theorems.proofs.TocEnds.{first_tells, second_tells}
use Rattle.theorems.proofs.WordEnds.{status_held, some_number, roomed_tells}
use Rattle.theorems.proofs.Status.{head_told, words_written}
use Rattle.demand.specs.Frames.{HandedOn}
use Rattle.demand.specs.Lent.{frame_by, FrameBy, LentWhole, LentBytes}
use Rattle.demand.proofs.Theorem.{first_whole, second_whole, first_table, second_table}
use Rattle.demand.proofs.Headers.{handed_on, unrefused, judged_facts}
use Rattle.demand.proofs.Lent.{lent_whole}

-- ---- a section entry's status of 0 is a table

table_by : {A : Type 0} (l : List ℕ) (needs : Bool) (last : ℕ) (before after : A) (a : TocAnswer) → last < 2 ^ 56 → Tells l needs last before after a
    → toc_status a ≡ 0 → (toc : Toc) × (a ≡ Table toc)
table_by l needs last before after (Table toc) big h e = (toc, refl)
table_by l needs last before after (OrderNeeded place) big h e = absurd (omega arith)
table_by l needs last before after (Refused r) big h e =
    absurd (h.0 (ap (λ (x : Refusal). x.number) (sym (status_held l last r big h.1) ∙ ap held e)))

-- with what the slice of three words asks
module _ (s : List ℕ) (f : Frame) (t : Tables) (q : Reading) (out l : List ℕ) (needs : Bool)
    (tells : Tells l needs (bit_count s) t (after (roomed_reading s f out q) t) (roomed_reading s f out q).answer) where
  module _ (status : ℕ) (o z p i out' : List ℕ) (d : Listed (roomed_reading s f out q) t status o z p i out out') (zero : status ≡ 0) where
    tabled : (toc : Toc) × ((roomed_reading s f out q).answer ≡ Table toc)
    tabled = table_by l needs (bit_count s) t _ (roomed_reading s f out q).answer (omega arith) tells (sym d.status ∙ zero)

    pub toc : Toc
    toc = tabled.0

    roomed : (3 ≤ length out) × (roomed_reading s f out q ≡ q)
    unfolding roomed_reading refused_read
    roomed =
        split (ltb (length out) 3)
        (λ e. absurd (not_refused (no_room (length s) f) tabled.0 (roomed_reading s f out q).answer (some_number (length s) f) (rw e) tabled.1))
        (λ e. (ltb-false (length out) 3 e, rw e))

    -- the entry's promise, as the function without words has it
    pub done : Done q t (Table toc) o z p i
    unfolding toc
    done =
        let e = roomed.1 in
        record {
          answer = ap toc_numbers (sym tabled.1 ∙ ap (λ (r : Reading). r.answer) e);
          offsets = rw e at d.offsets;
          sizes = rw e at d.sizes;
          order = rw e at d.order;
          inverse = rw e at d.inverse;
        }

    out_is : out' ≡ sets out 0 (toc.count ∷ toc.bookmark ∷ toc.total_byte_size ∷ [])
    unfolding toc
    out_is = d.words ∙ ap (λ (a : TocAnswer). toc_after a out) tabled.1

    -- the three words
    word_is : (k : ℕ) → k < 3 → get_or out' k 0 ≡ get_or (toc.count ∷ toc.bookmark ∷ toc.total_byte_size ∷ []) (k - 0) 0
    word_is k h =
        ap (λ (l : List ℕ). get_or l k 0) out_is
        ∙ sets_inside 0 (toc.count ∷ toc.bookmark ∷ toc.total_byte_size ∷ []) out 0 k (omega arith) (omega arith) (omega (arith, roomed.0))

    pub count_word : get_or out' 0 0 ≡ toc.count
    count_word = word_is 0 (omega arith)

    pub start_word : get_or out' 1 0 ≡ toc.bookmark
    start_word = word_is 1 (omega arith)

    pub total_word : get_or out' 2 0 ≡ toc.total_byte_size
    total_word = word_is 2 (omega arith)

-- ---- the header's words

module _ (a : HeaderTold) (out : List ℕ) (room : 51 ≤ length out) where
  abbrev front : List ℕ
  front = front_after a out

  abbrev middle : List ℕ
  middle = arrays_after a.header.jpeg_upsampling a.header.passes front

  front_length : length front ≡ length out
  unfolding front_after
  front_length = simp (length-sets, length-set)

  middle_length : length middle ≡ length out
  unfolding arrays_after
  middle_length = simp length-sets front_length

  -- words 33 to 50
  back_word : (k : ℕ) → 33 ≤ k → k < 51 → get_or (words_after a out) k 0 ≡ get_or (back_words a.header) (k - 33) 0
  unfolding words_after back_words
  back_word k low high = sets_inside 0 (back_words a.header) middle 33 k low (omega arith) (omega (arith, middle_length))

  -- words before 12
  early_word : (k : ℕ) → k < 12 → get_or (words_after a out) k 0 ≡ get_or front k 0
  unfolding words_after arrays_after
  early_word k h =
      let p = a.header.passes in
      let l0 : List ℕ = sets front 12 a.header.jpeg_upsampling in
      let l1 : List ℕ = sets l0 15 p.shift in
      let l2 : List ℕ = sets l1 25 p.downsample in
      sets_outside 0 (back_words a.header) middle 33 k (inl (omega arith))
      ∙ sets_outside 0 p.last_pass l2 29 k (inl (omega arith))
      ∙ sets_outside 0 p.downsample l1 25 k (inl (omega arith))
      ∙ sets_outside 0 p.shift l0 15 k (inl (omega arith))
      ∙ sets_outside 0 a.header.jpeg_upsampling front 12 k (inl (omega arith))

  -- words 2 to 11
  front_word : (k : ℕ) → 2 ≤ k → k < 12 → get_or (words_after a out) k 0 ≡ get_or (front_words a.header) (k - 2) 0
  unfolding front_after front_words
  front_word k low high =
      early_word k high
      ∙ sets_inside 0 (front_words a.header) (set (set out 0 a.end) 1 a.header.flags) 2 k low (omega arith)
      (omega (arith, length-set (set out 0 a.end) 1 a.header.flags, length-set out 0 a.end))

  -- word 0
  end_word : get_or (words_after a out) 0 0 ≡ a.end
  unfolding front_after
  end_word =
      early_word 0 (omega arith)
      ∙ sets_outside 0 (front_words a.header) (set (set out 0 a.end) 1 a.header.flags) 2 0 (inl (omega arith))
      ∙ get_or-set_other (set out 0 a.end) 1 0 a.header.flags 0 (λ e. omega arith)
      ∙ get_or-set_same out 0 a.end 0 (omega arith)

  frame_words : frame_by (words_after a out) ≡ frame_of a.header
  unfolding front_words back_words
  frame_words =
      rw (
        back_word 35 (omega arith) (omega arith),
        back_word 36 (omega arith) (omega arith),
        front_word 6 (omega arith) (omega arith),
        back_word 33 (omega arith) (omega arith),
        front_word 7 (omega arith) (omega arith),
        front_word 10 (omega arith) (omega arith),
      )

-- nothing is refused before the header is read: the facts are within the bounds, and there is room for its words
all_by : (b : Bool) (before late : Refusal) → eqb late.number 0 ≡ false → (pick b before late).number ≡ 0 → (b ≡ true) × (before.number ≡ 0)
all_by true before late e h = (refl, h)
all_by false before late e h = absurd (eqb-false late.number 0 e h)

module _ (facts : Facts) (s : List ℕ) (b : Buffers) (ok : (judged_all s facts b).number ≡ 0) where
  roomy : (record_room (length b.numbers) (length b.signs) (length b.reals) ≡ true)
      × ((judged (length s) facts (length b.name) (length b.upsampling) (length b.blending)).number ≡ 0)
  unfolding judged_all
  roomy =
      all_by (record_room (length b.numbers) (length b.signs) (length b.reals))
      (judged (length s) facts (length b.name) (length b.upsampling) (length b.blending)) (no_record (length s) facts)
      (not_none (length s) facts) ok

  words_room : 51 ≤ length b.numbers
  words_room =
      leb-true 51 (length b.numbers)
      (and_parts (leb 51 (length b.numbers)) (leb 2 (length b.signs) && leb 22 (length b.reals)) roomy.0).0

  facts_good : bad_facts facts ≡ false
  facts_good = judged_facts (length s) facts (length b.name) (length b.upsampling) (length b.blending) roomy.1

-- a good record's numbers, the upsampling too, are small
one_of : (a b c d : Bool) (P : Type 0) → (a ≡ true → P) → (b ≡ true → P) → (c ≡ true → P) → (d ≡ true → P) → ((a || b) || (c || d)) ≡ true → P
one_of true b c d P x y z w e = x refl
one_of false true c d P x y z w e = y refl
one_of false false true d P x y z w e = z refl
one_of false false false d P x y z w e = w e

upsampling_small : (f : Frame) → good_record f ≡ true → f.upsampling ≤ 8
unfolding good_record
upsampling_small f e =
    let u : ℕ = f.upsampling in
    let passes : Bool = leb 1 f.num_passes && leb f.num_passes 11 in
    let rest : Bool = (leb f.lf_level 4 && leb f.group_size_shift 3) && (leb f.width 1073760511 && leb f.height 1073760511) in
    one_of (eqb u 1) (eqb u 2) (eqb u 4) (eqb u 8) (u ≤ 8)
    (λ t. omega (arith, eqb-true u 1 t)) (λ t. omega (arith, eqb-true u 2 t)) (λ t. omega (arith, eqb-true u 4 t))
    (λ t. omega (arith, eqb-true u 8 t))
    (and_parts (upsamples u) passes (and_parts (upsamples u && passes) rest e).0).0

-- `hingevale_read_frame_header` was asked with the facts and the bytes s, and lent six slices; its status is 0
module _ (facts : Facts) (s : List ℕ) (word : ℕ) (before after : Buffers) (header : HeadRead facts s word before after) (accepted : word ≡ 0) where
  -- what it read
  abbrev pub said : HeaderTold
  said = answered facts (judged_all s facts before) (stands facts s)

  said_none : said.refusal.number ≡ 0
  said_none = ap (λ (r : Refusal). r.number) (sym (head_told facts s word before after header) ∙ ap held accepted)

  judged_none : (judged_all s facts before).number ≡ 0
  judged_none = (unrefused facts s (judged_all s facts before) (facts_good facts s before) said_none).0

  handed : HandedOn facts s said
  handed = handed_on facts s (judged_all s facts before) (facts_good facts s before) said_none

  -- its words hand on the header's frame and its end
  pub frame_left : FrameBy facts s said after.numbers
  frame_left =
      let w = words_written facts s word before after header accepted in
      let room = words_room facts s before judged_none in
      let frame : frame_by (words_after said before.numbers) ≡ frame_of said.header = frame_words said before.numbers room in
      let g : Good (frame_of said.header) = good (frame_of said.header) handed.good in
      rw w
      (record {
        handed_on = handed;
        frame = frame;
        place = end_word said before.numbers room;
        small = (
          omega (arith, ap (λ (f : Frame). f.width) frame, g.width),
          omega (arith, ap (λ (f : Frame). f.height) frame, g.height),
          omega (arith, ap (λ (f : Frame). f.upsampling) frame, upsampling_small (frame_of said.header) handed.good),
          omega (arith, ap (λ (f : Frame). f.lf_level) frame, g.level),
          omega (arith, ap (λ (f : Frame). f.group_size_shift) frame, g.shift),
          omega (arith, ap (λ (f : Frame). f.num_passes) frame, g.passes),
        );
      })

-- ---- the theorem over lent memory: whatever the bytes, the six numbers of a frame, the place and the lent slices, if a section entry's status is 0

-- words for the numbers of a table
reworded : (f : Frame) (toc : Toc) (n b l : ℕ) (due sent : List ℕ) (t : Tables) → n ≡ toc.count → b ≡ toc.bookmark → l ≡ toc.total_byte_size
    → LentWhole f toc.count toc.bookmark toc.total_byte_size due sent t → LentWhole f n b l due sent t
reworded f toc n b l due sent t en eb el x = rw (en, eb, el) x

-- `hingevale_read_toc`, by its promise
pub first_lent : (s : List ℕ) (f : Frame) (place : ℕ) (t : Tables) (status : ℕ) (o z p i out out' : List ℕ)
    → Listed (roomed_reading s f out (first_reading s f place t)) t status o z p i out out' → status ≡ 0
    → LentWhole f (get_or out' 0 0) (get_or out' 1 0) (get_or out' 2 0) (identity (get_or out' 0 0)) (first_reading s f place t).sizes (tables o z p i)
first_lent s f place t status o z p i out out' l zero =
    let q : Reading = first_reading s f place t in
    let tells = roomed_tells of_toc refl true (bit_count s) (omega arith) s f out q t refl (first_tells s f place t) in
    let d = done s f t q out of_toc true tells status o z p i out' l zero in
    let x : Toc = toc s f t q out of_toc true tells status o z p i out' l zero in
    let n : get_or out' 0 0 ≡ x.count = count_word s f t q out of_toc true tells status o z p i out' l zero in
    let a = (first_accepted s f place t x (first_table s f place t x o z p i d)).0 in
    let whole = first_whole s f place t x o z p i d in
    reworded f x _ _ _ _ q.sizes (tables o z p i) n (start_word s f t q out of_toc true tells status o z p i out' l zero)
    (total_word s f t q out of_toc true tells status o z p i out' l zero)
    (lent_whole f x (identity (get_or out' 0 0)) q.sizes (tables o z p i) a.frame a.count (rw n whole))

-- `hingevale_read_toc_with_order`, by its promise
pub second_lent : (s : List ℕ) (f : Frame) (place : ℕ) (order : List ℕ) (t : Tables) (status : ℕ) (o z p i out out' : List ℕ)
    → Listed (roomed_reading s f out (second_reading s f place order t)) t status o z p i out out' → status ≡ 0
    → LentWhole f (get_or out' 0 0) (get_or out' 1 0) (get_or out' 2 0) order (second_reading s f place order t).sizes (tables o z p i)
second_lent s f place order t status o z p i out out' l zero =
    let q : Reading = second_reading s f place order t in
    let tells = roomed_tells of_toc_order refl false (bit_count s) (omega arith) s f out q t refl (second_tells s f place order t) in
    let d = done s f t q out of_toc_order false tells status o z p i out' l zero in
    let x : Toc = toc s f t q out of_toc_order false tells status o z p i out' l zero in
    let a = (second_accepted s f place order t x (second_table s f place order t x o z p i d)).0 in
    let whole = second_whole s f place order t x o z p i d in
    reworded f x _ _ _ _ q.sizes (tables o z p i) (count_word s f t q out of_toc_order false tells status o z p i out' l zero)
    (start_word s f t q out of_toc_order false tells status o z p i out' l zero)
    (total_word s f t q out of_toc_order false tells status o z p i out' l zero)
    (lent_whole f x order q.sizes (tables o z p i) a.frame a.count whole)

-- and from the header's bytes on: `hingevale_read_frame_header` left `after`, its status is 0, and the section entry was asked with six numbers of
-- its words
module _ (facts : Facts) (s : List ℕ) (word : ℕ) (before after : Buffers) (header : HeadRead facts s word before after) (accepted : word ≡ 0)
    (t : Tables) (status : ℕ) (o z p i out out' : List ℕ)
  where
    abbrev left : List ℕ
    left = after.numbers

    abbrev answer : HeaderTold
    answer = said facts s word before after header accepted

    -- at the place of word 0
    pub first_lent_frame : Listed (roomed_reading s (frame_by left) out (first_reading s (frame_by left) (get_or left 0 0) t)) t status o z p i out out'
        → status ≡ 0
        → LentBytes facts s answer left (get_or out' 0 0) (get_or out' 1 0) (get_or out' 2 0) (identity (get_or out' 0 0))
        (first_reading s (frame_by left) (get_or left 0 0) t).sizes (tables o z p i)
    first_lent_frame l zero = record {
      frame = frame_left facts s word before after header accepted;
      whole = first_lent s (frame_by left) (get_or left 0 0) t status o z p i out out' l zero;
    }

    -- at a place, as that behind the order
    pub second_lent_frame : (place : ℕ) (order : List ℕ)
        → Listed (roomed_reading s (frame_by left) out (second_reading s (frame_by left) place order t)) t status o z p i out out' → status ≡ 0
        → LentBytes facts s answer left (get_or out' 0 0) (get_or out' 1 0) (get_or out' 2 0) order (second_reading s (frame_by left) place order t).sizes
        (tables o z p i)
    second_lent_frame place order l zero = record {
      frame = frame_left facts s word before after header accepted;
      whole = second_lent s (frame_by left) place order t status o z p i out out' l zero;
    }
