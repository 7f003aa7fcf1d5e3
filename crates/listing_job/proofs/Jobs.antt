-- Laws of the whole job: each way out writes the text that the definition names.
use Prim.Native.Nat.{ℕ, ◌-◌, ◌≤◌, min}
use native.Mathlib.Omega.{arith}
use native.Mathlib.Decide.{dec_le}
use mathlib.Core.Path.{◌≡◌, sym, ◌∙◌, ap}
use mathlib.Core.Logic.{by_cases}
use mathlib.Core.Bool.{true, false}
use mathlib.Core.List.{List}
use lib.ListN.{length, take, drop, length-take, length-drop}
use lib.Seq.{take_all, take_at}
use borrow.Author.Tests.{eq-eqb, le-leb, not-true, not-false}
use Rattle.std.specs.Prelude.{Result, Ok, Err}
use Rattle.bits.specs.declared.Refusal.{Refusal}
use Rattle.bits.specs.Refusals.{refusal}
use Rattle.grid.specs.declared.Frame.{Frame}
use Rattle.grid.specs.Measured.{grid_of}
use Rattle.order.specs.Order.{is_order}
use Rattle.order.specs.Tables.{filled}
use Rattle.order.proofs.Tables.{filled_length}
use Rattle.order.proofs.Reach.{order_length}
use Rattle.order.proofs.Checked.{checked_good}
use Rattle.header.specs.declared.Facts.{Facts}
use Rattle.header.specs.declared.entry.HeaderRead.{HeaderRead}
use Rattle.header.specs.Record.{numbers_of, frame_of}
use Rattle.header.specs.Entry.{told, refused_header}
use Rattle.std.specs.Prelude.{Ok, Err, eqb}
use Rattle.toc.specs.declared.Toc.{Toc}
use Rattle.toc.specs.Reading.{TocAnswer, Table, OrderNeeded, Refused, Tables, first_reading, after, tables_of, Done}
use Rattle.toc.proofs.Accepted.{Accepted, first_accepted, same_answer, first_telling}
use Rattle.listing.specs.Put.{Texted, fitted}
use Rattle.listing.specs.Text.{refused_text, order_text}
use Rattle.listing.specs.Listed.{listing, listing_refusal}
use Rattle.listing_job.specs.declared.facts.FactsLine.{FactsLine}
use Rattle.listing_job.specs.Line.{good_line, frame_bytes}
use Rattle.listing_job.specs.Private.{Lined}
use Rattle.listing_job.specs.Job.{words, blank, read_text, reading_text, sections_text, headed, header_text, job_text}

-- the same text by another name
retext : (r q : Refusal) (text more out : List ℕ) (a : Result ℕ Refusal) (out' : List ℕ) → r ≡ q → text ≡ more → Texted r text out a out' → Texted q more out a out'
retext r q text more out a out' e f p = rw (← e, ← f) p

-- a line that stands for a longer name
module _ {out' : List ℕ} (text more out : List ℕ) (a : Result ℕ Refusal) where
  line_is : text ≡ more → Texted (fitted text out) text out a out' → Texted (fitted more out) more out a out'
  line_is e p = retext (fitted text out) (fitted more out) text more out a out' (ap (λ (t : List ℕ). fitted t out) e) e p

-- ---- the sections

-- an accepted table's listing is refused for want of room alone
listing_fitted : (f : Frame) (offsets sizes order out : List ℕ) → (grid_of f).refusal.number ≡ 0 → (grid_of f).sections ≤ length offsets → (grid_of f).sections ≤ length sizes
    → (grid_of f).sections ≤ 65536 → is_order (grid_of f).sections order ≡ true → listing_refusal f offsets sizes order out ≡ fitted (listing f offsets sizes order) out
unfolding listing_refusal
listing_fitted f offsets sizes order out z o s few i =
    rw (eq-eqb (grid_of f).refusal.number 0 z, le-leb (grid_of f).sections (length offsets) o, le-leb (grid_of f).sections (length sizes) s, ← checked_good (grid_of f).sections order few i)

take_filled : (new table : List ℕ) (n : ℕ) → length new ≡ n → n ≤ length table → take n (filled new table) ≡ new
unfolding filled
take_filled new table n e h = rw (take_all (length table) new (omega arith)) (take_at new (drop (length new) table) n e)

module _ (s : List ℕ) (f : Frame) (place : ℕ) (t : TocAnswer) (o z p i : List ℕ) (d : Done (first_reading s f place blank) blank t o z p i) where
  answer_is : (a : TocAnswer) → t ≡ a → (first_reading s f place blank).answer ≡ a
  answer_is a e = sym (same_answer t _ (first_telling s f place blank) d.answer) ∙ e

  text_is : (a : TocAnswer) → t ≡ a → sections_text s f place ≡ read_text f (after (first_reading s f place blank) blank) (first_reading s f place blank).order a
  unfolding reading_text
  text_is a e = ap (λ (x : TocAnswer). read_text f (after (first_reading s f place blank) blank) (first_reading s f place blank).order x) (answer_is a e)

  module _ {out' : List ℕ} (out : List ℕ) (a : Result ℕ Refusal) where
    pub sections_refused : (r : Refusal) → t ≡ Refused r → Texted (fitted (refused_text r) out) (refused_text r) out a out'
        → Texted (fitted (sections_text s f place) out) (sections_text s f place) out a out'
    unfolding read_text
    sections_refused r e w = line_is (refused_text r) (sections_text s f place) out a (sym (text_is (Refused r) e)) w

    pub sections_needed : (k : ℕ) → t ≡ OrderNeeded k → Texted (fitted (order_text k) out) (order_text k) out a out'
        → Texted (fitted (sections_text s f place) out) (sections_text s f place) out a out'
    unfolding read_text
    sections_needed k e w = line_is (order_text k) (sections_text s f place) out a (sym (text_is (OrderNeeded k) e)) w

  module _ (x : Toc) (e : t ≡ Table x) where
    accepted : Accepted s f blank x (first_reading s f place blank)
    accepted = (first_accepted s f place blank x (answer_is (Table x) e)).0

    offsets_long : length o ≡ 1024
    unfolding tables_of
    offsets_long = ap length d.offsets ∙ ap (λ (y : Tables). length y.offsets) accepted.filled ∙ filled_length _ words

    sizes_long : length z ≡ 1024
    unfolding tables_of
    sizes_long = ap length d.sizes ∙ ap (λ (y : Tables). length y.sizes) accepted.filled ∙ filled_length _ words

    order_is : p ≡ filled (first_reading s f place blank).order words
    unfolding tables_of
    order_is = d.order ∙ ap (λ (y : Tables). y.order) accepted.filled

    few : x.count ≤ 1024
    few = accepted.room.order

    taken : take (min x.count (length p)) p ≡ (first_reading s f place blank).order
    taken =
        let long : length p ≡ 1024 = ap length order_is ∙ filled_length (first_reading s f place blank).order words in
        let n : min x.count (length p) ≡ x.count = omega (arith, few) in
        ap (λ (k : ℕ). take k p) n
        ∙ ap (λ (l : List ℕ). take x.count l) order_is
        ∙ take_filled (first_reading s f place blank).order words x.count (order_length x.count (first_reading s f place blank).order accepted.order) few

    text : listing f o z (take (min x.count (length p)) p) ≡ sections_text s f place
    unfolding read_text
    text = rw (taken, d.offsets, d.sizes) (sym (text_is (Table x) e))

    pub sections_table : {out' : List ℕ} (out : List ℕ) (a : Result ℕ Refusal) → Texted (listing_refusal f o z (take (min x.count (length p)) p) out) (listing f o z (take (min x.count (length p)) p)) out a out'
        → Texted (fitted (sections_text s f place) out) (sections_text s f place) out a out'
    sections_table {out'} out a w =
        let count : x.count ≡ (grid_of f).sections = accepted.count in
        let order : is_order (grid_of f).sections (take (min x.count (length p)) p) ≡ true = rw taken (rw count at accepted.order) in
        let only = listing_fitted f o z (take (min x.count (length p)) p) out accepted.frame (omega (arith, offsets_long, few)) (omega (arith, sizes_long, few)) (omega (arith, few)) order in
        retext (listing_refusal f o z (take (min x.count (length p)) p) out) (fitted (sections_text s f place) out) (listing f o z (take (min x.count (length p)) p))
        (sections_text s f place) out a out' (only ∙ ap (λ (l : List ℕ). fitted l out) text) text w

-- ---- the header

module _ {out' : List ℕ} (s : List ℕ) (facts : Facts) (out : List ℕ) (a : Result ℕ Refusal) where
  pub header_refused : (r : Refusal) → told (Err r) ≡ headed s facts → (told (Err r)).given ≡ eqb (told (Err r)).refusal.number 0 → Texted (fitted (refused_text r) out) (refused_text r) out a out'
      → Texted (fitted (header_text s facts) out) (header_text s facts) out a out'
  unfolding header_text refused_header
  header_refused r e n w = line_is (refused_text r) (header_text s facts) out a (sym (rw (← e, ← n))) w

  pub header_read : (h : HeaderRead) (f : Frame) → f ≡ frame_of (numbers_of h.header) → told (Ok h) ≡ headed s facts
      → Texted (fitted (sections_text s f h.end) out) (sections_text s f h.end) out a out'
      → Texted (fitted (header_text s facts) out) (header_text s facts) out a out'
  unfolding header_text
  header_read h f ef e w =
      line_is (sections_text s f h.end) (header_text s facts) out a
      (ap (λ (x : Frame). sections_text s x h.end) ef ∙ sym (rw (← e))) w

-- ---- the bytes

pub take_least : (k : ℕ) (l : List ℕ) → take (min k (length l)) l ≡ take k l
take_least k l =
    by_cases (dec_le k (length l))
    (λ y. let e : min k (length l) ≡ k = omega (arith, y) in ap (λ (n : ℕ). take n l) e)
    (λ y. take_all (min k (length l)) l (omega (arith, y)) ∙ sym (take_all k l (omega (arith, y))))

pub bytes_text : {out' : List ℕ} (rest : List ℕ) (n : ℕ) (facts : Facts) (out : List ℕ) (a : Result ℕ Refusal) → n ≡ min (length rest) 32768
    → Texted (fitted (header_text (take n rest) facts) out) (header_text (take n rest) facts) out a out'
    → Texted (fitted (header_text (take 32768 rest) facts) out) (header_text (take 32768 rest) facts) out a out'
bytes_text rest n facts out a e w =
    let turned : min (length rest) 32768 ≡ min 32768 (length rest) = omega arith in
    line_is (header_text (take n rest) facts) (header_text (take 32768 rest) facts) out a
    (ap (λ (l : List ℕ). header_text l facts) (ap (λ (k : ℕ). take k rest) (e ∙ turned) ∙ take_least 32768 rest)) w

-- ---- the line

module _ {out' : List ℕ} (s : List ℕ) (out : List ℕ) (a : Result ℕ Refusal) where
  pub job_bad : good_line s ≡ false → (q : Refusal) → q ≡ refusal 1 0 → Texted (fitted (refused_text q) out) (refused_text q) out a out'
      → Texted (fitted (job_text s) out) (job_text s) out a out'
  unfolding job_text
  job_bad h q e w = line_is (refused_text q) (job_text s) out a (ap refused_text e ∙ sym (rw h)) w

  pub job_good : (r : FactsLine) → Lined s r
      → Texted (fitted (header_text (take 32768 (take (length s - r.next) (drop r.next s))) r.facts) out) (header_text (take 32768 (take (length s - r.next) (drop r.next s))) r.facts) out a out'
      → Texted (fitted (job_text s) out) (job_text s) out a out'
  unfolding job_text
  job_good r l w =
      let all : take (length s - r.next) (drop r.next s) ≡ frame_bytes s = take_all (length s - r.next) (drop r.next s) (omega (arith, length-drop r.next s)) ∙ l.rest in
      line_is (header_text (take 32768 (take (length s - r.next) (drop r.next s))) r.facts) (job_text s) out a
      (ap (λ (b : List ℕ). header_text (take 32768 b) r.facts) all ∙ ap (λ (y : Facts). header_text (take 32768 (frame_bytes s)) y) l.facts ∙ sym (rw l.good)) w

-- the first words of an order
pub table_text : {out' : List ℕ} (f : Frame) (offsets sizes order : List ℕ) (k n : ℕ) (out : List ℕ) (a : Result ℕ Refusal) → n ≡ k
    → Texted (listing_refusal f offsets sizes (take n order) out) (listing f offsets sizes (take n order)) out a out'
    → Texted (listing_refusal f offsets sizes (take k order) out) (listing f offsets sizes (take k order)) out a out'
table_text f offsets sizes order k n out a e w = rw (← e) w

pub least_long : (a n : ℕ) (l : List ℕ) → n ≡ min (length l) a → n ≡ length (take n l)
least_long a n l e = omega (arith, length-take n l)
