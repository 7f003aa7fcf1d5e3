-- The listing program's two arrays are long enough. It hands `list_frame` at most 32,802 bytes of standard input and lends it 81,054 bytes for the
-- text, 1,026 lines of at most 79: `Enough` says that whatever stands on standard input, its whole text is written.
use Prim.Native.Nat.{ℕ, ◌+◌, ◌≤◌, ◌<◌}
use native.Mathlib.Omega.{arith}
use mathlib.Core.Path.{◌≡◌, refl, ◌∙◌}
use mathlib.Core.Bool.{true}
use mathlib.Core.List.{List, ◌++◌}
use lib.Dec.{eqb}
use lib.ListN.{length, get_or, take, drop}
use lib.Seq.{sets-eq, take_at, drop_at}
use borrow.Author.Tests.{le-leb, eqb-true}
use Rattle.std.specs.Prelude.{Result, Ok}
use Rattle.bits.specs.declared.Refusal.{Refusal}
use Rattle.bits.specs.Refusals.{refusal, none}
use Rattle.bits.specs.Bits.{bit_count}
use Rattle.bits.proofs.Reading.{of_both}
use Rattle.order.proofs.Entries.{split}
use Rattle.grid.specs.declared.Frame.{Frame}
use Rattle.order.specs.Sums.{sum_to}
use Rattle.order.proofs.Reach.{order_below}
use Rattle.header.specs.declared.Facts.{Facts}
use Rattle.header.specs.Entry.{HeaderTold, judged}
use Rattle.header.specs.Record.{frame_of}
use Rattle.toc.specs.declared.Toc.{Toc}
use Rattle.toc.specs.Reading.{TocAnswer, Table, OrderNeeded, Refused, Reading, first_reading, after}
use Rattle.toc.proofs.Accepted.{Accepted, first_accepted}
use Rattle.listing.specs.Put.{Texted, fitted, answer_by}
use Rattle.listing.specs.Text.{refused_text}
use Rattle.listing.specs.Listed.{listing}
use Rattle.listing_job.specs.Line.{good_line, facts_of, frame_bytes}
use Rattle.listing_job.specs.Job.{blank, read_text, reading_text, sections_text, headed, header_text, job_text}
use Rattle.theorems.specs.Refusing.{Refuses, Tells, of_header, of_toc}
use Rattle.theorems.proofs.Refusing.{ruled}
use Rattle.theorems.proofs.HeaderEnds.{judge_header, answered_refuses}
use Rattle.theorems.proofs.TocEnds.{first_tells}
use Rattle.theorems.proofs.Tables.{offset_at_lem, size_at_lem, before_small, total_by_section}
use Rattle.theorems.proofs.Cuts.{same_text}
use Rattle.theorems.proofs.Lengths.{Known, refused_long, order_long, listing_long}

-- ---- what is said

-- what `list_frame` promises of an input, the lent bytes before and after, and its answer
abbrev pub Promised : List ℕ → List ℕ → Result ℕ Refusal → List ℕ → Type 0
Promised input out answer out' = Texted (fitted (job_text input) out) (job_text input) out answer out'

-- the whole text of an input stands in front in the lent bytes, nothing is refused, and those behind it are as they were
pub record WrittenWhole (input out : List ℕ) (answer : Result ℕ Refusal) (out' : List ℕ) : Type 0 where
  pub accepted : answer ≡ Ok (length (job_text input))
  pub text : take (length (job_text input)) out' ≡ job_text input
  pub behind : drop (length (job_text input)) out' ≡ drop (length (job_text input)) out

pub record Enough : Type 0 where
  -- the output array: the text of any input has at most 81,054 bytes
  pub output : (input : List ℕ) → length (job_text input) ≤ 81054
  -- the input array: of any input the first 32,802 bytes have the same text as the whole
  pub input : (stdin : List ℕ) → job_text (take 32802 stdin) ≡ job_text stdin
  -- together: `list_frame`, given the first 32,802 bytes and lent at least 81,054, writes the text of the whole
  pub written : (stdin out : List ℕ) (answer : Result ℕ Refusal) (out' : List ℕ) → 81054 ≤ length out → Promised (take 32802 stdin) out answer out'
      → WrittenWhole stdin out answer out'

-- ---- the text of an accepted table

module _ (s : List ℕ) (f : Frame) (place : ℕ) (toc : Toc) (e : (first_reading s f place blank).answer ≡ Table toc) where
  abbrev reading : Reading
  reading = first_reading s f place blank

  is : Accepted s f blank toc reading
  is = (first_accepted s f place blank toc e).0

  count_few : toc.count ≤ 1024
  count_few = is.room.order

  sent_below : (i : ℕ) → i < toc.count → get_or reading.order i 0 < toc.count
  sent_below i l = order_below toc.count reading.order is.order i l

  offset_small : (i : ℕ) → i < toc.count → get_or (after reading blank).offsets i 0 < 10000000000000
  offset_small i l =
      let sent : get_or reading.order i 0 < toc.count = sent_below i l in
      let before = before_small s f blank toc reading is (get_or reading.order i 0) (omega arith) in
      omega (arith, offset_at_lem s f blank toc reading is i l, count_few, is.begins, is.short)

  size_small : (i : ℕ) → i < toc.count → get_or (after reading blank).sizes i 0 < 10000000000
  size_small i l = omega (arith, size_at_lem s f blank toc reading is i l, is.small (get_or reading.order i 0) (sent_below i l))

  total_small : sum_to toc.count (λ i. get_or (after reading blank).sizes i 0) < 10000000000000
  total_small =
      let all = before_small s f blank toc reading is toc.count (omega arith) in
      omega (arith, total_by_section s f blank toc reading is, is.total, count_few)

  table_long : length (listing f (after reading blank).offsets (after reading blank).sizes reading.order) ≤ 81054
  table_long =
      rw (← is.count)
      (omega (
        arith,
        count_few,
        listing_long f toc.count (after reading blank).offsets (after reading blank).sizes reading.order is.frame is.count count_few
            (λ i l. (omega (arith, sent_below i l, count_few), offset_small i l, size_small i l)) total_small,
      ))

-- ---- the text of any input

abbrev Fits : List ℕ → Type 0
Fits text = length text ≤ 81054

-- a refusal of a reading has a number of the rules and a place within the longest input
known_by : (l s : List ℕ) (r : Refusal) → Refuses l (bit_count s) r → Known r
known_by l s r h =
    split (eqb 0 r.number)
    (λ e. (omega (arith, eqb-true 0 r.number e), omega (arith, h.inside)))
    (λ e. ((ruled l r.number h.ruled (rw e at h.listed)).1, omega (arith, h.inside)))

refused_fits : (r : Refusal) → Known r → Fits (refused_text r)
refused_fits r k = omega (arith, refused_long r k)

read_fits : (s : List ℕ) (f : Frame) (place : ℕ) (a : TocAnswer) → (first_reading s f place blank).answer ≡ a
    → Tells of_toc true (bit_count s) blank (after (first_reading s f place blank) blank) a
    → Fits (read_text f (after (first_reading s f place blank) blank) (first_reading s f place blank).order a)
unfolding read_text
read_fits s f place (Table toc) e k = table_long s f place toc e
read_fits s f place (OrderNeeded p) e k = omega (arith, order_long p (omega (arith, k.1)))
read_fits s f place (Refused r) e k = refused_fits r (known_by of_toc s r k.1)

sections_fits : (s : List ℕ) (f : Frame) (place : ℕ) → Fits (sections_text s f place)
unfolding reading_text
sections_fits s f place = read_fits s f place (first_reading s f place blank).answer refl (first_tells s f place blank)

header_fits : (s : List ℕ) (facts : Facts) → Fits (header_text s facts)
unfolding header_text
header_fits s facts =
    let h : HeaderTold = headed s facts in
    of_both Fits (eqb h.refusal.number 0) (sections_text s (frame_of h.header) h.end) (refused_text h.refusal)
    (sections_fits s (frame_of h.header) h.end)
    (refused_fits h.refusal (known_by of_header s h.refusal (answered_refuses facts s (judged (length s) facts 1071 256 1024) (judge_header (length s) facts 1071 256 1024))))

job_fits : (input : List ℕ) → Fits (job_text input)
unfolding job_text
job_fits input =
    of_both Fits (good_line input) (header_text (take 32768 (frame_bytes input)) (facts_of input)) (refused_text (refusal 1 0))
    (header_fits (take 32768 (frame_bytes input)) (facts_of input)) (refused_fits (refusal 1 0) (omega arith, omega arith))

-- ---- what is written

-- a text that fits is written whole
module _ (text out : List ℕ) (a : Result ℕ Refusal) (out' : List ℕ) (h : length text ≤ length out) (p : Texted (fitted text out) text out a out') where
  fits_none : fitted text out ≡ none
  fits_none = rw (le-leb (length text) (length out) h)

  answer_is : a ≡ Ok (length text)
  unfolding answer_by
  answer_is = p.answer ∙ rw fits_none

  bytes_are : out' ≡ text ++ drop (length text) out
  bytes_are =
      let from : 0 + length text ≡ length text = omega arith in
      p.bytes ∙ rw fits_none (sets-eq text out 0 (omega arith) ∙ rw from)

  pub written_whole : (input : List ℕ) → text ≡ job_text input → WrittenWhole input out a out'
  written_whole input e = record {
    accepted = rw (← e) answer_is;
    text = rw (bytes_are, ← e) (take_at text (drop (length text) out) (length text) refl);
    behind = rw (bytes_are, ← e) (drop_at text (drop (length text) out) (length text) refl);
  }

-- ---- the law

pub enough : Enough
enough = record {
  output = job_fits;
  input = λ stdin. same_text stdin 32802 (omega arith);
  written = λ stdin out answer out' room p.
      let text : List ℕ = job_text (take 32802 stdin) in
      written_whole text out answer out' (omega (arith, job_fits (take 32802 stdin))) p stdin (same_text stdin 32802 (omega arith));
}
