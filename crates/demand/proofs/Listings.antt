-- Refusals 8 and 11 never come out of the listing's job: no input's text is the line of such a refusal.
use Prim.Native.Nat.{ℕ, ◌≤◌}
use native.Mathlib.Omega.{arith}
use mathlib.Core.Path.{◌≡◌, refl, sym, ◌∙◌, ap}
use mathlib.Core.Logic.{inl}
use mathlib.Core.List.{List, [], ◌∷◌, ◌++◌}
use mathlib.Core.Bool.{true}
use lib.Dec.{eqb, leb, ltb}
use lib.ListN.{length, get_or, take, drop}
use borrow.Author.Tests.{leb-true, eqb-true}
use Rattle.bits.specs.declared.Refusal.{Refusal}
use Rattle.bits.specs.Refusals.{pick, refusal, none}
use Rattle.bits.proofs.Bits.{and_left, and_right}
use Rattle.bits.proofs.Reading.{of_both}
use Rattle.grid.specs.declared.Frame.{Frame}
use Rattle.header.specs.declared.Facts.{Facts}
use Rattle.header.specs.Entry.{bad_facts, no_room, judged, stands, refusal_of, refused_header, answered, HeaderTold}
use Rattle.header.specs.Record.{frame_of}
use Rattle.order.proofs.Entries.{split}
use Rattle.toc.specs.Reading.{TocAnswer, Table, OrderNeeded, Refused, Tables, first_reading, after}
use Rattle.decimal.specs.Decimal.{decimal, is_digit, digits_alone, value_from}
use Rattle.listing.specs.Text.{heading, refused_text, order_text}
use Rattle.listing.specs.Listed.{listing_text}
use Rattle.listing_job.specs.Line.{good_line, facts_of, frame_bytes}
use Rattle.listing_job.specs.Job.{blank, read_text, reading_text, sections_text, headed, header_text, job_text}
use Rattle.theorems.proofs.Numerals.{numeral}
use Rattle.demand.specs.Frames.{HandedOn}
use Rattle.demand.proofs.Ranges.{Own}
use Rattle.demand.proofs.Headers.{handed_on, judged_facts, fault_own}
use Rattle.demand.proofs.Refusals.{Refuses, Allowed, Not8, Not11, first_refuses, allowed_8, allowed_11, own_8, own_11}

-- ---- a refusal's line tells its number

-- digits up to the first tab
digits_front : (a b x y : List ℕ) → digits_alone a ≡ true → digits_alone b ≡ true → a ++ (9 ∷ x) ≡ b ++ (9 ∷ y) → a ≡ b
unfolding digits_alone
digits_front [] [] x y da db e = refl
digits_front [] (c ∷ b) x y da db e =
    let low : 48 ≤ c = leb-true 48 c (and_left (leb 48 c) (leb c 57) (and_left (is_digit c) (digits_alone b) db)) in
    absurd (omega (arith, ap (λ (l : List ℕ). get_or l 0 0) e))
digits_front (c ∷ a) [] x y da db e =
    let low : 48 ≤ c = leb-true 48 c (and_left (leb 48 c) (leb c 57) (and_left (is_digit c) (digits_alone a) da)) in
    absurd (omega (arith, ap (λ (l : List ℕ). get_or l 0 0) e))
digits_front (c ∷ a) (d ∷ b) x y da db e =
    let first : c ≡ d = ap (λ (l : List ℕ). get_or l 0 0) e in
    let rest : a ≡ b = digits_front a b x y (and_right (is_digit c) (digits_alone a) da) (and_right (is_digit d) (digits_alone b) db) (ap (drop 1) e) in
    rw (first, rest)

refused_number : (r q : Refusal) → refused_text r ≡ refused_text q → r.number ≡ q.number
unfolding refused_text
refused_number r q e =
    let same : decimal r.number ≡ decimal q.number =
    digits_front (decimal r.number) (decimal q.number) _ _ (numeral r.number).alone (numeral q.number).alone (ap (drop 8) e) in
    sym (numeral r.number).value ∙ ap (value_from 0) same ∙ (numeral q.number).value

-- ---- the texts: where one is a refusal's line, the number has a property

abbrev Says : (ℕ → Type 0) → List ℕ → Type 0
Says P text = (r : Refusal) → text ≡ refused_text r → P r.number

refused_says : (P : ℕ → Type 0) (q : Refusal) → P q.number → Says P (refused_text q)
refused_says P q h r e = rw (← refused_number q r e) h

-- another first letter
order_says : (P : ℕ → Type 0) (place : ℕ) → Says P (order_text place)
unfolding order_text refused_text
order_says P place r e = absurd (omega (arith, ap (λ (l : List ℕ). get_or l 0 0) e))

listing_says : (P : ℕ → Type 0) (count : ℕ) (f : Frame) (o z p : List ℕ) → Says P (listing_text count f o z p)
unfolding listing_text heading refused_text
listing_says P count f o z p r e = absurd (omega (arith, ap (λ (l : List ℕ). get_or l 0 0) e))

read_says : (P : ℕ → Type 0) (f : Frame) (t : Tables) (order : List ℕ) (a : TocAnswer) → Refuses P a → Says P (read_text f t order a)
unfolding read_text
read_says P f t order (Table toc) h = listing_says P _ f t.offsets t.sizes order
read_says P f t order (OrderNeeded place) h = order_says P place
read_says P f t order (Refused r) h = refused_says P r h

sections_says : (P : ℕ → Type 0) (s : List ℕ) (f : Frame) (place : ℕ) → Allowed P s f place → Says P (sections_text s f place)
unfolding reading_text
sections_says P s f place ok =
    let q = first_reading s f place blank in
    read_says P f (after q blank) q.order q.answer (first_refuses P s f place ok blank)

-- the header's own refusal is a field's, or 1, 2 or 3
header_own : (s : List ℕ) (facts : Facts) → Own (headed s facts).refusal.number
unfolding answered refused_header judged
header_own s facts =
    let before : Refusal = judged (length s) facts 1071 256 1024 in
    let lent : Refusal = pick (no_room facts 1071 256 1024) (refusal 3 0) none in
    let few : Own before.number =
    of_both (λ (r : Refusal). Own r.number) (ltb 16777216 (length s)) (refusal 2 0) (pick (bad_facts facts) (refusal 1 0) lent) (inl (omega arith))
    (of_both (λ (r : Refusal). Own r.number) (bad_facts facts) (refusal 1 0) lent (inl (omega arith))
    (of_both (λ (r : Refusal). Own r.number) (no_room facts 1071 256 1024) (refusal 3 0) none (inl (omega arith)) (inl (omega arith)))) in
    let both : Own (refusal_of before (stands facts s)).number =
    of_both (λ (r : Refusal). Own r.number) (eqb before.number 0) (stands facts s).next.fault before (fault_own facts s) few in
    of_both (λ (a : HeaderTold). Own a.refusal.number) (eqb (refusal_of before (stands facts s)).number 0) _
    (refused_header (refusal_of before (stands facts s))) (inl (omega arith)) both

-- ---- a property of all numbers of fields, and of the entry's with what an accepted header hands on
module _ (P : ℕ → Type 0) (own : (n : ℕ) → Own n → P n)
    (entry : (facts : Facts) (s : List ℕ) (a : HeaderTold) → HandedOn facts s a → Allowed P s (frame_of a.header) a.end) where
  header_says : (s : List ℕ) (facts : Facts) → Says P (header_text s facts)
  unfolding header_text
  header_says s facts =
      split (eqb (headed s facts).refusal.number 0)
      (λ t.
      rw t (sections_says P s (frame_of (headed s facts).header) (headed s facts).end
      (entry facts s (headed s facts)
      (handed_on facts s (judged (length s) facts 1071 256 1024) (judged_facts (length s) facts 1071 256 1024) (eqb-true _ 0 t)))))
      (λ t. rw t (refused_says P (headed s facts).refusal (own (headed s facts).refusal.number (header_own s facts))))

  job_says : (input : List ℕ) → Says P (job_text input)
  unfolding job_text
  job_says input =
      of_both (Says P) (good_line input) (header_text (take 32768 (frame_bytes input)) (facts_of input)) (refused_text (refusal 1 0))
      (header_says (take 32768 (frame_bytes input)) (facts_of input)) (refused_says P (refusal 1 0) (own 1 (inl (omega arith))))

-- no input's text is the line of refusal 8, nor that of refusal 11
pub job_never_8 : (input : List ℕ) (r : Refusal) → job_text input ≡ refused_text r → r.number ≡ 8 → ⊥
job_never_8 = job_says Not8 own_8 (λ facts s a h. allowed_8 s (frame_of a.header) a.end h.good)

pub job_never_11 : (input : List ℕ) (r : Refusal) → job_text input ≡ refused_text r → r.number ≡ 11 → ⊥
job_never_11 = job_says Not11 own_11 (λ facts s a h. allowed_11 s (frame_of a.header) a.end h.within)
