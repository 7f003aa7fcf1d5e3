-- The listing program's input, cut behind byte 32,802, gives the same text: a good facts line ends before the cut, and behind a line whose facts are
-- within bounds no byte is cut away that is used.
use Prim.Native.Nat.{ℕ, zero, suc, ◌+◌, ◌-◌, ◌/◌, ◌%◌, ◌≤◌, ◌<◌}
use native.Mathlib.Omega.{arith}
use native.Mathlib.Nat.{not-suc-le-zero}
use native.Mathlib.Decide.{dec_le}
use mathlib.Core.Path.{◌≡◌, refl, sym, ◌∙◌, ap}
use mathlib.Core.Logic.{by_cases}
use mathlib.Core.Bool.{Bool, true, false, ◌&&◌, ◌||◌, false≢true}
use mathlib.Core.List.{List, [], ◌∷◌}
use lib.Dec.{eqb, ltb}
use lib.ListN.{length, get_or, take, length-take, length-append}
use lib.Seq.{take_all, take-take}
use borrow.Author.Tests.{lt-ltb, le-ltb, ltb-true, ltb-false}
use Rattle.bits.specs.Refusals.{pick, refusal}
use Rattle.bits.proofs.Bits.{and_left, and_right}
use Rattle.order.proofs.Entries.{split}
use Rattle.decimal.specs.Decimal.{Parsed, decimal, parsed, good, bad}
use Rattle.decimal.specs.UpTo.{up_to, behind, ended, numbered}
use Rattle.decimal.proofs.Spelling.{decimal_small, decimal_large, decimal_long}
use Rattle.decimal.proofs.Finding.{numbered_small}
use Rattle.header.specs.declared.Facts.{Facts}
use Rattle.header.specs.Entry.{bad_facts, judged, refused_header, answered}
use Rattle.listing.specs.Text.{refused_text}
use Rattle.listing_job.specs.Line.{limits, facts_from, stop_before, line_read, good_line, facts_of, frame_bytes}
use Rattle.listing_job.specs.Job.{header_text, job_text}
use Rattle.listing_job.proofs.Lines.{values_small}
use Rattle.theorems.proofs.Numerals.{reads_only}

-- ---- a smaller number has no more digits

one_more : (n : ℕ) → 10 ≤ n → length (decimal n) ≡ length (decimal (n / 10)) + 1
one_more n h = ap length (decimal_large n h) ∙ length-append (decimal (n / 10)) ((48 + n % 10) ∷ [])

longer_in : (k m n : ℕ) → n < k → m ≤ n → length (decimal m) ≤ length (decimal n)
longer_in zero m n h l = absurd (not-suc-le-zero h)
longer_in (suc k) m n h l =
    by_cases (dec_le (suc n) 10)
    (λ y. omega (arith, ap length (decimal_small n y), ap length (decimal_small m (omega (arith, y)))))
    (λ y.
    let large : 10 ≤ n = omega (arith, y) in
    let all : length (decimal n) ≡ length (decimal (n / 10)) + 1 = one_more n large in
    by_cases (dec_le (suc m) 10)
    (λ z. omega (arith, ap length (decimal_small m z)))
    (λ z.
    let many : 10 ≤ m = omega (arith, z) in
    omega (arith, one_more m many, longer_in k (m / 10) (n / 10) (omega arith) (omega arith))))

pub longer : (m n : ℕ) → m ≤ n → length (decimal m) ≤ length (decimal n)
longer m n h = longer_in (suc n) m n (omega arith) h

-- ---- a text cut behind its n-th byte

-- its first stop stands before the cut
record Seen (stop n : ℕ) (text : List ℕ) : Type 0 where
  front : up_to stop (take n text) ≡ up_to stop text
  rest : behind stop (take n text) ≡ take (n - suc (length (up_to stop text))) (behind stop text)

seen_by : (is : Bool) (stop n b : ℕ) (text : List ℕ) → eqb b stop ≡ is → (is ≡ false → Seen stop n text) → Seen stop (suc n) (b ∷ text)
unfolding up_to behind
seen_by true stop n b text e w =
    let same : n ≡ suc n - 1 = omega arith in
    record { front = rw e; rest = rw e (ap (λ (k : ℕ). take k text) same) }
seen_by false stop n b text e w =
    let l : ℕ = length (up_to stop text) in
    let same : n - suc l ≡ suc n - suc (suc l) = omega arith in
    record { front = rw (e, (w refl).front); rest = rw e ((w refl).rest ∙ ap (λ (k : ℕ). take k (behind stop text)) same) }

front_by : (is : Bool) (stop b : ℕ) (text : List ℕ) → eqb b stop ≡ is → is ≡ false → length (up_to stop (b ∷ text)) ≡ suc (length (up_to stop text))
unfolding up_to
front_by true stop b text e w = absurd (false≢true (sym w))
front_by false stop b text e w = rw e

seen : (stop n : ℕ) (text : List ℕ) → length (up_to stop text) < n → length (up_to stop text) < length text → Seen stop n text
seen stop zero text h g = absurd (not-suc-le-zero h)
seen stop (suc n) [] h g = absurd (not-suc-le-zero g)
seen stop (suc n) (b ∷ text) h g =
    seen_by (eqb b stop) stop n b text refl (λ e.
    let l = front_by (eqb b stop) stop b text refl e in
    seen stop n text (omega arith) (omega arith))

-- or it doesn't: then the cut text has none
unseen_by : (is : Bool) (stop n b : ℕ) (text : List ℕ) → eqb b stop ≡ is → suc n ≤ length (up_to stop (b ∷ text))
    → (n ≤ length (up_to stop text) → n ≤ length (up_to stop (take n text))) → suc n ≤ length (up_to stop (take (suc n) (b ∷ text)))
unfolding up_to
unseen_by true stop n b text e h w = absurd (not-suc-le-zero (rw e at h))
unseen_by false stop n b text e h w = let h' : suc n ≤ suc (length (up_to stop text)) = rw e at h in rw e (omega (arith, w (omega arith)))

unseen : (stop n : ℕ) (text : List ℕ) → n ≤ length (up_to stop text) → n ≤ length (up_to stop (take n text))
unfolding up_to
unseen stop zero text h = omega arith
unseen stop (suc n) [] h = absurd (not-suc-le-zero h)
unseen stop (suc n) (b ∷ text) h = unseen_by (eqb b stop) stop n b text refl h (unseen stop n text)

-- ---- a number at the front of it

parsed_good : (p : Parsed) → p.good ≡ true → p ≡ good p.value
parsed_good p e = ap (λ (b : Bool). record { good = b; value = p.value }) e

ended_good : (b : Bool) (p : Parsed) → (pick b p bad).good ≡ true → (b ≡ true) × (p.good ≡ true) × ((pick b p bad).value ≡ p.value)
ended_good true p e = (refl, e, refl)
ended_good false p e = absurd (false≢true e)

-- a good number ends, and is spelt as it is written
record Spelt (stop limit : ℕ) (text : List ℕ) : Type 0 where
  ends : length (up_to stop text) < length text
  long : length (up_to stop text) ≡ length (decimal (numbered stop limit text).value)

spelt : (stop limit : ℕ) (text : List ℕ) → (numbered stop limit text).good ≡ true → Spelt stop limit text
unfolding numbered
spelt stop limit text e =
    let p : Parsed = parsed limit (up_to stop text) in
    let w = ended_good (ended stop text) p e in
    record {
      ends = ltb-true (length (up_to stop text)) (length text) w.0;
      long = ap length (reads_only limit (up_to stop text) p.value (parsed_good p w.1)).0 ∙ ap (λ (v : ℕ). length (decimal v)) (sym w.2);
    }

module _ (stop limit n : ℕ) (text : List ℕ) where
  -- where it ends before the cut, the cut text has the same
  same_number : length (up_to stop text) < n → length (up_to stop text) < length text → numbered stop limit (take n text) ≡ numbered stop limit text
  unfolding numbered
  same_number h g =
      let low : length (up_to stop text) < length (take n text) = omega (arith, length-take n text) in
      rw ((seen stop n text h g).front, lt-ltb (length (up_to stop text)) (length text) g, lt-ltb (length (up_to stop text)) (length (take n text)) low)

  -- and where it isn't good, the cut text has no good one
  bad_number : (numbered stop limit text).good ≡ false → (numbered stop limit (take n text)).good ≡ false
  unfolding numbered
  bad_number e =
      by_cases (dec_le n (length (up_to stop text)))
      (λ y. rw (le-ltb (length (up_to stop (take n text))) (length (take n text)) (omega (arith, unseen stop n text y, length-take n text))))
      (λ y.
      by_cases (dec_le (length text) n)
      (λ z. rw (take_all n text z) e)
      (λ z.
      by_cases (dec_le (suc (length (up_to stop text))) (length text))
      (λ x. ap (λ (p : Parsed). p.good) (same_number (omega (arith, y)) x) ∙ e)
      (λ x. absurd (omega (arith, x, y, z)))))

-- ---- the line

-- how many bytes a good line of these numbers has: their digits, and a byte behind each
abbrev pub line_long : List ℕ → ℕ
line_long [] = 0
line_long (v ∷ more) = suc (length (decimal v)) + line_long more

-- before a cut that is no nearer than the longest line of these limits, the same numbers are read, and what stands behind a good line is cut
pub record Cut (most : List ℕ) (n : ℕ) (text : List ℕ) : Type 0 where
  pub good : (line_read most (take n text)).good ≡ (line_read most text).good
  pub values : (line_read most text).good ≡ true → (line_read most (take n text)).values ≡ (line_read most text).values
  pub rest : (line_read most text).good ≡ true
      → (line_read most (take n text)).rest ≡ take (n - line_long (line_read most text).values) (line_read most text).rest

pub cut : (most : List ℕ) (n : ℕ) (text : List ℕ) → line_long most ≤ n → Cut most n text
unfolding line_read
cut [] n text h =
    let all : n ≡ n - 0 = omega arith in
    record { good = refl; values = λ g. refl; rest = λ g. ap (λ (k : ℕ). take k text) all }
cut (limit ∷ more) n text h =
    let stop : ℕ = stop_before more in
    let front : List ℕ = up_to stop text in
    let p : Parsed = numbered stop limit text in
    let left : List ℕ = behind stop text in
    split p.good
    (λ g.
    let w = spelt stop limit text g in
    let short : length front ≤ length (decimal limit) = omega (arith, w.long, longer p.value limit (numbered_small stop limit text)) in
    let before : length front < n = omega arith in
    let m : ℕ = n - suc (length front) in
    let same = same_number stop limit n text before w.ends in
    let others : Cut more m left = cut more m left (omega arith) in
    let is = (seen stop n text before w.ends).rest in
    record {
      good = rw (same, is) (ap (λ (b : Bool). p.good && b) others.good);
      values = λ e. rw (same, is) (ap (λ (l : List ℕ). p.value ∷ l) (others.values (and_right p.good (line_read more left).good e)));
      rest = λ e.
          let used : ℕ = line_long (line_read more left).values in
          let cutted : m - used ≡ n - (suc (length (decimal p.value)) + used) = omega (arith, w.long) in
          rw is (others.rest (and_right p.good (line_read more left).good e) ∙ ap (λ (k : ℕ). take k (line_read more left).rest) cutted);
    })
    (λ b.
    record {
      good = rw (b, bad_number stop limit n text b);
      values = λ e. absurd (false≢true (sym b ∙ and_left p.good (line_read more left).good e));
      rest = λ e. absurd (false≢true (sym b ∙ and_left p.good (line_read more left).good e));
    })

-- ---- the facts line

-- a good one has at most 41 bytes, and at most 34 where the extra channels are at most 256
module _ (text : List ℕ) where
  abbrev values : List ℕ
  values = (line_read limits text).values

  -- a number of 32 bits has at most 10 digits, a flag has 1
  word_long : (k : ℕ) → get_or limits k 0 ≤ 4294967295 → length (decimal (get_or values k 0)) ≤ 10
  word_long k h = decimal_long 9 (get_or values k 0) (omega (arith, values_small limits text k))

  flag_long : (k : ℕ) → get_or limits k 0 ≤ 1 → length (decimal (get_or values k 0)) ≤ 1
  flag_long k h = decimal_long 0 (get_or values k 0) (omega (arith, values_small limits text k))

  -- all numbers but that of the extra channels
  others_long : line_long values ≤ length (decimal (get_or values 4 0)) + 31
  unfolding line_read limits
  others_long =
      let a = word_long 0 (omega arith) in
      let b = word_long 1 (omega arith) in
      let c = flag_long 2 (omega arith) in
      let d = flag_long 3 (omega arith) in
      omega (arith, flag_long 5 (omega arith), flag_long 6 (omega arith))

  pub line_long_lem : line_long values ≤ 41
  unfolding limits
  line_long_lem = omega (arith, others_long, word_long 4 (omega arith))

  pub line_short : get_or values 4 0 ≤ 256 → line_long values ≤ 34
  line_short h = omega (arith, others_long, decimal_long 2 (get_or values 4 0) (omega arith))

limits_long : line_long limits ≤ 41
unfolding limits
limits_long = omega (arith, decimal_long 9 4294967295 (omega arith), decimal_long 0 1 (omega arith))

-- ---- the text

-- facts that are out of bounds are 1, whatever the bytes
pub bad_facts_lem : (s : List ℕ) (facts : Facts) → length s ≤ 16777216 → bad_facts facts ≡ true → header_text s facts ≡ refused_text (refusal 1 0)
unfolding header_text answered judged refused_header
bad_facts_lem s facts h b = rw (le-ltb 16777216 (length s) h, b)

or_right : (a b : Bool) → b ≡ true → (a || b) ≡ true
or_right true b e = refl
or_right false b e = e

many_extra : (f : Facts) → ltb 256 f.extra ≡ true → bad_facts f ≡ true
many_extra f e =
    or_right ((eqb f.width 0 || ltb 1073741824 f.width) || (eqb f.height 0 || ltb 1073741824 f.height)) (ltb 256 f.extra) e

-- the bytes behind a line of at most 34, cut behind the 32,802nd of all: those that are used are the same
pub used_same : (rest : List ℕ) (long n : ℕ) → long + 32768 ≤ n → take 32768 (take (n - long) rest) ≡ take 32768 rest
used_same rest long n h = take-take 32768 (n - long) rest (omega arith)

module _ (input : List ℕ) (n : ℕ) (enough : 32802 ≤ n) where
  whole : Cut limits n input
  whole = cut limits n input (omega (arith, limits_long))

  -- a good line
  good_cut : good_line input ≡ true
      → header_text (take 32768 (frame_bytes (take n input))) (facts_of (take n input)) ≡ header_text (take 32768 (frame_bytes input)) (facts_of input)
  unfolding facts_from
  good_cut g =
      let facts : Facts = facts_of input in
      let same : facts_of (take n input) ≡ facts = ap facts_from (whole.values g) in
      rw same
      (split (ltb 256 facts.extra)
      (λ t.
      let b : bad_facts facts ≡ true = many_extra facts t in
      bad_facts_lem (take 32768 (frame_bytes (take n input))) facts (omega (arith, length-take 32768 (frame_bytes (take n input)))) b
      ∙ sym (bad_facts_lem (take 32768 (frame_bytes input)) facts (omega (arith, length-take 32768 (frame_bytes input))) b))
      (λ t.
      let few : get_or (values input) 4 0 ≤ 256 = ltb-false 256 facts.extra t in
      let long : ℕ = line_long (values input) in
      let used = used_same (frame_bytes input) long n (omega (arith, line_short input few)) in
      ap (λ (s : List ℕ). header_text s facts) (ap (λ (l : List ℕ). take 32768 l) (whole.rest g) ∙ used)))

  -- whatever the input
  pub same_text : job_text (take n input) ≡ job_text input
  unfolding job_text
  same_text =
      split (good_line input)
      (λ g. rw (whole.good, g) (good_cut g))
      (λ b. rw (whole.good, b))
