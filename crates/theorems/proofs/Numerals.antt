-- Reading and writing numbers are each other's inverse: what is written reads back, and what reads as a number is what is written for it.
use Prim.Native.Nat.{ℕ, zero, suc, ◌+◌, ◌-◌, ◌*◌, ◌/◌, ◌%◌, ◌≤◌, ◌<◌}
use native.Mathlib.Omega.{arith}
use native.Mathlib.Nat.{not-suc-le-zero}
use native.Mathlib.Decide.{dec_le}
use mathlib.Core.Path.{◌≡◌, refl, sym, ◌∙◌, ap}
use mathlib.Core.Logic.{by_cases}
use mathlib.Core.Bool.{Bool, true, false, ◌&&◌}
use mathlib.Core.List.{List, [], ◌∷◌, ◌++◌, append_assoc, append-nil}
use lib.Dec.{leb, eqb}
use lib.ListN.{get_or}
use borrow.Author.Tests.{le-leb, leb-true, eqb-false, ne_eqb, not-true}
use Rattle.bits.specs.Refusals.{pick}
use Rattle.bits.proofs.Bits.{and_left, and_right}
use Rattle.decimal.specs.Decimal.{Parsed, decimal, is_digit, digits_alone, leads, value_from, judged, parsed, good, bad}
use Rattle.decimal.proofs.Spelling.{onto_large, onto_is, decimal_small, decimal_large}

-- ---- one digit more behind a text

-- one digit more behind a number that isn't 0
decimal_more : (v d : ℕ) → 0 < v → d < 10 → decimal (v * 10 + d) ≡ decimal v ++ ((48 + d) ∷ [])
unfolding decimal
decimal_more v d h g =
    let q : (v * 10 + d) / 10 ≡ v = omega arith in
    let r : (v * 10 + d) % 10 ≡ d = omega arith in
    onto_large (v * 10 + d) [] (omega arith) ∙ rw (q, r) (onto_is v ((48 + d) ∷ []))

value_behind : (v : ℕ) (text : List ℕ) (b : ℕ) → value_from v (text ++ (b ∷ [])) ≡ value_from v text * 10 + (b - 48)
unfolding value_from
value_behind v [] b = refl
value_behind v (x ∷ text) b = value_behind (v * 10 + (x - 48)) text b

alone_behind : (text : List ℕ) (b : ℕ) → digits_alone text ≡ true → is_digit b ≡ true → digits_alone (text ++ (b ∷ [])) ≡ true
unfolding digits_alone
alone_behind [] b h d = rw d
alone_behind (x ∷ text) b h d = rw (and_left (is_digit x) (digits_alone text) h, alone_behind text b (and_right (is_digit x) (digits_alone text) h) d)

-- a text that begins with another byte than `0`
abbrev pub Begins : List ℕ → Type 0
Begins text = get_or text 0 48 ≡ 48 → ⊥

begins_behind : (text : List ℕ) (b : ℕ) → Begins text → Begins (text ++ (b ∷ []))
begins_behind [] b h e = h refl
begins_behind (x ∷ text) b h e = h e

leads_behind : (text : List ℕ) (b : ℕ) → Begins text → leads (text ++ (b ∷ [])) ≡ true
unfolding leads
leads_behind [] b h = absurd (h refl)
leads_behind (x ∷ []) b h = rw (ne_eqb x 48 h)
leads_behind (x ∷ y ∷ text) b h = rw (ne_eqb x 48 h)

digit_is : (d : ℕ) → d < 10 → is_digit (48 + d) ≡ true
digit_is d h = rw (le-leb 48 (48 + d) (omega arith), le-leb (48 + d) 57 (omega arith))

-- ---- the text of a number

pub record Numeral (n : ℕ) (text : List ℕ) : Type 0 where
  pub alone : digits_alone text ≡ true
  pub value : value_from 0 text ≡ n
  pub front : leads text ≡ true
  pub begins : 0 < n → Begins text

one_digit : (n : ℕ) → n < 10 → Numeral n ((48 + n) ∷ [])
unfolding digits_alone value_from leads
one_digit n h = record { alone = rw (digit_is n h); value = omega arith; front = refl; begins = λ p e. omega arith }

more_digits : (n : ℕ) (text : List ℕ) → 10 ≤ n → Numeral (n / 10) text → Numeral n (text ++ ((48 + n % 10) ∷ []))
more_digits n text h w =
    let some : 0 < n / 10 = omega arith in
    record {
      alone = alone_behind text (48 + n % 10) w.alone (digit_is (n % 10) (omega arith));
      value = value_behind 0 text (48 + n % 10) ∙ rw w.value (omega arith);
      front = leads_behind text (48 + n % 10) (w.begins some);
      begins = λ p. begins_behind text (48 + n % 10) (w.begins some);
    }

numeral_in : (k n : ℕ) → n < k → Numeral n (decimal n)
numeral_in zero n h = absurd (not-suc-le-zero h)
numeral_in (suc k) n h =
    by_cases (dec_le (suc n) 10)
    (λ y. rw (decimal_small n y) (one_digit n y))
    (λ y.
    let large : 10 ≤ n = omega (arith, y) in
    rw (decimal_large n large) (more_digits n (decimal (n / 10)) large (numeral_in k (n / 10) (omega arith))))

pub numeral : (n : ℕ) → Numeral n (decimal n)
numeral n = numeral_in (suc n) n (omega arith)

-- what is written for a number reads as that number
pub reads_back : (limit n : ℕ) → n ≤ limit → parsed limit (decimal n) ≡ good n
unfolding parsed judged
reads_back limit n h =
    let w : Numeral n (decimal n) = numeral n in
    rw (w.front, w.alone, w.value, le-leb n limit h)

-- ---- a text that reads as a number

pick_good : (a b : Bool) (v n : ℕ) → pick (a && b) (good v) bad ≡ good n → (a ≡ true) × (b ≡ true) × (v ≡ n)
pick_good true true v n e = (refl, refl, ap (λ (p : Parsed). p.value) e)
pick_good true false v n e = absurd (let z : ◌≡◌ {A = Bool} false true = ap (λ (p : Parsed). p.good) e in let y : ◌≡◌ {A = ℕ} 0 1 = cc in omega arith)
pick_good false b v n e = absurd (let z : ◌≡◌ {A = Bool} false true = ap (λ (p : Parsed). p.good) e in let y : ◌≡◌ {A = ℕ} 0 1 = cc in omega arith)

leads_good : (a : Bool) (p : Parsed) (n : ℕ) → pick a p bad ≡ good n → (a ≡ true) × (p ≡ good n)
leads_good true p n e = (refl, e)
leads_good false p n e = absurd (let z : ◌≡◌ {A = Bool} false true = ap (λ (q : Parsed). q.good) e in let y : ◌≡◌ {A = ℕ} 0 1 = cc in omega arith)

glyph_is : (b : ℕ) → is_digit b ≡ true → (48 + (b - 48) ≡ b) × (b - 48 < 10)
glyph_is b d =
    let low : 48 ≤ b = leb-true 48 b (and_left (leb 48 b) (leb b 57) d) in
    let high : b ≤ 57 = leb-true b 57 (and_right (leb 48 b) (leb b 57) d) in
    (omega arith, omega arith)

-- digits behind a number that isn't 0
grown : (v : ℕ) (text : List ℕ) → 0 < v → digits_alone text ≡ true → decimal v ++ text ≡ decimal (value_from v text)
unfolding value_from digits_alone
grown v [] p d = append-nil (decimal v)
grown v (b ∷ text) p d =
    let g = glyph_is b (and_left (is_digit b) (digits_alone text) d) in
    sym (append_assoc (decimal v) (b ∷ []) text)
    ∙ ap (λ (l : List ℕ). l ++ text) (sym (decimal_more v (b - 48) p g.1 ∙ ap (λ (x : ℕ). decimal v ++ (x ∷ [])) g.0))
    ∙ grown (v * 10 + (b - 48)) text (omega arith) (and_right (is_digit b) (digits_alone text) d)

spelt : (text : List ℕ) → leads text ≡ true → digits_alone text ≡ true → text ≡ decimal (value_from 0 text)
unfolding leads value_from digits_alone
spelt [] h d = absurd (let y : ◌≡◌ {A = ℕ} 0 1 = cc in omega arith)
spelt (b ∷ []) h d =
    let g = glyph_is b (and_left (is_digit b) true d) in
    let v : 0 * 10 + (b - 48) ≡ b - 48 = omega arith in
    sym (ap decimal v ∙ decimal_small (b - 48) g.1 ∙ ap (λ (x : ℕ). x ∷ []) g.0)
spelt (b ∷ c ∷ text) h d =
    let digit : is_digit b ≡ true = and_left (is_digit b) (digits_alone (c ∷ text)) d in
    let g = glyph_is b digit in
    let other : b ≡ 48 → ⊥ = eqb-false b 48 (not-true (eqb b 48) h) in
    let some : 0 < b - 48 = omega (arith, g.0, other) in
    let v : b - 48 ≡ 0 * 10 + (b - 48) = omega arith in
    ap (λ (x : ℕ). x ∷ c ∷ text) (sym g.0)
    ∙ ap (λ (l : List ℕ). l ++ c ∷ text) (sym (decimal_small (b - 48) g.1))
    ∙ ap (λ (v : ℕ). decimal v ++ c ∷ text) v
    ∙ grown (0 * 10 + (b - 48)) (c ∷ text) (omega arith) (and_right (is_digit b) (digits_alone (c ∷ text)) d)

-- a text that reads as a number is the one that is written for it
pub reads_only : (limit : ℕ) (text : List ℕ) (n : ℕ) → parsed limit text ≡ good n → (text ≡ decimal n) × (n ≤ limit)
unfolding parsed judged
reads_only limit text n e =
    let l = leads_good (leads text) (judged limit 0 text) n e in
    let p = pick_good (digits_alone text) (leb (value_from 0 text) limit) (value_from 0 text) n l.1 in
    (spelt text l.0 p.0 ∙ ap decimal p.2, rw p.2 at (leb-true (value_from 0 text) limit p.1))
