-- Laws of reading a number: what is left of a text, one digit further, and what makes it bad.
use Rattle.std.proofs.Common.{ℕ, suc, ◌+◌, ◌-◌, ◌*◌, ◌≤◌, ◌<◌, arith, ◌≡◌, refl, sym, ◌∙◌, ap, true, false, not, List, [], ◌∷◌, leb, eqb, length, get_or, drop, drop-cons, add-one, le-leb, leb-true, leb-false}
use mathlib.Core.Bool.{and-false}
use lib.Seq.{drop-length}
use borrow.Author.Tests.{lt-leb}
use Rattle.decimal.specs.Decimal.{is_digit, digits_alone, leads, value_from, judged, parsed, good, bad}

-- digits only make a number larger
pub value_grows : (v : ℕ) (text : List ℕ) → v ≤ value_from v text
unfolding value_from
value_grows v [] = omega arith
value_grows v (b ∷ text) = omega (arith, value_grows (v * 10 + (b - 48)) text)

pub judged_end : (limit v : ℕ) → v ≤ limit → judged limit v [] ≡ good v
unfolding judged digits_alone value_from
judged_end limit v h = rw (le-leb v limit h)

module _ (limit v b : ℕ) (text : List ℕ) where
  pub judged_digit : is_digit b ≡ true → judged limit v (b ∷ text) ≡ judged limit (v * 10 + (b - 48)) text
  unfolding judged digits_alone value_from
  judged_digit d = rw d

  pub judged_other : is_digit b ≡ false → judged limit v (b ∷ text) ≡ bad
  unfolding judged digits_alone value_from
  judged_other d = rw d

pub judged_large : (limit v : ℕ) (text : List ℕ) → limit < v → judged limit v text ≡ bad
unfolding judged
judged_large limit v text h = rw (lt-leb (value_from v text) limit (omega (arith, value_grows v text)), and-false (digits_alone text))

-- ---- the front

pub leads_none : (s : List ℕ) → length s ≡ 0 → false ≡ leads s
unfolding leads
leads_none [] h = refl
leads_none (b ∷ s) h = absurd (omega arith)

pub leads_one : (s : List ℕ) → length s ≡ 1 → true ≡ leads s
unfolding leads
leads_one [] h = absurd (omega arith)
leads_one (b ∷ []) h = refl
leads_one (b ∷ c ∷ s) h = absurd (omega arith)

pub leads_many : (s : List ℕ) → 2 ≤ length s → not (eqb (get_or s 0 0) 48) ≡ leads s
unfolding leads
leads_many [] h = absurd (omega arith)
leads_many (b ∷ []) h = absurd (omega arith)
leads_many (b ∷ c ∷ s) h = refl

-- ---- the walk

-- what is left of the text from index i on, behind the number v
pub record Scans (limit : ℕ) (s : List ℕ) (v i : ℕ) : Type 0 where
  pub within : i ≤ length s
  pub small : v ≤ limit
  pub left : parsed limit s ≡ judged limit v (drop i s)

pub scans_none : (limit : ℕ) (s : List ℕ) → leads s ≡ true → Scans limit s 0 0
unfolding parsed
scans_none limit s h = record { within = omega arith; small = omega arith; left = rw h }

pub headless : (limit : ℕ) (s : List ℕ) → leads s ≡ false → bad ≡ parsed limit s
unfolding parsed
headless limit s h = rw h

module _ (limit : ℕ) (s : List ℕ) (v i : ℕ) (w : Scans limit s v i) where
  pub scans_end : length s ≤ i → good v ≡ parsed limit s
  scans_end h =
      let end : i ≡ length s = omega (arith, w.within) in
      sym (w.left ∙ ap (λ (k : ℕ). judged limit v (drop k s)) end ∙ ap (λ (l : List ℕ). judged limit v l) (drop-length s) ∙ judged_end limit v w.small)

  module _ (h : i < length s) (b : ℕ) (e : b ≡ get_or s i 0) where
    next : parsed limit s ≡ judged limit v (b ∷ drop (suc i) s)
    next = w.left ∙ ap (λ (l : List ℕ). judged limit v l) (drop-cons s i 0 h ∙ rw (← e))

    pub scans_other : is_digit b ≡ false → bad ≡ parsed limit s
    scans_other d = sym (next ∙ judged_other limit v b (drop (suc i) s) d)

    module _ (d : is_digit b ≡ true) (x : ℕ) (ex : x ≡ b - 48) where
      further : parsed limit s ≡ judged limit (v * 10 + x) (drop (suc i) s)
      further = next ∙ judged_digit limit v b (drop (suc i) s) d ∙ rw (← ex)

      pub scans_large : leb (v * 10 + x) limit ≡ false → bad ≡ parsed limit s
      scans_large t = sym (further ∙ judged_large limit (v * 10 + x) (drop (suc i) s) (leb-false (v * 10 + x) limit t))

      pub scans_more : leb (v * 10 + x) limit ≡ true → Scans limit s (v * 10 + x) (i + 1)
      scans_more t =
          record { within = omega arith; small = leb-true (v * 10 + x) limit t; left = further ∙ rw (add-one i) }
