-- Laws of a number within a text: the byte that ends it, what stands before that and what stands behind.
use Rattle.std.proofs.Common.{ℕ, suc, ◌+◌, ◌-◌, ◌≤◌, ◌<◌, max, arith, add-zero, add-one, ◌≡◌, refl, sym, ◌∙◌, ap, Bool, true, false, ◌&&◌, List, [], ◌∷◌, eqb, leb, length, get_or, take, drop, length-drop, drop_of_length-le, drop-cons, drop-drop, eq-eqb, ne_eqb, lt-ltb, le-ltb, leb-true, Option, Some, None}
use native.Mathlib.Decide.{dec_le}
use mathlib.Core.Logic.{by_cases}
use Rattle.bits.specs.Refusals.{pick}
use Rattle.decimal.specs.declared.Step.{Step}
use Rattle.decimal.specs.Decimal.{Parsed, told, parsed, judged, good, bad, leads, digits_alone, value_from}
use Rattle.decimal.specs.UpTo.{up_to, behind, ended, numbered, find_at, number_at}

-- a text in two parts: what stands before the first stop, and what stands behind it
pub record Parted (text front rest : List ℕ) : Type 0 where
  pub before : take (length front) text ≡ front
  pub low : length front ≤ length text
  pub after : length front < length text → drop (suc (length front)) text ≡ rest
  pub none : length text ≤ length front → rest ≡ []

parted_by : (is : Bool) (b : ℕ) (text front rest : List ℕ) → Parted text front rest → Parted (b ∷ text) (pick is [] (b ∷ front)) (pick is text rest)
parted_by true b text front rest p = record { before = refl; low = omega arith; after = λ h. refl; none = λ h. absurd (omega arith) }
parted_by false b text front rest p =
    record { before = ap (λ (l : List ℕ). b ∷ l) p.before; low = omega (arith, p.low); after = λ h. p.after (omega arith); none = λ h. p.none (omega arith) }

pub parted : (stop : ℕ) (text : List ℕ) → Parted text (up_to stop text) (behind stop text)
unfolding up_to behind
parted stop [] = record { before = refl; low = omega arith; after = λ h. absurd (omega arith); none = λ h. refl }
parted stop (b ∷ text) = parted_by (eqb b stop) b text (up_to stop text) (behind stop text) (parted stop text)

-- ---- the walk: up to index i no byte was it

module _ (s : List ℕ) (stop i : ℕ) where
  find_past : (at : ℕ) → length s ≤ at → at ≡ find_at s at stop
  unfolding up_to
  find_past at h = sym (rw (drop_of_length-le s h) (add-zero at))

  pub find_here : i < length s → get_or s i 0 ≡ stop → i ≡ find_at s i stop
  unfolding up_to
  find_here h e = sym (rw (drop-cons s i 0 h, eq-eqb (get_or s i 0) stop e) (add-zero i))

  pub find_further : i < length s → (get_or s i 0 ≡ stop → ⊥) → find_at s i stop ≡ find_at s (i + 1) stop
  unfolding up_to
  find_further h n = rw (add-one i, drop-cons s i 0 h, ne_eqb (get_or s i 0) stop n) (omega arith)

  -- none up to an index at or behind the end
  pub find_none : (at : ℕ) → length s ≤ i → (at ≤ length s → i ≤ length s) → find_at s at stop ≡ find_at s i stop → max at (length s) ≡ find_at s at stop
  find_none at h g e =
      by_cases (dec_le at (length s))
      (λ y. let end : max at (length s) ≡ i = omega (arith, y, g y) in end ∙ find_past i h ∙ sym e)
      (λ y.
      let end : max at (length s) ≡ at = omega (arith, y) in
      end ∙ find_past at (omega (arith, y)))

-- ---- the number

module _ (s : List ℕ) (at stop limit : ℕ) where
  abbrev text : List ℕ
  text = drop at s

  abbrev front : List ℕ
  front = up_to stop text

  there : length front < length text → ended stop text ≡ true
  there h = lt-ltb (length front) (length text) h

  missing : length text ≤ length front → ended stop text ≡ false
  missing h = le-ltb (length front) (length text) h

  pub stepped_not : (end : ℕ) → end ≡ find_at s at stop → length s ≤ end → ◌≡◌ {A = Step} (record { number = None; next = end }) (number_at s at stop limit)
  unfolding number_at numbered
  stepped_not end e h = sym (rw (missing (omega (arith, length-drop at s)), ← e))

  pub stepped_is : (end : ℕ) → end ≡ find_at s at stop → end < length s → (p : Option ℕ) → p ≡ told (parsed limit (take (end - at) text))
      → ◌≡◌ {A = Step} (record { number = p; next = end + 1 }) (number_at s at stop limit)
  unfolding number_at numbered
  stepped_is end e h p ep =
      let long : end - at ≡ length front = omega arith in
      let word : p ≡ told (parsed limit front) = ep ∙ rw (long, (parted stop text).before) in
      sym (rw (there (omega (arith, length-drop at s)), ← e, ← word))

  -- what stands behind it, and that this is still within the text
  pub number_rest : drop (number_at s at stop limit).next s ≡ behind stop text
  unfolding number_at
  number_rest =
      by_cases (dec_le (suc (length front)) (length text))
      (λ y.
      let next : find_at s at stop + 1 ≡ at + suc (length front) = omega arith in
      rw (there y, next, ← drop-drop (suc (length front)) at s) ((parted stop text).after y))
      (λ y.
      let none : length text ≤ length front = omega (arith, y) in
      let end : length s ≤ find_at s at stop = omega (arith, length-drop at s) in
      rw (missing none, drop_of_length-le s end) (sym ((parted stop text).none none)))

  pub number_within : at ≤ length s → (number_at s at stop limit).next ≤ length s
  unfolding number_at
  number_within h =
      by_cases (dec_le (suc (length front)) (length text))
      (λ y. rw (there y) (omega (arith, y, length-drop at s)))
      (λ y. rw (missing (omega (arith, y))) (omega (arith, length-drop at s, (parted stop text).low)))

-- ---- what is told of a number

told_by : (b : Bool) (v w : ℕ) → pick b (Some v) None ≡ Some w → (b ≡ true) × (v ≡ w)
told_by true v w e = (refl, cc)
told_by false v w e = absurd (cc)

told_not : (b : Bool) (v : ℕ) → pick b (Some v) None ≡ None → b ≡ false
told_not true v e = absurd (cc)
told_not false v e = refl

pub told_some : (p : Parsed) (v : ℕ) → told p ≡ Some v → (p.good ≡ true) × (p.value ≡ v)
told_some p v e = told_by p.good p.value v e

pub told_none : (p : Parsed) → told p ≡ None → p.good ≡ false
told_none p e = told_not p.good p.value e

-- ---- a number is within its limit

pick_small : (b : Bool) (p q : Parsed) (limit : ℕ) → p.value ≤ limit → q.value ≤ limit → (pick b p q).value ≤ limit
pick_small true p q limit h g = h
pick_small false p q limit h g = g

both_small : (a b : Bool) (v limit : ℕ) → (b ≡ true → v ≤ limit) → (pick (a && b) (good v) bad).value ≤ limit
both_small true true v limit h = h refl
both_small true false v limit h = omega arith
both_small false b v limit h = omega arith

pub parsed_small : (limit : ℕ) (text : List ℕ) → (parsed limit text).value ≤ limit
unfolding parsed judged
parsed_small limit text =
    pick_small (leads text) (judged limit 0 text) bad limit
    (both_small (digits_alone text) (leb (value_from 0 text) limit) (value_from 0 text) limit (leb-true (value_from 0 text) limit)) (omega arith)

pub numbered_small : (stop limit : ℕ) (text : List ℕ) → (numbered stop limit text).value ≤ limit
unfolding numbered
numbered_small stop limit text = pick_small (ended stop text) (parsed limit (up_to stop text)) bad limit (parsed_small limit (up_to stop text)) (omega arith)
