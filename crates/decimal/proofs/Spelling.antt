-- Laws of writing a number: one digit, one digit more, and what stands behind.
use Rattle.std.proofs.Common.{ℕ, zero, suc, ◌+◌, ◌-◌, ◌/◌, ◌%◌, ◌^◌, ◌≤◌, ◌<◌, arith, not-suc-le-zero, le_refl, ◌≡◌, refl, sym, ◌∙◌, ap, subst, List, [], ◌∷◌, ◌++◌, length, set, take, drop, replicate, length-append, length-set, length-drop, take-append-drop, drop_at, take-take, length-take-le, lt-ltb, le-ltb}
use native.Mathlib.Decide.{dec_le}
use mathlib.Core.Logic.{by_cases}
use lib.Seq.{set_split, take-set-le}
use Rattle.decimal.specs.declared.Digits.{Digits}
use Rattle.decimal.specs.Decimal.{spelled, decimal, digits_of}

-- any bound above the number serves
pub enough : (j k n : ℕ) (text : List ℕ) → n < j → n < k → spelled j n text ≡ spelled k n text
unfolding spelled
enough zero k n text h g = absurd (not-suc-le-zero h)
enough (suc j) zero n text h g = absurd (not-suc-le-zero g)
enough (suc j) (suc k) n text h g =
    by_cases (dec_le (suc n) 10)
    (λ y. rw (lt-ltb n 10 y))
    (λ y.
    let large : 10 ≤ n = omega (arith, y) in
    rw (le-ltb n 10 large) (enough j k (n / 10) ((48 + n % 10) ∷ text) (omega arith) (omega arith)))

-- the digits of n in front of a text
abbrev pub onto : ℕ → List ℕ → List ℕ
onto n text = spelled (suc n) n text

pub onto_small : (n : ℕ) (text : List ℕ) → n < 10 → onto n text ≡ (48 + n) ∷ text
unfolding spelled
onto_small n text h = rw (lt-ltb n 10 h)

pub onto_large : (n : ℕ) (text : List ℕ) → 10 ≤ n → onto n text ≡ onto (n / 10) ((48 + n % 10) ∷ text)
unfolding spelled
onto_large n text h = rw (le-ltb n 10 h) (enough n (suc (n / 10)) (n / 10) ((48 + n % 10) ∷ text) (omega arith) (omega arith))

spelled_behind : (k n : ℕ) (text more : List ℕ) → spelled k n (text ++ more) ≡ spelled k n text ++ more
unfolding spelled
spelled_behind zero n text more = refl
spelled_behind (suc k) n text more =
    by_cases (dec_le (suc n) 10)
    (λ y. rw (lt-ltb n 10 y))
    (λ y.
    let large : 10 ≤ n = omega (arith, y) in
    rw (le-ltb n 10 large) (spelled_behind k (n / 10) ((48 + n % 10) ∷ text) more))

pub onto_is : (n : ℕ) (text : List ℕ) → onto n text ≡ decimal n ++ text
unfolding decimal
onto_is n text = spelled_behind (suc n) n [] text

pub decimal_small : (n : ℕ) → n < 10 → decimal n ≡ (48 + n) ∷ []
unfolding decimal
decimal_small n h = onto_small n [] h

pub decimal_large : (n : ℕ) → 10 ≤ n → decimal n ≡ decimal (n / 10) ++ ((48 + n % 10) ∷ [])
unfolding decimal
decimal_large n h = onto_large n [] h ∙ onto_is (n / 10) ((48 + n % 10) ∷ [])

-- at most k digits below 10^k
pub decimal_long : (k n : ℕ) → n < 10 ^ suc k → length (decimal n) ≤ suc k
decimal_long zero n h = omega (arith, ap length (decimal_small n (omega arith)))
decimal_long (suc k) n h =
    by_cases (dec_le (suc n) 10)
    (λ y. omega (arith, ap length (decimal_small n y)))
    (λ y.
    let large : 10 ≤ n = omega (arith, y) in
    omega (arith, ap length (decimal_large n large), length-append (decimal (n / 10)) ((48 + n % 10) ∷ []), decimal_long k (n / 10) (omega arith)))

-- ---- the walk that writes from the end

-- so far the last bytes hold a text in front of which the digits of rest are still to stand
pub record Spells (n : ℕ) (bytes : List ℕ) (rest i : ℕ) : Type 0 where
  pub left : decimal n ≡ onto rest (drop i bytes)
  pub clear : take i bytes ≡ replicate i 0
  pub size : length bytes ≡ 20
  pub room : rest < 10 ^ i
  pub some : 0 < i
  pub within : i ≤ 20

pub spells_none : (n : ℕ) → n < 2 ^ 64 → Spells n (replicate 20 0) n 20
unfolding decimal
spells_none n h = record { left = refl; clear = refl; size = refl; room = omega arith; some = omega arith; within = omega arith }

fewer_zeros : (j : ℕ) → take {A = ℕ} j (replicate (suc j) 0) ≡ replicate j 0
fewer_zeros zero = refl
fewer_zeros (suc j) = ap (λ (l : List ℕ). 0 ∷ l) (fewer_zeros j)

-- a byte stored in front of the text
module _ (bytes : List ℕ) (j v : ℕ) (size : length bytes ≡ 20) (h : j < 20) where
  stored_text : drop j (set bytes j v) ≡ v ∷ drop (suc j) bytes
  stored_text =
      ap (λ (l : List ℕ). drop j l) (set_split bytes j v (omega arith))
      ∙ drop_at (take j bytes) (v ∷ drop (suc j) bytes) j (length-take-le j bytes (omega arith))

  stored_clear : take (suc j) bytes ≡ replicate (suc j) 0 → take j (set bytes j v) ≡ replicate j 0
  stored_clear e =
      take-set-le j bytes j v (le_refl j) ∙ sym (take-take j (suc j) bytes (omega arith)) ∙ ap (λ (l : List ℕ). take j l) e ∙ fewer_zeros j

-- with a digit still to come, there is a byte for it and one more
later : (rest i : ℕ) → 10 ≤ rest → rest < 10 ^ i → 1 < i
later rest zero h g = absurd (omega arith)
later rest (suc zero) h g = absurd (omega arith)
later rest (suc (suc i)) h g = omega arith

less : (rest i : ℕ) → rest < 10 ^ suc i → rest / 10 < 10 ^ i
less rest i h = omega arith

module _ (n : ℕ) (bytes : List ℕ) (rest i : ℕ) (w : Spells n bytes rest i) where
  spells_suc : i ≡ suc (i - 1)
  spells_suc = omega (arith, w.some)

  spells_clear : take (suc (i - 1)) bytes ≡ replicate (suc (i - 1)) 0
  spells_clear = subst (λ (k : ℕ). take k bytes ≡ replicate k 0) spells_suc w.clear

  pub spells_more : (v : ℕ) → v ≡ 48 + rest % 10 → 10 ≤ rest → Spells n (set bytes (i - 1) v) (rest / 10) (i - 1)
  spells_more v e h =
      let j = i - 1 in
      let more : 1 < i = later rest i h w.room in
      let small : j < 20 = omega (arith, w.some, w.within) in
      record {
        left =
            w.left
            ∙ onto_large rest (drop i bytes) h
            ∙ ap (λ (l : List ℕ). onto (rest / 10) l) (sym (stored_text bytes j v w.size small ∙ rw (← spells_suc, e)));
        clear = stored_clear bytes j v w.size small spells_clear;
        size = length-set bytes j v ∙ w.size;
        room = less rest j (rw (← spells_suc) w.room);
        some = omega arith;
        within = omega arith;
      }

  pub spells_last : (v : ℕ) → v ≡ 48 + rest → rest < 10 → ◌≡◌ {A = Digits} (record { bytes = set bytes (i - 1) v; start = i - 1 }) (digits_of n)
  unfolding digits_of
  spells_last v e h =
      let j = i - 1 in
      let small : j < 20 = omega (arith, w.some, w.within) in
      let text : drop j (set bytes j v) ≡ decimal n =
      stored_text bytes j v w.size small ∙ rw (← spells_suc, e) (sym (w.left ∙ onto_small rest (drop i bytes) h)) in
      let long : length (decimal n) ≡ 20 - j = sym (ap length text) ∙ length-drop j (set bytes j v) ∙ ap (λ (k : ℕ). k - j) (length-set bytes j v ∙ w.size) in
      let at : 20 - length (decimal n) ≡ j = omega arith in
      rw at (ap (λ (l : List ℕ). record { bytes = l; start = j })
      (sym (take-append-drop j (set bytes j v)) ∙ ap (λ (l : List ℕ). l ++ drop j (set bytes j v)) (stored_clear bytes j v w.size small spells_clear) ∙ rw text))
