-- A number as text: its decimal digits, the highest first, with no sign and no zero in front.
use Rattle.std.specs.Prelude.{ℕ, Option, Some, None, zero, suc, ◌+◌, ◌-◌, ◌*◌, ◌/◌, ◌%◌, Bool, true, false, not, ◌&&◌, List, [], ◌∷◌, ◌++◌, leb, ltb, eqb, length, replicate}
use Rattle.bits.specs.Refusals.{pick}
use Rattle.decimal.specs.declared.Digits.{Digits}

-- the digits of n in front of a text; k only bounds how many digits there can be
unfoldable pub spelled : ℕ → ℕ → List ℕ → List ℕ
spelled zero n text = text
spelled (suc k) n text = pick (ltb n 10) ((48 + n) ∷ text) (spelled k (n / 10) ((48 + n % 10) ∷ text))

-- the text of a number: `0` is 48; a number below suc n has at most n + 1 digits
unfoldable pub decimal : ℕ → List ℕ
decimal n = spelled (suc n) n []

-- the same at the end of 20 bytes, which any number below 2^64 has room in; the bytes before it are 0
unfoldable pub digits_of : ℕ → Digits
digits_of n = record { bytes = replicate (20 - length (decimal n)) 0 ++ decimal n; start = 20 - length (decimal n) }

-- the bytes `0` to `9`
abbrev pub is_digit : ℕ → Bool
is_digit b = leb 48 b && leb b 57

unfoldable pub digits_alone : List ℕ → Bool
digits_alone [] = true
digits_alone (b ∷ text) = is_digit b && digits_alone text

-- something stands there, and no zero stands in front of other digits
unfoldable pub leads : List ℕ → Bool
leads [] = false
leads (b ∷ []) = true
leads (b ∷ c ∷ text) = not (eqb b 48)

-- the exact number that digits make, behind those that made v
unfoldable pub value_from : ℕ → List ℕ → ℕ
value_from v [] = v
value_from v (b ∷ text) = value_from (v * 10 + (b - 48)) text

-- a number that was read; where the text is no number, or one over the limit, not good and 0
pub record Parsed : Type 0 where
  pub good : Bool
  pub value : ℕ

-- what is answered of it
abbrev pub told : Parsed → Option ℕ
told p = pick p.good (Some p.value) None

abbrev pub good : ℕ → Parsed
good n = record { good = true; value = n }

abbrev pub bad : Parsed
bad = record { good = false; value = 0 }

-- digits alone, and within the limit
unfoldable pub judged : ℕ → ℕ → List ℕ → Parsed
judged limit v text = pick (digits_alone text && leb (value_from v text) limit) (good (value_from v text)) bad

-- a text read as a number: `00`, `+1` and nothing at all are bad, and so is a number over the limit
unfoldable pub parsed : ℕ → List ℕ → Parsed
parsed limit text = pick (leads text) (judged limit 0 text) bad
