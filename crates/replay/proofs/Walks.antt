-- Walks: numbers into a sum, and values of a rule into a slice, one a turn; and how much of a slice is lent.
use Rattle.std.proofs.Common.{◌≡◌, sym, ℕ, suc, ◌+◌, ◌-◌, ◌<◌, ◌≤◌, Bool, List, length, get_or, set, drop, min, add-one, arith, length-take-le}
use Rattle.std.proofs.lemmas.List.{at_drop_more, at_drop_all}
use Rattle.std.proofs.lemmas.List.Edits.{sets}
use Rattle.replay.specs.Counts.{IsPrefixLen}
use Rattle.replay.specs.Sums.{mixed, summed_by}
use Rattle.replay.specs.Words.{listed}

-- what is left of a walk makes of the sum so far what it was to make of the sum before
pub summed_more : {A : Type 0} (f : A → ℕ) (xs : List A) (i : ℕ) (x : A) (big : Bool) (sum n next : ℕ) {all : ℕ} → i < length xs → x ≡ get_or xs i x
    → n ≡ f x → next ≡ mixed big sum n → summed_by f big sum (drop i xs) ≡ all → summed_by f big next (drop (i + 1) xs) ≡ all
unfolding summed_by
summed_more f xs i x big sum n next h e en em left = rw (em, en, e) (rw (at_drop_more (summed_by f big sum) xs i x h) at left)

pub summed_last : {A : Type 0} (f : A → ℕ) (xs : List A) (i : ℕ) (big : Bool) (sum : ℕ) {all : ℕ} → length xs ≤ i
    → summed_by f big sum (drop i xs) ≡ all → sum ≡ all
unfolding summed_by
summed_last f xs i big sum h left = rw (at_drop_all (summed_by f big sum) xs i h) at left

-- what is left to put makes of the slice as it is what all make of the slice as it was
pub record Placing (f : ℕ → ℕ) (n : ℕ) (before out : List ℕ) (i : ℕ) : Type 0 where
  pub left : sets out i (listed f i (n - i)) ≡ sets before 0 (listed f 0 n)

module _ (f : ℕ → ℕ) (n i : ℕ) {before out : List ℕ} where
  pub placing_more : (v : ℕ) {after : List ℕ} → i < n → Placing f n before out i → after ≡ set out i v → v ≡ f i → Placing f n before after (i + 1)
  unfolding listed
  placing_more v h so_far e ev =
      let one : n - i ≡ suc (n - (i + 1)) = omega arith in
      record { left = rw (e, ev, add-one i) (rw (one, add-one i) at so_far.left) }

  pub placing_all : n ≤ i → Placing f n before out i → out ≡ sets before 0 (listed f 0 n)
  unfolding listed
  placing_all h so_far =
      let none : n - i ≡ 0 = omega arith in
      rw none at so_far.left

-- as much as is asked for, as far as it goes
pub roomed : {A : Type 0} (xs : List A) (n r : ℕ) → r ≡ min n (length xs) → (r ≡ min n (length xs)) × IsPrefixLen r xs
roomed xs n r e =
    let within : r ≤ length xs = omega arith in
    (e, (within, sym (length-take-le r xs within)))
