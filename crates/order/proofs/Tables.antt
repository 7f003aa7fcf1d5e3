-- Laws of tables: words computed one after the other, and a lent table whose first words are new.
use Prim.Native.Nat.{ℕ, zero, suc, ◌+◌, ◌-◌, ◌≤◌, ◌<◌}
use native.Mathlib.Omega.{arith}
use native.Mathlib.Nat.{not-suc-le-zero, le_of_suc-le-suc}
use native.Mathlib.Decide.{dec_le}
use mathlib.Core.Path.{◌≡◌, refl, sym, ◌∙◌, ap}
use mathlib.Core.Logic.{by_cases, inr}
use mathlib.Core.List.{List, ◌++◌}
use lib.ListN.{length, get_or, take, drop, length-append, length-take, length-drop, get_or-append}
use lib.Seq.{sets, length-sets, get_or-append-add, get_or-drop, get_or-take, take_all, ext_get_or}
use Rattle.fill.proofs.Filling.{sets_inside, sets_outside}
use Rattle.order.specs.Tables.{tabulate, filled}

-- two tables of count words that agree at each
pub same_words : (count : ℕ) (l m : List ℕ) → length l ≡ count → length m ≡ count → ((j : ℕ) → j < count → get_or l j 0 ≡ get_or m j 0) → l ≡ m
same_words count l m el em same = ext_get_or 0 l m (el ∙ sym em) (λ j h. same j (omega arith))

pub length_tabulate : (n : ℕ) (f : ℕ → ℕ) → length (tabulate n f) ≡ n
unfolding tabulate
length_tabulate zero f = refl
length_tabulate (suc n) f = ap suc (length_tabulate n (λ k. f (suc k)))

pub get_d_tabulate : (n : ℕ) (f : ℕ → ℕ) (k : ℕ) → k < n → get_or (tabulate n f) k 0 ≡ f k
unfolding tabulate
get_d_tabulate zero f k h = absurd (not-suc-le-zero h)
get_d_tabulate (suc n) f zero h = refl
get_d_tabulate (suc n) f (suc k) h = get_d_tabulate n (λ i. f (suc i)) k (le_of_suc-le-suc h)

pub tabulate_ext : (n : ℕ) (f g : ℕ → ℕ) → ((k : ℕ) → k < n → f k ≡ g k) → tabulate n f ≡ tabulate n g
tabulate_ext n f g same =
    same_words n (tabulate n f) (tabulate n g) (length_tabulate n f) (length_tabulate n g)
    (λ k h. get_d_tabulate n f k h ∙ same k h ∙ sym (get_d_tabulate n g k h))

module _ (new table : List ℕ) where
  pub filled_length : length (filled new table) ≡ length table
  unfolding filled
  filled_length =
      omega (
        arith,
        length-append (take (length table) new) (drop (length new) table),
        length-take (length table) new,
        length-drop (length new) table,
      )

  pub filled_at : (i : ℕ) → i < length new → i < length table → get_or (filled new table) i 0 ≡ get_or new i 0
  unfolding filled
  filled_at i h k =
      get_or-append (take (length table) new) (drop (length new) table) 0 i (omega (arith, length-take (length table) new))
      ∙ get_or-take (length table) new i 0 k

  pub filled_behind : (i : ℕ) → length new ≤ i → i < length table → get_or (filled new table) i 0 ≡ get_or table i 0
  unfolding filled
  filled_behind i h k =
      let split : i ≡ length new + (i - length new) = omega arith in
      rw (take_all (length table) new (omega arith))
      (ap (λ (k : ℕ). get_or (new ++ drop (length new) table) k 0) split
      ∙ get_or-append-add new (drop (length new) table) (i - length new) 0
      ∙ get_or-drop (length new) table (i - length new) 0
      ∙ ap (λ (k : ℕ). get_or table k 0) (sym split))

  -- what agrees with the new words in front and with the old ones behind
  pub filled_by : (t : List ℕ) → length t ≡ length table → ((i : ℕ) → i < length new → i < length table → get_or t i 0 ≡ get_or new i 0)
      → ((i : ℕ) → length new ≤ i → i < length table → get_or t i 0 ≡ get_or table i 0) → t ≡ filled new table
  filled_by t len front behind =
      same_words (length table) t (filled new table) len filled_length (λ i h.
      by_cases (dec_le (suc i) (length new))
      (λ y. front i y h ∙ sym (filled_at i y h))
      (λ y. behind i (omega (arith, y)) h ∙ sym (filled_behind i (omega (arith, y)) h)))

-- values that are put from the first place on
pub filled_sets : (new table : List ℕ) → sets table 0 new ≡ filled new table
filled_sets new table =
    filled_by new table (sets table 0 new) (length-sets table 0 new)
    (λ i h k. let here : i - 0 ≡ i = omega arith in sets_inside 0 new table 0 i (omega arith) (omega arith) k ∙ ap (λ (j : ℕ). get_or new j 0) here)
    (λ i h k. sets_outside 0 new table 0 i (inr (omega arith)))
