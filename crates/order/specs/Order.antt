-- What an order is, and what is refused of a lent one.
use Rattle.std.specs.Prelude.{ℕ, List, [], ◌∷◌, Bool, true, false, not, ◌&&◌, ◌||◌, length, eqb, ltb}
use Rattle.bits.specs.declared.Refusal.{Refusal}
use Rattle.bits.specs.Refusals.{pick, refusal, none}

-- whether a number occurs among the entries
unfoldable pub has : ℕ → List ℕ → Bool
has k [] = false
has k (x ∷ l) = eqb x k || has k l

-- whether every entry is below count
unfoldable pub all_below : ℕ → List ℕ → Bool
all_below count [] = true
all_below count (x ∷ l) = ltb x count && all_below count l

-- whether no entry occurs twice
unfoldable pub distinct : List ℕ → Bool
distinct [] = true
distinct (x ∷ l) = not (has x l) && distinct l

-- an order of count sections: exactly count entries, each below count, none twice
unfoldable pub is_order : ℕ → List ℕ → Bool
is_order count l = eqb (length l) count && (all_below count l && distinct l)

-- 10 over 65,536 sections; then 13 exactly when the entries are no order
unfoldable pub checked : ℕ → List ℕ → Refusal
checked count l = pick (ltb 65536 count) (refusal 10 0) (pick (is_order count l) none (refusal 13 0))
