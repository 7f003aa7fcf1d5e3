-- The tables that an order gives: its inverse, the identity, and what a lent table holds after it was filled.
use Rattle.std.specs.Prelude.{ℕ, zero, suc, List, [], ◌∷◌, ◌++◌, length, take, drop, eqb, ltb}
use Rattle.bits.specs.declared.Refusal.{Refusal}
use Rattle.bits.specs.Refusals.{pick, refusal}
use Rattle.order.specs.Order.{checked}

-- f 0, f 1, .., f (n - 1)
unfoldable pub tabulate : ℕ → (ℕ → ℕ) → List ℕ
tabulate zero f = []
tabulate (suc n) f = f 0 ∷ tabulate n (λ k. f (suc k))

-- where a number stands first among the entries
unfoldable pub index_of : ℕ → List ℕ → ℕ
index_of k [] = 0
index_of k (x ∷ l) = pick (eqb x k) 0 (suc (index_of k l))

-- the inverse: at sent number k stands the section j with order[j] = k
unfoldable pub inverse_of : ℕ → List ℕ → List ℕ
inverse_of count order = tabulate count (λ k. index_of k order)

-- both orders of a table that is not permuted
unfoldable pub identity : ℕ → List ℕ
identity count = tabulate count (λ k. k)

-- only used places are written: the first words are the new ones, as far as the table goes; the words behind them stay
unfoldable pub filled : List ℕ → List ℕ → List ℕ
filled new table = take (length table) new ++ drop (length new) table

-- 10, then 3 where the table is shorter than count, then 13
unfoldable pub inverted : ℕ → List ℕ → List ℕ → Refusal
inverted count order table =
    pick (ltb 65536 count) (refusal 10 0) (pick (ltb (length table) count) (refusal 3 0) (checked count order))

-- accepted, the table's first count words are the inverse; refused, it is as it was
unfoldable pub inverse_after : ℕ → List ℕ → List ℕ → List ℕ
inverse_after count order table =
    pick (eqb (inverted count order table).number 0) (filled (inverse_of count order) table) table
