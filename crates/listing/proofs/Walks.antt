-- Laws of a section's line, and of the lines of all sections one behind the other.
use Rattle.std.proofs.Common.{ℕ, suc, ◌+◌, ◌-◌, ◌*◌, ◌≤◌, ◌<◌, arith, add-one, ◌≡◌, refl, ap, List, [], ◌∷◌, ◌++◌, map, length, get_or, Option, Some, None}
use Rattle.decimal.specs.Decimal.{decimal}
use Rattle.grid.specs.declared.Rect.{Rect}
use Rattle.listing.specs.declared.rows.Row.{Row}
use Rattle.listing.specs.Private.{Put}
use Rattle.listing.specs.Text.{joined, column, kind_name, sides_of, columns_of, row_text, rows_from}
use Rattle.listing.proofs.Putting.{then, named, Leaves, leaves_all, leaves_less, leaves_none}

-- a line: its number, its kind's name, and its columns
sides_long : (q : Option Rect) → length (sides_of q) ≡ 4
sides_long (Some r) = refl
sides_long None = refl

-- taken apart and put together again
pub sides_each : (q : Option Rect) (l : List (Option ℕ)) → l ≡ sides_of q
    → ◌≡◌ {A = List (Option ℕ)} (get_or l 0 None ∷ get_or l 1 None ∷ get_or l 2 None ∷ get_or l 3 None ∷ []) (sides_of q)
sides_each (Some r) l e = rw e
sides_each None l e = rw e

pub row_put : {l0 l1 l2 l3 : List ℕ} {i0 i1 i2 i3 : ℕ} (r : Row) (columns : List (Option ℕ)) → columns ≡ columns_of r
    → Put l0 i0 (decimal r.section) l1 i1 × (i1 ≤ i0 + 20)
    → Put l1 i1 (9 ∷ kind_name r.kind) l2 i2 × (i2 ≤ i1 + 10)
    → Put l2 i2 (joined (map column columns)) l3 i3 × (i3 ≤ i2 + 21 * length columns + 1)
    → Put l0 i0 (row_text r) l3 i3 × (i3 ≤ i0 + 256)
unfolding row_text columns_of
row_put r columns e p q c =
    let all = rw e at c in
    (then p.0 (then q.0 all.0), omega (arith, p.1, q.1, all.1, sides_long r.rect))

-- ---- the walk over the sections

-- the lines from section i on are still to be put
pub record Lists (row : ℕ → Row) (before : List ℕ) (at count : ℕ) (out : List ℕ) (end i : ℕ) : Type 0 where
  pub within : i ≤ count
  pub small : end ≤ at + 256 * i
  pub leaves : Leaves before at (rows_from row count 0) out end (rows_from row (count - i) i)

pub lists_all : (row : ℕ → Row) (before : List ℕ) (at count : ℕ) → Lists row before at count before at 0
lists_all row before at count =
    let all : count - 0 ≡ count = omega arith in
    record { within = omega arith; small = omega arith; leaves = rw all (leaves_all before at (rows_from row count 0)) }

rows_suc : (row : ℕ → Row) (n m i : ℕ) → n ≡ suc m → rows_from row n i ≡ row_text (row i) ++ rows_from row m (i + 1)
unfolding rows_from
rows_suc row n m i e = rw (e, add-one i)

rows_end : (row : ℕ → Row) (n i : ℕ) → n ≡ 0 → rows_from row n i ≡ []
unfolding rows_from
rows_end row n i e = rw e

module _ (row : ℕ → Row) (before : List ℕ) (at count : ℕ) (out : List ℕ) (end i : ℕ) (w : Lists row before at count out end i) where
  pub lists_less : {out' : List ℕ} {end' : ℕ} (r : Row) → i < count → r ≡ row i → Put out end (row_text r) out' end' × (end' ≤ end + 256)
      → Lists row before at count out' end' (i + 1)
  lists_less r h e p =
      let rest : List ℕ = rows_from row (count - (i + 1)) (i + 1) in
      let one : rows_from row (count - i) i ≡ row_text (row i) ++ rest = rows_suc row (count - i) (count - (i + 1)) i (omega arith) in
      record { within = omega arith; small = omega (arith, w.small, p.1); leaves = leaves_less rest (rw one at w.leaves) (named (ap row_text e) p.0) }

  pub lists_none : count ≤ i → at ≤ 4096 → count ≤ 65536 → Put before at (rows_from row count 0) out end × (end ≤ 16781312)
  lists_none h a few =
      let none : rows_from row (count - i) i ≡ [] = rows_end row (count - i) i (omega arith) in
      (leaves_none (rw none at w.leaves), omega (arith, w.small, w.within))
