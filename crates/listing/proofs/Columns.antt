-- Laws of numbers, columns and names put as text.
use Rattle.std.proofs.Common.{ℕ, ◌+◌, ◌*◌, ◌-◌, ◌≤◌, ◌<◌, ◌^◌, add-one, arith, ◌≡◌, sym, ap, List, [], ◌∷◌, ◌++◌, map, length, get_or, set, drop, replicate, drop_of_length-le, drop_at, drop-cons, Option, Some, None}
use lib.ListN.{length-replicate}
use Rattle.decimal.specs.declared.Digits.{Digits}
use Rattle.decimal.specs.Decimal.{decimal, digits_of}
use Rattle.decimal.proofs.Spelling.{decimal_long}
use Rattle.sections.specs.declared.TocGroupKind.{TocGroupKind}
use Rattle.sections.specs.declared.TocGroupKind.TheVariants.{All, LfGlobal, LfGroup, HfGlobal, GroupPass}
use Rattle.listing.specs.Private.{Put}
use Rattle.listing.specs.Text.{joined, column, kind_name}
use Rattle.listing.proofs.Putting.{then, put_one, named, Leaves, leaves_all, leaves_less, leaves_none}

-- the digits at the end of their bytes
pub digits_text : (n : ℕ) (d : Digits) (t : List ℕ) → d ≡ digits_of n → t ≡ drop d.start d.bytes → t ≡ decimal n
unfolding digits_of
digits_text n d t e w =
    let l = length (decimal n) in
    rw (w, e) (drop_at (replicate (20 - l) 0) (decimal n) (20 - l) (length-replicate (20 - l) 0))

pub number_small : (n : ℕ) (t : List ℕ) → n < 2 ^ 64 → t ≡ decimal n → length t ≤ 20
number_small n t h e = rw e (decimal_long 19 n (omega arith))

pub number_put : {l m : List ℕ} {i j : ℕ} (n : ℕ) (t : List ℕ) → n < 2 ^ 64 → t ≡ decimal n → Put l i t m j → Put l i (decimal n) m j × (j ≤ i + 20)
number_put {l} {m} {i} {j} n t h e p = (named e p, omega (arith, p.behind, number_small n t h e))

-- a tab, and a text behind it
tabbed : {l k t : List ℕ} {i j : ℕ} (m : List ℕ) → m ≡ set l i 9 → Put m (i + 1) t k j → Put l i (9 ∷ t) k j
tabbed {l} {k} {t} {i} {j} m e p = then (put_one l m i 9 e) p

pub column_dash : {l m : List ℕ} {i j : ℕ} (shown : Option ℕ) → shown ≡ None → Put l i (9 ∷ 45 ∷ []) m j → Put l i (9 ∷ column shown) m j × (j ≤ i + 21)
unfolding column
column_dash {l} {m} {i} {j} shown e p = (named (ap (λ (x : List ℕ). 9 ∷ x) (sym (rw e))) p, omega (arith, p.behind))

pub column_number : {l k : List ℕ} {i j : ℕ} (m : List ℕ) (shown : Option ℕ) (n : ℕ) → shown ≡ Some n → m ≡ set l i 9 → Put m (i + 1) (decimal n) k j × (j ≤ i + 1 + 20)
    → Put l i (9 ∷ column shown) k j × (j ≤ i + 21)
unfolding column
column_number {l} {k} {i} {j} m shown n h e p = (named (ap (λ (x : List ℕ). 9 ∷ x) (sym (rw h))) (tabbed m e p.0), omega (arith, p.1))

-- a kind's name is short
pub kind_short : (kind : TocGroupKind) → length (kind_name kind) ≤ 9
unfolding kind_name
kind_short All = omega arith
kind_short LfGlobal = omega arith
kind_short (LfGroup i) = omega arith
kind_short HfGlobal = omega arith
kind_short (GroupPass p i) = omega arith

pub name_put : {l k : List ℕ} {i j : ℕ} (m : List ℕ) (kind : TocGroupKind) (t : List ℕ) → t ≡ kind_name kind → m ≡ set l i 9 → Put m (i + 1) t k j
    → Put l i (9 ∷ kind_name kind) k j × (j ≤ i + 10)
name_put {l} {k} {i} {j} m kind t h e p = (tabbed m e (named h p), omega (arith, p.behind, ap length h, kind_short kind))

-- ---- the columns of a line

-- those from i on are still to be put
pub record Cells (columns : List (Option ℕ)) (before : List ℕ) (at : ℕ) (out : List ℕ) (end i : ℕ) : Type 0 where
  pub small : end ≤ at + 21 * i
  pub leaves : Leaves before at (joined (map column columns)) out end (joined (map column (drop i columns)))

pub cells_all : (columns : List (Option ℕ)) (before : List ℕ) (at : ℕ) → Cells columns before at before at 0
cells_all columns before at = record { small = omega arith; leaves = leaves_all before at (joined (map column columns)) }

module _ (columns : List (Option ℕ)) (before : List ℕ) (at : ℕ) (out : List ℕ) (end i : ℕ) (w : Cells columns before at out end i) where
  pub cells_less : {out' : List ℕ} {end' : ℕ} (d : Option ℕ) → i < length columns → Put out end (9 ∷ column (get_or columns i d)) out' end' × (end' ≤ end + 21)
      → Cells columns before at out' end' (i + 1)
  cells_less {out'} {end'} d h p =
      let one : joined (map column (drop i columns)) ≡ (9 ∷ column (get_or columns i d)) ++ joined (map column (drop (i + 1) columns)) =
      rw (add-one i, drop-cons columns i d h) in
      record { small = omega (arith, w.small, p.1); leaves = leaves_less (joined (map column (drop (i + 1) columns))) (rw one at w.leaves) p.0 }

  pub cells_none : {out' : List ℕ} {end' : ℕ} → length columns ≤ i → i ≤ length columns → Put out end (10 ∷ []) out' end'
      → Put before at (joined (map column columns)) out' end' × (end' ≤ at + 21 * length columns + 1)
  cells_none h k p = (leaves_none (leaves_less [] (rw (drop_of_length-le columns h) at w.leaves) p), omega (arith, w.small, p.behind))
