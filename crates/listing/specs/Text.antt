-- The listing's text: lines of columns with a tab between two, and a line feed after each line.
use Rattle.std.specs.Prelude.{ℕ, zero, suc, List, [], ◌∷◌, ◌++◌, map, Option, Some, None}
use Rattle.bits.specs.declared.Refusal.{Refusal}
use Rattle.decimal.specs.Decimal.{decimal}
use Rattle.grid.specs.declared.Rect.{Rect}
use Rattle.sections.specs.declared.TocGroupKind.{TocGroupKind}
use Rattle.sections.specs.declared.TocGroupKind.TheVariants.{All, LfGlobal, LfGroup, HfGlobal, GroupPass}
use Rattle.listing.specs.declared.rows.Row.{Row}

-- the columns behind another, a tab (9) before each; then the line feed (10)
abbrev pub joined : List (List ℕ) → List ℕ
joined [] = 10 ∷ []
joined (column ∷ more) = (9 ∷ column) ++ joined more

-- a line of columns
abbrev pub line : List ℕ → List (List ℕ) → List ℕ
line first more = first ++ joined more

-- a column with a number, or `-` (45) where it has nothing
unfoldable pub column : Option ℕ → List ℕ
column (Some n) = decimal n
column None = 45 ∷ []

-- the first line: `section`, `kind`, `pass`, `group`, `sent`, `offset`, `size`, `left`, `top`, `width`, `height`
unfoldable pub heading : List ℕ
heading =
    line (115 ∷ 101 ∷ 99 ∷ 116 ∷ 105 ∷ 111 ∷ 110 ∷ [])
    ((107 ∷ 105 ∷ 110 ∷ 100 ∷ []) ∷
    (112 ∷ 97 ∷ 115 ∷ 115 ∷ []) ∷
    (103 ∷ 114 ∷ 111 ∷ 117 ∷ 112 ∷ []) ∷
    (115 ∷ 101 ∷ 110 ∷ 116 ∷ []) ∷
    (111 ∷ 102 ∷ 102 ∷ 115 ∷ 101 ∷ 116 ∷ []) ∷
    (115 ∷ 105 ∷ 122 ∷ 101 ∷ []) ∷
    (108 ∷ 101 ∷ 102 ∷ 116 ∷ []) ∷
    (116 ∷ 111 ∷ 112 ∷ []) ∷
    (119 ∷ 105 ∷ 100 ∷ 116 ∷ 104 ∷ []) ∷
    (104 ∷ 101 ∷ 105 ∷ 103 ∷ 104 ∷ 116 ∷ []) ∷ [])

-- the kinds by name
unfoldable pub kind_name : TocGroupKind → List ℕ
kind_name All = 65 ∷ 108 ∷ 108 ∷ []
kind_name LfGlobal = 76 ∷ 102 ∷ 71 ∷ 108 ∷ 111 ∷ 98 ∷ 97 ∷ 108 ∷ []
kind_name (LfGroup i) = 76 ∷ 102 ∷ 71 ∷ 114 ∷ 111 ∷ 117 ∷ 112 ∷ []
kind_name HfGlobal = 72 ∷ 102 ∷ 71 ∷ 108 ∷ 111 ∷ 98 ∷ 97 ∷ 108 ∷ []
kind_name (GroupPass p i) = 71 ∷ 114 ∷ 111 ∷ 117 ∷ 112 ∷ 80 ∷ 97 ∷ 115 ∷ 115 ∷ []

-- a GroupPass shows its pass; it and an LfGroup show their group
abbrev pub pass_of : TocGroupKind → Option ℕ
pass_of All = None
pass_of LfGlobal = None
pass_of (LfGroup i) = None
pass_of HfGlobal = None
pass_of (GroupPass p i) = Some p

abbrev pub group_of : TocGroupKind → Option ℕ
group_of All = None
group_of LfGlobal = None
group_of (LfGroup i) = Some i
group_of HfGlobal = None
group_of (GroupPass p i) = Some i

-- a rectangle's four columns
abbrev pub sides_of : Option Rect → List (Option ℕ)
sides_of None = None ∷ None ∷ None ∷ None ∷ []
sides_of (Some r) = Some r.left ∷ Some r.top ∷ Some r.width ∷ Some r.height ∷ []

-- the columns behind the kind's name
unfoldable pub columns_of : Row → List (Option ℕ)
columns_of r = pass_of r.kind ∷ group_of r.kind ∷ Some r.sent ∷ Some r.offset ∷ Some r.size ∷ sides_of r.rect

-- a section's line
unfoldable pub row_text : Row → List ℕ
row_text r = line (decimal r.section) (kind_name r.kind ∷ map column (columns_of r))

-- n lines from section i on
unfoldable pub rows_from : (ℕ → Row) → ℕ → ℕ → List ℕ
rows_from row zero i = []
rows_from row (suc n) i = row_text (row i) ++ rows_from row n (suc i)

-- the last line: `total` and the sum of the sizes
unfoldable pub total_text : ℕ → List ℕ
total_text n = line (116 ∷ 111 ∷ 116 ∷ 97 ∷ 108 ∷ []) (decimal n ∷ [])

-- `refused`, the refusal's number and its place
unfoldable pub refused_text : Refusal → List ℕ
refused_text r = line (114 ∷ 101 ∷ 102 ∷ 117 ∷ 115 ∷ 101 ∷ 100 ∷ []) (decimal r.number ∷ decimal r.place ∷ [])

-- `order` and the place after the permuted flag
unfoldable pub order_text : ℕ → List ℕ
order_text place = line (111 ∷ 114 ∷ 100 ∷ 101 ∷ 114 ∷ []) (decimal place ∷ [])
