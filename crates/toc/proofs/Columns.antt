-- The columns of a table of contents give back what was read: the law of bits' `Columns`. The paddings aren't kept; they are read as 0 or refused.
use Rattle.std.proofs.Common.{◌≡◌, ℕ, Bool, true, false, eqb, List, [], get_or, sym, refl, ap, zero-add}
use Rattle.bits.specs.declared.Read.{Read}
use Rattle.bits.specs.declared.Cursor.{Cursor}
use Rattle.bits.specs.Refusals.{pick}
use Rattle.bits.specs.Codec.{bool, padding, field}
use Rattle.bits.specs.Table.{Table, ends, read, bind, within, times}
use Rattle.bits.proofs.Rows.{Reads, row_then, bind_then, within_then, at_end}
use Rattle.bits.proofs.Columns.{Columns, columns_bind, columns_inside, columns_times, padding_zero}
use Rattle.toc.specs.Sizes.{size_row, size_rows, Sent, toc_rows}

module _ (count : ℕ) (s : List ℕ) (c : Cursor) where
  abbrev before : Read ℕ
  before = field s true padding 0 c

  abbrev sizes : Read (List ℕ)
  sizes = read (times count 0 size_row) s before.next

  abbrev behind : Read ℕ
  behind = field s true padding 0 sizes.next

  sizes_read : Reads (size_rows count) s c (record { value = sizes.value; next = behind.next })
  unfolding size_rows
  sizes_read = row_then before refl (bind_then _ _ sizes.value sizes.next (record { is = refl }) (row_then behind refl at_end))

  each_columns : Columns (times count 0 size_row) s before.next sizes.value
  unfolding Columns read
  each_columns =
      columns_times size_row s sizes.value (Unit {0}) (λ j. get_or sizes.value j 0) 0 (λ j at is. (λ on. is tt, tt)) count 0 before.next
      (λ known k l. ap (λ (j : ℕ). get_or sizes.value j 0) (zero-add k))

  sizes_given : Columns (size_rows count) s c sizes.value
  unfolding size_rows Columns
  sizes_given = (
    λ on. sym (padding_zero s true c),
    columns_bind (times count 0 size_row) _ s before.next sizes.value each_columns (λ on. sym (padding_zero s true sizes.next), tt),
  )

  pub sizes_columns : Columns (size_rows count) s c (read (size_rows count) s c).value
  sizes_columns = rw sizes_read.is sizes_given

-- the flag, and by it the sizes
abbrev listed : ℕ → ℕ → Bool → Table Sent Sent
listed count flag b =
    pick b
    (bind (within (λ r. r.sizes) (size_rows count)) λ sizes. ends (record { permuted = flag; sizes = sizes }))
    (ends (record { permuted = flag; sizes = [] }))

abbrev found : ℕ → List ℕ → Cursor → ℕ → Bool → Sent
found count s c flag b = record { permuted = flag; sizes = pick b (read (size_rows count) s c).value [] }

module _ (count : ℕ) (s : List ℕ) (c : Cursor) (flag : ℕ) where
  listed_value : (b : Bool) → (read (listed count flag b) s c).value ≡ found count s c flag b
  unfolding read
  listed_value true =
      let out = read (size_rows count) s c in
      let at : Reads (listed count flag true) s c (record { value = record { permuted = flag; sizes = out.value }; next = out.next }) =
      within_then _ _ _ out.value out.next (record { is = refl }) at_end in
      ap (λ (o : Read Sent). o.value) at.is
  listed_value false = refl

  listed_columns : (b : Bool) → Columns (listed count flag b) s c (found count s c flag b)
  unfolding Columns
  listed_columns true = columns_inside _ _ _ s c _ (sizes_columns count s c) tt
  listed_columns false = tt

pub toc_columns : (count : ℕ) (s : List ℕ) (c : Cursor) → Columns (toc_rows count) s c (read (toc_rows count) s c).value
unfolding toc_rows Columns read
toc_columns count s c =
    let flag : Read ℕ = field s true bool 0 c in
    rw (listed_value count s flag.next flag.value (eqb flag.value 0)) (λ on. refl, listed_columns count s flag.next flag.value (eqb flag.value 0))
