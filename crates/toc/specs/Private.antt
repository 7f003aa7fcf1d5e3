-- What private functions promise: the walk over the sizes, one by one. That it is the table's own reading is a law. Nothing that a caller is
-- promised names these.
use Rattle.std.specs.Prelude.{◌≡◌, ℕ, zero, suc, ◌+◌, ◌≤◌, Bool, true, List}
use Rattle.bits.specs.declared.Read.{Read}
use Rattle.bits.specs.declared.Cursor.{Cursor}
use Rattle.bits.specs.declared.view.View.{View}
use Rattle.bits.specs.declared.view.Seen.{Seen}
use Rattle.bits.specs.Refusals.{pick, start}
use Rattle.bits.specs.View.{seen, seen_choice}
use Rattle.bits.specs.Codec.{u32, padding, chosen, field}
use Rattle.order.specs.Tables.{identity}
use Rattle.order.specs.Sums.{sum_to}
use Rattle.toc.specs.declared.reading.Pair.{Pair}
use Rattle.toc.specs.declared.reading.Walk.{Walk}
use Rattle.toc.specs.Sizes.{size_choices, size_rows}
use Rattle.bits.specs.Table.{read}
use Rattle.toc.specs.Reading.{Reading, second_read}

-- the cursor after k sizes
unfoldable pub cursor_at : List ℕ → Cursor → ℕ → Cursor
cursor_at s c zero = c
cursor_at s c (suc k) = (field s true (u32 size_choices) 0 (cursor_at s c k)).next

-- the size that is sent as number k
unfoldable pub size_at : List ℕ → Cursor → ℕ → ℕ
size_at s c k = (field s true (u32 size_choices) 0 (cursor_at s c k)).value

-- where the data of number k begins
unfoldable pub offset_at : List ℕ → Cursor → ℕ → ℕ → ℕ
offset_at s c start k = start + sum_to k (size_at s c)

-- a size out of bits that are known
unfoldable pub seen_size : View → Seen
seen_size w = seen_choice (seen w true 2) (chosen size_choices (seen w true 2).value)

-- two sizes that were read at once: those that are read one after the other
pub record Two (s : List ℕ) (c : Cursor) (on : Bool) (p : Pair) : Type 0 where
  pub wanted : on ≡ true
  pub first : p.first ≡ (field s true (u32 size_choices) 0 c).value
  pub second : ◌≡◌ {A = Read ℕ} (record { value = p.second; next = start p.at }) (field s true (u32 size_choices) 0 (field s true (u32 size_choices) 0 c).next)

-- to the next byte boundary
abbrev pub padded : List ℕ → Cursor → Cursor
padded s c = (field s true padding 0 c).next

-- the walk over the sizes alone: where it ends, and their sum
unfoldable pub summed : List ℕ → Cursor → ℕ → Read ℕ
summed s c count = record { value = sum_to count (size_at s c); next = cursor_at s c count }

-- between its two paddings
unfoldable pub walked : List ℕ → Cursor → ℕ → Walk
walked s c count = record {
  first = padded s c;
  last = padded s (cursor_at s (padded s c) count);
  total = sum_to count (size_at s (padded s c));
}

-- four tables that each have a word for each section
pub record Room (count o s p i : ℕ) : Type 0 where
  pub offsets : count ≤ o
  pub sizes : count ≤ s
  pub order : count ≤ p
  pub inverse : count ≤ i

-- the order that is lent, or the identity
abbrev pub order_by : Bool → List ℕ → ℕ → List ℕ
order_by given lent count = pick given lent (identity count)

-- from the padding at c on, with an order
unfoldable pub sized_reading : List ℕ → Cursor → ℕ → List ℕ → Reading
sized_reading s c count l = second_read count l (read (size_rows count) s c)
