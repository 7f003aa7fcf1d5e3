-- The two section entries: the refusals in their order, the answer, and what the four lent tables hold afterwards.
use Rattle.std.specs.Prelude.{Result, Ok, Err, ◌≡◌, ℕ, ◌*◌, ◌/◌, Bool, ◌&&◌, List, [], length, ◌==◌, nat_le, nat_lt}
use Rattle.bits.specs.declared.Read.{Read}
use Rattle.bits.specs.declared.Refusal.{Refusal}
use Rattle.bits.specs.declared.Cursor.{Cursor}
use Rattle.bits.specs.Refusals.{pick, refusal, none, start, clear}
use Rattle.bits.specs.Table.{read}
use Rattle.grid.specs.declared.Frame.{Frame}
use Rattle.grid.specs.Measured.{Measured, grid_of}
use Rattle.order.specs.Order.{checked}
use Rattle.order.specs.Tables.{filled, identity, inverse_of}
use Rattle.toc.specs.declared.Toc.{Toc}
use Rattle.toc.specs.declared.TocRead.{TocRead}
use Rattle.toc.specs.declared.TocRead.TheVariants.{Table as ReadTable, OrderNeeded as ReadOrderNeeded}
use Rattle.toc.specs.Sizes.{Sent, size_rows, toc_rows, sent_before, offsets_by, sizes_by}

-- the four lent tables
pub record Tables : Type 0 where
  pub offsets : List ℕ
  pub sizes : List ℕ
  pub order : List ℕ
  pub inverse : List ℕ

abbrev pub tables : List ℕ → List ℕ → List ℕ → List ℕ → Tables
tables o s p i = record { offsets = o; sizes = s; order = p; inverse = i }

-- four lengths, each at least the count
unfoldable pub room_for : ℕ → ℕ → ℕ → ℕ → ℕ → Bool
room_for count o s p i = (nat_le count o && nat_le count s) && (nat_le count p && nat_le count i)

abbrev pub roomy : ℕ → Tables → Bool
roomy count t = room_for count (length t.offsets) (length t.sizes) (length t.order) (length t.inverse)

-- before anything is read: 2, 8, 9, 10, 3, 11, all with place 0
unfoldable pub judged_by : List ℕ → Measured → ℕ → Bool → Refusal
judged_by s g place room =
    pick (nat_lt 16777216 (length s))
    (refusal 2 0)
    (pick (g.refusal.number == 0)
    (pick room
    (pick (nat_le place (8 * length s)) none (refusal 11 0))
    (refusal 3 0))
    g.refusal)

abbrev pub judged : List ℕ → Measured → ℕ → Tables → Refusal
judged s g place t = judged_by s g place (roomy g.sections t)

-- then 13 for the lent order
unfoldable pub judged_order : List ℕ → Measured → ℕ → List ℕ → Tables → Refusal
judged_order s g place lent t =
    pick ((judged s g place t).number == 0) (checked g.sections lent) (judged s g place t)

-- what a reading answers: a table, "order needed" with the place after the flag, or a refusal
pub data TocAnswer : Type 0 where
  Table : Toc → TocAnswer
  OrderNeeded : ℕ → TocAnswer
  Refused : Refusal → TocAnswer

-- the same of a value or a refusal
abbrev pub toc_told : Result TocRead Refusal → TocAnswer
toc_told (Ok (ReadTable toc)) = Table toc
toc_told (Ok (ReadOrderNeeded place)) = OrderNeeded place
toc_told (Err r) = Refused r

-- What an answer says, by number and values: 0 and a table; 255 and the place after the flag ("order needed", which has no number in the rules); else
-- the number of a refusal, and the refusal.
pub record TocNumbers : Type 0 where
  pub number : ℕ
  pub toc : Toc
  pub next : ℕ
  pub refusal : Refusal

abbrev pub no_toc : Toc
no_toc = record { count = 0; bookmark = 0; total_byte_size = 0 }

abbrev pub toc_numbers : TocAnswer → TocNumbers
toc_numbers (Table toc) = record { number = 0; toc = toc; next = 0; refusal = none }
toc_numbers (OrderNeeded place) = record { number = 255; toc = no_toc; next = place; refusal = none }
toc_numbers (Refused r) = record { number = r.number; toc = no_toc; next = 0; refusal = r }

-- what a reading comes to: the answer, and beside a table its order and its sizes as sent
pub record Reading : Type 0 where
  pub answer : TocAnswer
  pub order : List ℕ
  pub sizes : List ℕ

-- the data begins after the last padding; the total is the sum of the sizes
unfoldable pub toc_of : ℕ → List ℕ → Cursor → Toc
toc_of count sizes c = record { count = count; bookmark = c.at / 8; total_byte_size = sent_before sizes count }

-- `is_single_entry`: one section, or none
abbrev pub single_entry : Toc → Bool
single_entry toc = nat_le toc.count 1

-- the sizes were read, or the first fault
unfoldable pub sized_answer : ℕ → List ℕ → Cursor → TocAnswer
sized_answer count sizes c = pick (clear c) (Table (toc_of count sizes c)) (Refused c.fault)

-- the first entry, from the flag on: a flag of 1 is "order needed" with the place after it; else both orders are the identity
unfoldable pub first_read : ℕ → Read Sent → Reading
first_read count out = record {
  answer =
      pick (out.value.permuted == 0)
      (sized_answer count out.value.sizes out.next)
      (OrderNeeded out.next.at);
  order = identity count;
  sizes = out.value.sizes;
}

-- the second entry, from the padding on, with a lent order
unfoldable pub second_read : ℕ → List ℕ → Read (List ℕ) → Reading
second_read count lent out = record { answer = sized_answer count out.value out.next; order = lent; sizes = out.value }

-- a refusal, beside which there is no table
unfoldable pub refused_read : Refusal → Reading
refused_read r = record { answer = Refused r; order = []; sizes = [] }

unfoldable pub first_reading : List ℕ → Frame → ℕ → Tables → Reading
first_reading s f place t =
    pick ((judged s (grid_of f) place t).number == 0)
    (first_read (grid_of f).sections (read (toc_rows (grid_of f).sections) s (start place)))
    (refused_read (judged s (grid_of f) place t))

unfoldable pub second_reading : List ℕ → Frame → ℕ → List ℕ → Tables → Reading
second_reading s f place lent t =
    pick ((judged_order s (grid_of f) place lent t).number == 0)
    (second_read (grid_of f).sections lent (read (size_rows (grid_of f).sections) s (start place)))
    (refused_read (judged_order s (grid_of f) place lent t))

-- an accepted table's words in front, and the words behind stay
unfoldable pub tables_of : Toc → List ℕ → List ℕ → Tables → Tables
tables_of toc sizes order t = record {
  offsets = filled (offsets_by toc.count toc.bookmark sizes order) t.offsets;
  sizes = filled (sizes_by toc.count sizes order) t.sizes;
  order = filled order t.order;
  inverse = filled (inverse_of toc.count order) t.inverse;
}

-- only an accepted table is written: a refusal and "order needed" leave the four as they were
unfoldable pub written : TocAnswer → List ℕ → List ℕ → Tables → Tables
written (Table toc) sizes order t = tables_of toc sizes order t
written (OrderNeeded p) sizes order t = t
written (Refused r) sizes order t = t

abbrev pub after : Reading → Tables → Tables
after r t = written r.answer r.sizes r.order t

-- what an entry promises: its answer's number and values, and every word of the four tables
pub record Done (r : Reading) (before : Tables) (result : TocAnswer) (o s p i : List ℕ) : Type 0 where
  pub answer : toc_numbers result ≡ toc_numbers r.answer
  pub offsets : o ≡ (after r before).offsets
  pub sizes : s ≡ (after r before).sizes
  pub order : p ≡ (after r before).order
  pub inverse : i ≡ (after r before).inverse
