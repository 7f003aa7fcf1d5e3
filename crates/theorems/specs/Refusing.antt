-- What demand 1 asks of a function: it ends with an answer or with a refusal of the rules, never with both, and a refusal changes nothing that was
-- lent. Functions.antt asks it of each public function that can refuse.
use Rattle.std.specs.Prelude.{ℕ, ◌/◌, ◌%◌, ◌≤◌, ◌<◌, ◌≡◌, ◌⊎◌, List, [], ◌∷◌, Bool, true, false, ◌&&◌, ◌||◌, eqb, leb, Result, Ok, Err}
use Rattle.bits.specs.declared.Refusal.{Refusal}
use Rattle.bits.specs.declared.Cursor.{Cursor}
use Rattle.bits.specs.Refusals.{refusal, none, clear}
use Rattle.bits.specs.Bits.{bit_count}
use Rattle.header.specs.Record.{HeaderNumbers}
use Rattle.sections.specs.Kinds.{KindTold}
use Rattle.grid.specs.Measured.{Measured}
use Rattle.grid.specs.Groups.{Touches, Placed, Sized, Number}
use Rattle.order.specs.Numbers.{SentAnswer, SectionAnswer}
use Rattle.sections.specs.Lookups.{PlaceAnswer}
use Rattle.layout.specs.Layouts.{LayoutAnswer}
use Rattle.toc.specs.Reading.{TocAnswer, Table, OrderNeeded, Refused, Tables}

-- whether a number stands in a list
abbrev pub among : List ℕ → ℕ → Bool
among [] n = false
among (k ∷ more) n = eqb k n || among more n

-- whether all are numbers of the rules: 1 to 14
abbrev pub rules : List ℕ → Bool
rules [] = true
rules (k ∷ more) = (leb 1 k && leb k 14) && rules more

-- the refusals of what is read, which have the place of a field; all others, and none, have place 0
abbrev pub placed : List ℕ
placed = 4 ∷ 5 ∷ 6 ∷ 7 ∷ 12 ∷ []

-- Nothing is refused (number 0), or it is with one of the numbers; the bit place is no further than the last.
pub record Refuses (numbers : List ℕ) (last : ℕ) (r : Refusal) : Type 0 where
  pub ruled : rules numbers ≡ true
  pub listed : among (0 ∷ numbers) r.number ≡ true
  pub inside : r.place ≤ last
  pub elsewhere : among placed r.number ≡ false → r.place ≡ 0

-- A function's end: its refusal, and what it said. Beside a refusal stands no answer: zeros alone, and what was lent as it was.
pub record Ends {A : Type 0} (numbers : List ℕ) (last : ℕ) (r : Refusal) (beside said : A) : Type 0 where
  pub refuses : Refuses numbers last r
  pub either : (r.number ≡ 0 → ⊥) → said ≡ beside

-- the refusal in an answer, none where there is an answer; and what it said, where it is refused so much
abbrev pub refusal_in : {A : Type 0} → Result A Refusal → Refusal
refusal_in (Ok a) = none
refusal_in (Err r) = r

abbrev pub said_in : {A : Type 0} → A → Result A Refusal → A
said_in beside (Ok a) = a
said_in beside (Err r) = beside

-- A function that tells refusal r answers a value where its number is 0, and else an `Err` of just r: an `Err` never has number 0.
abbrev pub Answers : {A : Type 0} → Result A Refusal → Refusal → Type 0
Answers (Ok a) r = r.number ≡ 0
Answers (Err e) r = (r.number ≡ 0 → ⊥) × (e ≡ r)

-- the answers of functions that lend nothing: a number, yes or no, a rectangle, a size, a grid, a section number, a sent number, a kind, a place, a
-- layout
abbrev pub NumberEnds : List ℕ → Number → Type 0
NumberEnds numbers n = Ends numbers 0 n.refusal 0 n.value

abbrev pub TouchEnds : List ℕ → Touches → Type 0
TouchEnds numbers t = Ends numbers 0 t.refusal false t.value

abbrev pub RectEnds : List ℕ → Placed → Type 0
RectEnds numbers p = Ends numbers 0 p.refusal (0 ∷ 0 ∷ 0 ∷ 0 ∷ []) (p.rect.left ∷ p.rect.top ∷ p.rect.width ∷ p.rect.height ∷ [])

abbrev pub SizeEnds : List ℕ → Sized → Type 0
SizeEnds numbers z = Ends numbers 0 z.refusal (0 ∷ 0 ∷ []) (z.width ∷ z.height ∷ [])

abbrev pub GridEnds : List ℕ → Measured → Type 0
GridEnds numbers g =
    Ends numbers 0 g.refusal (0 ∷ 0 ∷ 0 ∷ 0 ∷ 0 ∷ 0 ∷ 0 ∷ 0 ∷ 0 ∷ 0 ∷ 0 ∷ [])
    (g.width ∷ g.height ∷ g.side ∷ g.lf_side
    ∷ g.columns ∷ g.rows ∷ g.lf_columns ∷ g.lf_rows ∷ g.groups ∷ g.lf_groups ∷ g.sections ∷ [])

abbrev pub SectionEnds : List ℕ → SectionAnswer → Type 0
SectionEnds numbers a = Ends numbers 0 a.refusal 0 a.section.0

abbrev pub SentEnds : List ℕ → SentAnswer → Type 0
SentEnds numbers a = Ends numbers 0 a.refusal 0 a.sent.0

abbrev pub KindEnds : List ℕ → KindTold → Type 0
KindEnds numbers a = Ends numbers 0 a.refusal (0 ∷ 0 ∷ 0 ∷ []) (a.numbers.kind ∷ a.numbers.pass_idx ∷ a.numbers.group_idx ∷ [])

abbrev pub PlaceEnds : List ℕ → PlaceAnswer → Type 0
PlaceEnds numbers a = Ends numbers 0 a.refusal (0 ∷ 0 ∷ []) (a.offset ∷ a.size ∷ [])

abbrev pub LayoutEnds : List ℕ → LayoutAnswer → Type 0
LayoutEnds numbers a =
    Ends numbers 0 a.refusal (0 ∷ 0 ∷ 0 ∷ 0 ∷ 0 ∷ 0 ∷ 0 ∷ 0 ∷ [])
    (a.layout.width ∷ a.layout.height ∷ a.layout.power ∷ a.layout.columns
    ∷ a.layout.groups ∷ a.layout.lf_groups ∷ a.layout.sections ∷ a.layout.passes ∷ [])

-- the header entry: its record and the place behind it, and the three lent buffers
pub record HeaderSaid : Type 0 where
  pub header : HeaderNumbers
  pub end : ℕ
  pub name : List ℕ
  pub upsampling : List ℕ
  pub blending : List ℕ

abbrev pub header_said : HeaderNumbers → ℕ → List ℕ → List ℕ → List ℕ → HeaderSaid
header_said h end name upsampling blending = record { header = h; end = end; name = name; upsampling = upsampling; blending = blending }

-- a text: its length, and the lent bytes
pub record TextSaid : Type 0 where
  pub length : ℕ
  pub bytes : List ℕ

abbrev pub TextEnds : List ℕ → Result ℕ Refusal → List ℕ → List ℕ → Type 0
TextEnds numbers a before after =
    ((r : Refusal) → a ≡ Err r → r.number ≡ 0 → ⊥) × Ends {A = TextSaid} numbers 0 (refusal_in a) (record { length = 0; bytes = before }) (record { length = said_in 0 a; bytes = after })

-- The section entries answer a table, or "order needed" where no order is lent, or a refusal, which has a number; only a table changes what was lent.
abbrev pub Tells : {A : Type 0} → List ℕ → Bool → ℕ → A → A → TocAnswer → Type 0
Tells numbers needs last before after (Table toc) = 0 < toc.count
Tells numbers needs last before after (OrderNeeded place) = (needs ≡ true) × (place ≤ last) × (after ≡ before)
Tells numbers needs last before after (Refused r) = (r.number ≡ 0 → ⊥) × Refuses numbers last r × (after ≡ before)

-- The C functions' status word holds a refusal: the number in its lowest eight bits, the place above them. They answer in what is lent alone.
abbrev pub held : ℕ → Refusal
held word = refusal (word % 256) (word / 256)

abbrev pub WordEnds : {A : Type 0} → List ℕ → ℕ → ℕ → A → A → Type 0
WordEnds numbers last word before after = Ends numbers last (held word) before after

-- the section entries' four tables and three words, and the listing's bytes and word
pub record TocLent : Type 0 where
  pub tables : Tables
  pub words : List ℕ

abbrev pub lent : Tables → List ℕ → TocLent
lent t words = record { tables = t; words = words }

pub record ListLent : Type 0 where
  pub bytes : List ℕ
  pub words : List ℕ

-- 255 is "order needed", where no order is lent
pub record Needs (needs : Bool) (last word : ℕ) (before after : TocLent) : Type 0 where
  pub asked : needs ≡ true
  pub number : word % 256 ≡ 255
  pub inside : word / 256 ≤ last
  pub kept : after ≡ before

abbrev pub TocWordEnds : List ℕ → Bool → ℕ → ℕ → TocLent → TocLent → Type 0
TocWordEnds numbers needs last word before after = WordEnds numbers last word before after ⊎ Needs needs last word before after

-- A reader hands on a cursor. After a fault nothing is read. Else the fault is as it was (none), or one of the reader's numbers at a place that is no
-- further than the end of the input, or than the cursor where that is behind the end; and no further is the place that is handed on.
pub record Hands (numbers s : List ℕ) (c next : Cursor) : Type 0 where
  pub stays : clear c ≡ false → next ≡ c
  pub faults : (last : ℕ) → bit_count s ≤ last → c.at ≤ last → (next.fault ≡ c.fault) ⊎ Refuses numbers last next.fault
  pub within : (last : ℕ) → bit_count s ≤ last → c.at ≤ last → next.at ≤ last

-- ---- the numbers of each function, in the order in which they are given

-- a frame's geometry; where an index, a kind, a sample or a pass is asked for; that question alone; and where tables are lent, or in C words for the
-- answer
abbrev pub of_frame : List ℕ
of_frame = 8 ∷ 9 ∷ 10 ∷ []

abbrev pub of_index : List ℕ
of_index = 8 ∷ 9 ∷ 10 ∷ 14 ∷ []

abbrev pub of_found : List ℕ
of_found = 14 ∷ []

abbrev pub of_frame_room : List ℕ
of_frame_room = 8 ∷ 9 ∷ 10 ∷ 3 ∷ []

abbrev pub of_index_room : List ℕ
of_index_room = 8 ∷ 9 ∷ 10 ∷ 3 ∷ 14 ∷ []

-- a layout has no refusals of a frame
abbrev pub of_layout : List ℕ
of_layout = 14 ∷ []

abbrev pub of_layout_room : List ℕ
of_layout_room = 3 ∷ 14 ∷ []

-- a lent order: judged, inverted, looked up by a count, and looked up by a frame
abbrev pub of_order : List ℕ
of_order = 10 ∷ 13 ∷ []

abbrev pub of_inverse : List ℕ
of_inverse = 10 ∷ 3 ∷ 13 ∷ []

abbrev pub of_entry : List ℕ
of_entry = 10 ∷ 13 ∷ 14 ∷ []

abbrev pub of_sent : List ℕ
of_sent = 8 ∷ 9 ∷ 10 ∷ 13 ∷ 14 ∷ []

abbrev pub of_sent_room : List ℕ
of_sent_room = 8 ∷ 9 ∷ 10 ∷ 3 ∷ 13 ∷ 14 ∷ []

-- the section entries: then 4 and 12 in reading order
abbrev pub of_toc : List ℕ
of_toc = 2 ∷ 8 ∷ 9 ∷ 10 ∷ 3 ∷ 11 ∷ 4 ∷ 12 ∷ []

abbrev pub of_toc_order : List ℕ
of_toc_order = 2 ∷ 8 ∷ 9 ∷ 10 ∷ 3 ∷ 11 ∷ 13 ∷ 4 ∷ 12 ∷ []

-- where the three words for a table have no room
abbrev pub of_toc_room : List ℕ
of_toc_room = 2 ∷ 8 ∷ 9 ∷ 10 ∷ 3 ∷ []

-- the header: before it is read; then 4, 5, 6 and 7 in reading order
abbrev pub of_facts : List ℕ
of_facts = 2 ∷ 1 ∷ 3 ∷ []

abbrev pub of_header : List ℕ
of_header = 2 ∷ 1 ∷ 3 ∷ 4 ∷ 5 ∷ 6 ∷ 7 ∷ []

-- a text that doesn't fit; the listing of a table
abbrev pub of_text : List ℕ
of_text = 3 ∷ []

abbrev pub of_listing : List ℕ
of_listing = 8 ∷ 9 ∷ 10 ∷ 3 ∷ 13 ∷ []

-- fields: whole numbers, Bools, skips and extensions; enums; padding; f16 and the edge filter; Gabor and both filters
abbrev pub of_bits : List ℕ
of_bits = 4 ∷ []

abbrev pub of_enum : List ℕ
of_enum = 4 ∷ 5 ∷ []

abbrev pub of_padding : List ℕ
of_padding = 4 ∷ 12 ∷ []

abbrev pub of_half : List ℕ
of_half = 4 ∷ 6 ∷ []

abbrev pub of_filter : List ℕ
of_filter = 4 ∷ 6 ∷ 7 ∷ []
