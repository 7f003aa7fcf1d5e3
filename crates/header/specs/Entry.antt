-- The entry: what it refuses, what it answers, and what the lent buffers hold after it.
use Rattle.std.specs.Prelude.{ℕ, ◌*◌, ◌≡◌, Bool, true, false, ◌||◌, List, ltb, eqb, length, Result, Ok, Err}
use Rattle.std.proofs.lemmas.List.Edits.{sets}
use Rattle.bits.specs.declared.Read.{Read}
use Rattle.bits.specs.declared.Refusal.{Refusal}
use Rattle.bits.specs.Refusals.{pick, refusal, none, start}
use Rattle.bits.specs.Table.{read}
use Rattle.header.specs.declared.Facts.{Facts}
use Rattle.header.specs.declared.entry.HeaderRead.{HeaderRead}
use Rattle.header.specs.Blending.{words}
use Rattle.header.specs.Header.{Header, header}
use Rattle.header.specs.Record.{HeaderNumbers, numbers_of, header_of, zero_header}

-- width and height from 1 to 1,073,741,824, and at most 256 extra channels
abbrev pub bad_facts : Facts → Bool
bad_facts f = ((eqb f.width 0 || ltb 1073741824 f.width) || (eqb f.height 0 || ltb 1073741824 f.height)) || ltb 256 f.extra

-- a name of 1,071 bytes, a word of upsampling and four of blending for each extra channel, whatever the header sends
abbrev pub no_room : Facts → ℕ → ℕ → ℕ → Bool
no_room f name upsampling blending = ltb name 1071 || (ltb upsampling f.extra || ltb blending (4 * f.extra))

-- before anything is read: 2, 1, 3, by the input's length and those of the lent buffers
unfoldable pub judged : ℕ → Facts → ℕ → ℕ → ℕ → Refusal
judged n f name upsampling blending =
    pick (ltb 16777216 n) (refusal 2 0) (pick (bad_facts f) (refusal 1 0) (pick (no_room f name upsampling blending) (refusal 3 0) none))

-- the header that stands in the bytes
abbrev pub stands : Facts → List ℕ → Read Header
stands f s = read (header f) s (start 0)

-- then the first fault in reading order
abbrev pub refusal_of : Refusal → Read Header → Refusal
refusal_of before h = pick (eqb before.number 0) h.next.fault before

-- what an answer says, its enums by their numbers: whether there is one, and the record or the refusal
pub record HeaderTold : Type 0 where
  pub given : Bool
  pub header : HeaderNumbers
  pub end : ℕ
  pub refusal : Refusal

unfoldable pub refused_header : Refusal → HeaderTold
refused_header r = record { given = false; header = zero_header; end = 0; refusal = r }

abbrev pub told : Result HeaderRead Refusal → HeaderTold
told (Ok a) = record { given = true; header = numbers_of a.header; end = a.end; refusal = none }
told (Err r) = refused_header r

-- the record and the place after the last field, or the refusal beside the zero record
unfoldable pub answered : Facts → Refusal → Read Header → HeaderTold
answered f before h =
    pick (eqb (refusal_of before h).number 0)
    (record { given = true; header = header_of f h.value.front h.value.back; end = h.next.at; refusal = none })
    (refused_header (refusal_of before h))

-- a lent buffer: its first places hold what was read, the others stay; on a refusal all stay
abbrev pub buffer_after : Refusal → Read Header → List ℕ → List ℕ → List ℕ
buffer_after before h new buffer = pick (eqb (refusal_of before h).number 0) (sets buffer 0 new) buffer

-- what the entry promises: its answer, and every lent buffer
pub record Headed (f : Facts) (s : List ℕ) (r : Result HeaderRead Refusal) (name name' upsampling upsampling' blending blending' : List ℕ) : Type 0 where
  pub answer : told r ≡ answered f (judged (length s) f (length name) (length upsampling) (length blending)) (stands f s)
  pub named : name' ≡ buffer_after (judged (length s) f (length name) (length upsampling) (length blending)) (stands f s) (stands f s).value.name name
  pub upsampled : upsampling' ≡ buffer_after (judged (length s) f (length name) (length upsampling) (length blending)) (stands f s) (stands f s).value.upsampling upsampling
  pub blended : blending' ≡ buffer_after (judged (length s) f (length name) (length upsampling) (length blending)) (stands f s) (words (stands f s).value.blending) blending
