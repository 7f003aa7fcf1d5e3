-- What private functions promise: parts of a header on their way to the entry. Nothing that a caller is promised names these.
use Rattle.std.specs.Prelude.{ℕ, ◌*◌, ◌≤◌, ◌<◌, ◌≡◌, Bool, true, not, List, eqb, length, replicate, take, Result}
use Rattle.std.proofs.lemmas.List.Edits.{sets}
use Rattle.bits.specs.declared.Read.{Read}
use Rattle.bits.specs.declared.Choices.{Choices}
use Rattle.bits.specs.declared.Cursor.{Cursor}
use Rattle.bits.specs.declared.Refusal.{Refusal}
use Rattle.bits.specs.declared.view.View.{View}
use Rattle.bits.specs.declared.view.Seen.{Seen}
use Rattle.bits.specs.Refusals.{none, start, pick}
use Rattle.bits.specs.View.{seen, seen_choice}
use Rattle.bits.specs.Codec.{Codec, u, u32, val, plus, one_of, chosen}
use Rattle.bits.specs.Table.{Table, times, read}
use Rattle.header.specs.declared.Facts.{Facts}
use Rattle.header.specs.declared.opening.Opening.{Opening}
use Rattle.header.specs.declared.shape.Placement.{Placement}
use Rattle.header.specs.declared.blending.Blending.{Blending}
use Rattle.header.specs.declared.blending.Decider.{Decider}
use Rattle.header.specs.declared.parts.Front.{Front}
use Rattle.header.specs.declared.parts.FrontRead.{FrontRead}
use Rattle.header.specs.declared.parts.Back.{Back}
use Rattle.header.specs.declared.parts.BackRead.{BackRead}
use Rattle.header.specs.declared.entry.HeaderRead.{HeaderRead}
use Rattle.header.specs.Arrays.{array}
use Rattle.header.specs.Opening.{opening, upsamplings}
use Rattle.header.specs.Blending.{covers_image, resets, by_own, source_decider, blending, words}
use Rattle.header.specs.Closing.{closing}
use Rattle.header.specs.Header.{sent_upsampling, sends_blending, no_blending, front, back}
use Rattle.header.specs.Record.{header_of}
use Rattle.header.specs.Entry.{told}
use Rattle.header.specs.declared.closing.Closing.{Closing}
use Rattle.header.specs.declared.shape.Passes.{Passes}
use Rattle.header.specs.declared.shape.Scales.{Scales}
use Rattle.filter.specs.Filter.{filter_default}

-- A header whose first bit says all default: every field has its default. A regular VarDCT frame of one pass, group size shift 1, as large as the
-- image
unfoldable pub default_front : Facts → Front
default_front f = record {
  opening = record {
    all_default = 1;
    frame_type = 0;
    encoding = 0;
    flags = 0;
    do_ycbcr = 0;
    jpeg0 = 0;
    jpeg1 = 0;
    jpeg2 = 0;
    upsampling = 1;
  };
  scales = record { group_size_shift = 1; x_qm_scale = pick f.xyb 3 2; b_qm_scale = 2 };
  passes = record { num_passes = 1; num_ds = 0; shift = replicate 10 0; downsample = replicate 4 0; last_pass = replicate 4 0 };
  placement = record { lf_level = 0; have_crop = 0; x0 = 0; y0 = 0; width = f.width; height = f.height };
}

-- mode Replace, the last frame, no name, both default filters
unfoldable pub default_back : Back
default_back = record {
  blending = no_blending;
  closing = record { duration = 0; timecode = 0; is_last = 1; save_as_reference = 0; save_before_ct = 0; name_length = 0 };
  filter = filter_default;
}

-- U32(0, 1, 2, 3 + u(n))
abbrev pub small : ℕ → Choices
small n = one_of (val 0) (val 1) (val 2) (plus 3 n)

-- the selector, and the choice that it names
unfoldable pub seen_small : View → Bool → ℕ → Seen
seen_small w on n = seen_choice (seen w on 2) (chosen (small n) (seen w on 2).value)

-- an array alone: where it ends, and what a lent table holds after it, the words behind the elements as they were
pub record Arrayed (k : Codec) (limit count d : ℕ) (s : List ℕ) (c r : Cursor) (before after : List ℕ) : Type 0 where
  pub next : r ≡ (read (array k limit count d (λ (x : List ℕ) (i : ℕ). 0)) s c).next
  pub words : after ≡ sets before 0 (read (array k limit count d (λ (x : List ℕ) (i : ℕ). 0)) s c).value

-- n extra channels alone: where they end, and what a lent table holds after them
abbrev pub extras : Bool → ℕ → Bool → Decider → Table Blending (List Blending)
extras on n full d = times n 0 (λ i. blending on true full d)

pub record Extras (on : Bool) (n : ℕ) (full : Bool) (d : Decider) (s : List ℕ) (c r : Cursor) (before after : List ℕ) : Type 0 where
  pub next : r ≡ (read (extras on n full d) s c).next
  pub content : after ≡ sets before 0 (words (read (extras on n full d) s c).value)

-- the extra channels from where their upsampling begins, and from where their blending does
abbrev pub upsampling_from : Facts → Opening → List ℕ → Cursor → List ℕ
upsampling_from f o s c = (read (array (u32 upsamplings) (sent_upsampling f o) f.extra 1 (λ (x : List ℕ) (i : ℕ). 0)) s c).value

abbrev pub blending_from : Facts → Opening → Placement → ℕ → List ℕ → Cursor → List Blending
blending_from f o p mode s c = (read (extras (sends_blending o) f.extra (covers_image f p) (source_decider f mode)) s c).value

-- the parts as they are read, where their arrays begin, and what a lent table holds of the extra channels
pub record Fronted (f : Facts) (s : List ℕ) (r : FrontRead) (before after : List ℕ) : Type 0 where
  pub upsampling_at : r.upsampling_at ≡ (read (opening f) s (start 0)).next
  pub value : (read (front f) s (start 0)).value.front ≡ r.value
  pub upsampling : (read (front f) s (start 0)).value.upsampling
      ≡ upsampling_from f r.value.opening s r.upsampling_at
  pub next : (read (front f) s (start 0)).next ≡ r.next
  pub table : after ≡ sets before 0 (upsampling_from f r.value.opening s r.upsampling_at)

pub record Backed (f : Facts) (o : Opening) (p : Placement) (s : List ℕ) (c : Cursor) (r : BackRead) (before after : List ℕ) : Type 0 where
  pub blending_at : r.blending_at ≡ (read (blending (sends_blending o) (not (eqb f.extra 0)) (covers_image f p) by_own) s c).next
  pub name_at : r.name_at
      ≡ (read (closing f o (resets r.value.blending.mode (covers_image f p))) s
      (read (extras (sends_blending o) f.extra (covers_image f p) (source_decider f r.value.blending.mode)) s r.blending_at).next).next
  pub value : (read (back f o p) s c).value.back ≡ r.value
  pub blending : (read (back f o p) s c).value.blending ≡ blending_from f o p r.value.blending.mode s r.blending_at
  pub name : (read (back f o p) s c).value.name
      ≡ (read (array (u 8) r.value.closing.name_length r.value.closing.name_length 0 (λ (x : List ℕ) (i : ℕ). 0)) s r.name_at).value
  pub next : (read (back f o p) s c).next ≡ r.next
  pub table : after ≡ sets before 0 (words (blending_from f o p r.value.blending.mode s r.blending_at))

-- the numbers of a header that its record's enums name: u(2), u(1), and a mode from 0 to 4
pub record Named (a : Front) (b : Back) : Type 0 where
  pub type : a.opening.frame_type < 4
  pub encoding : a.opening.encoding < 2
  pub mode : b.blending.mode < 5

-- what was kept of up to eight extra channels: all their words, in front
pub record ChannelsKept (f : Facts) (s : List ℕ) (a : FrontRead) (b : BackRead) (ups channels : List ℕ) : Type 0 where
  pub room : (length ups ≡ 8) × (length channels ≡ 32)
  pub upsampled : f.extra ≤ 8 → take f.extra ups ≡ upsampling_from f a.value.opening s a.upsampling_at
  pub blended : f.extra ≤ 8 → take (4 * f.extra) channels ≡ words (blending_from f a.value.opening a.value.placement b.value.blending.mode s b.blending_at)

-- the extra channels' words in front of the lent buffers
pub record ChannelsGiven (f : Facts) (s : List ℕ) (a : FrontRead) (b : BackRead) (upsampling upsampling' blending blending' : List ℕ) : Type 0 where
  pub upsampled : upsampling' ≡ sets upsampling 0 (upsampling_from f a.value.opening s a.upsampling_at)
  pub blended : blending' ≡ sets blending 0 (words (blending_from f a.value.opening a.value.placement b.value.blending.mode s b.blending_at))

-- what is answered of a header that was read in two parts: the record, and the arrays in front of the lent buffers
pub record Filled (f : Facts) (s : List ℕ) (a : FrontRead) (b : BackRead) (r : Result HeaderRead Refusal) (name name' upsampling upsampling' blending blending' : List ℕ) : Type 0 where
  pub answer : told r ≡ record { given = true; header = header_of f a.value b.value; end = b.next.at; refusal = none }
  pub named : name' ≡ sets name 0 (read (array (u 8) b.value.closing.name_length b.value.closing.name_length 0 (λ (x : List ℕ) (i : ℕ). 0)) s b.name_at).value
  pub channels : ChannelsGiven f s a b upsampling upsampling' blending blending'

-- what is answered: the record, the place behind that bit, and for each extra channel upsampling 1 and blending 0, 0, 0, 0
pub record Defaulted (f : Facts) (at : ℕ) (r : Result HeaderRead Refusal) (upsampling upsampling' blending blending' : List ℕ) : Type 0 where
  pub answer : told r ≡ record { given = true; header = header_of f (default_front f) default_back; end = at; refusal = none }
  pub upsampled : upsampling' ≡ sets upsampling 0 (replicate f.extra 1)
  pub blended : blending' ≡ sets blending 0 (words (replicate f.extra no_blending))
