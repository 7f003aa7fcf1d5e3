-- The header's record as words, and what is refused for want of room.
use Prim.Native.Nat.{ℕ, ◌<◌}
use native.Mathlib.Omega.{arith}
use mathlib.Core.Path.{◌≡◌, refl, ◌∙◌}
use mathlib.Core.Bool.{Bool, true, false, ◌&&◌}
use mathlib.Core.List.{List, [], ◌∷◌}
use lib.Dec.{leb, ltb, eqb}
use Rattle.std.specs.Prelude.{Result, Ok, Err}
use lib.Ieee.{Float}
use lib.IntN.{ℤ}
use lib.ListN.{set}
use lib.Seq.{sets}
use borrow.Author.Tests.{lt-ltb}
use Rattle.bits.specs.declared.Read.{Read}
use Rattle.bits.specs.declared.Refusal.{Refusal}
use Rattle.bits.specs.Refusals.{pick, refusal, answered as or_refused}
use Rattle.header.specs.declared.Facts.{Facts}
use Rattle.header.specs.declared.FrameHeader.{FrameHeader}
use Rattle.header.specs.declared.entry.HeaderRead.{HeaderRead}
use Rattle.header.specs.Header.{Header}
use Rattle.header.specs.Record.{numbers_of}
use Rattle.types.specs.Types.{frame_type_number, encoding_number, blend_mode_number}
use Rattle.header.specs.Entry.{bad_facts, judged, told, answered, refused_header, HeaderTold}
use Rattle.c_words.specs.Records.{bit}
use Rattle.c_words.specs.Heading.{front_words, back_words, front_after, arrays_after, words_after, signed_after, HandedOut, HandedBy, record_room, no_record}

pub front_is : (h : FrameHeader) (k e y : ℕ) → k ≡ frame_type_number h.frame_type → e ≡ encoding_number h.encoding → y ≡ bit h.do_ycbcr
    → ◌≡◌ {A = List ℕ}
    (k ∷ e ∷ y ∷ h.encoded_color_channels ∷ h.upsampling ∷ h.group_size_shift ∷ h.x_qm_scale ∷ h.b_qm_scale ∷ h.passes.num_passes ∷ h.passes.num_ds ∷ [])
    (front_words (numbers_of h))
unfolding front_words
front_is h k e y ek ee ey = rw (ek, ee, ey)

pub back_is : (h : FrameHeader) (c m l s r b g e : ℕ) → c ≡ bit h.have_crop → m ≡ blend_mode_number h.blending_info.mode
    → l ≡ bit h.blending_info.clamp → s ≡ bit h.is_last → r ≡ bit h.resets_canvas → b ≡ bit h.save_before_ct
    → g ≡ bit h.restoration_filter.gab.enabled → e ≡ bit h.restoration_filter.epf.enabled
    → ◌≡◌ {A = List ℕ}
    (h.lf_level ∷ c ∷ h.width ∷ h.height ∷ m ∷ h.blending_info.alpha_channel ∷ l ∷ h.blending_info.source ∷ h.duration ∷ h.timecode ∷ s
    ∷ h.save_as_reference ∷ r ∷ b ∷ h.name_length ∷ g ∷ e ∷ h.restoration_filter.epf.iters ∷ [])
    (back_words (numbers_of h))
unfolding back_words
back_is h c m l s r b g e ec em el es er eb eg ee = rw (ec, em, el, es, er, eb, eg, ee)

pub front_put : (a : HeaderRead) (front o o0 o1 o2 : List ℕ) → front ≡ front_words (numbers_of a.header) → o0 ≡ set o 0 a.end → o1 ≡ set o0 1 a.header.flags.0
    → o2 ≡ sets o1 2 front → o2 ≡ front_after (told (Ok a)) o
unfolding front_after
front_put a front o o0 o1 o2 ef e0 e1 e2 = rw (e2, e1, e0, ef)

-- four parts one after another, each from its place on
pub four_put : {A : Type 0} (i j k l : ℕ) (a b c d o o0 o1 o2 o3 : List A) → o0 ≡ sets o i a → o1 ≡ sets o0 j b → o2 ≡ sets o1 k c → o3 ≡ sets o2 l d
    → o3 ≡ sets (sets (sets (sets o i a) j b) k c) l d
four_put i j k l a b c d o o0 o1 o2 o3 e0 e1 e2 e3 = rw (e3, e2, e1, e0)

pub words_put : (a : HeaderRead) (back o o0 o12 o33 : List ℕ) → back ≡ back_words (numbers_of a.header) → o0 ≡ front_after (told (Ok a)) o → o12 ≡ arrays_after a.header.jpeg_upsampling a.header.passes o0
    → o33 ≡ sets o12 33 back → o33 ≡ words_after (told (Ok a)) o
unfolding words_after
words_put a back o o0 o12 o33 eb e0 e12 e33 = rw (e33, e12, e0, eb)

pub signed_are : (h : FrameHeader) (x y : ℤ) (o o0 o1 : List ℤ) → x ≡ h.x0 → y ≡ h.y0 → o0 ≡ set o 0 x → o1 ≡ set o0 1 y → o1 ≡ signed_after (numbers_of h) o
signed_are h x y o o0 o1 ex ey e0 e1 = e1 ∙ rw (e0, ex, ey)

pub room_is : (w s f : ℕ) (a b : Bool) → a ≡ (leb 2 s && leb 22 f) → b ≡ (leb 51 w && a) → b ≡ record_room w s f
room_is w s f a b ea eb = eb ∙ rw ea

-- the record's slices, where there is an answer just where nothing is refused
pub handed : (a : HeaderTold) (word : ℕ) (words words' : List ℕ) (signed signed' : List ℤ) (floats floats' : List Float)
    → a.given ≡ eqb a.refusal.number 0 → HandedBy a word words words' signed signed' floats floats' → HandedOut a word words words' signed signed' floats floats'
handed a word words words' signed signed' floats floats' e h =
    record { status = h.status; numbers = h.numbers ∙ rw e; signs = h.signs ∙ rw e; reals = h.reals ∙ rw e }

-- what is refused before anything is read stays so
pub refused_by : (f : Facts) (r : Refusal) (h : Read Header) → eqb r.number 0 ≡ false → answered f r h ≡ refused_header r
unfolding answered
refused_by f r h e = rw (e, e)

-- 2, 1 and 3 are refusals
number : (a b : Bool) → eqb (pick a (refusal 2 0) (pick b (refusal 1 0) (refusal 3 0))).number 0 ≡ false
number true b = refl
number false true = refl
number false false = refl

pub not_none : (n : ℕ) (f : Facts) → eqb (no_record n f).number 0 ≡ false
unfolding no_record
not_none n f = number (ltb 16777216 n) (bad_facts f)

-- a name buffer of fewer than 1,071 bytes is 3 in the same place
pub short_name : (n : ℕ) (f : Facts) (name upsampling blending : ℕ) → name < 1071 → judged n f name upsampling blending ≡ no_record n f
unfolding judged no_record
short_name n f name upsampling blending h = rw (lt-ltb name 1071 h)

-- so the judge refuses it
pub no_name : {A : Type 0} (n : ℕ) (f : Facts) (a : A) → ◌≡◌ {A = Result A Refusal} (or_refused (judged n f 0 0 0) a) (Err (no_record n f))
no_name n f a = rw (short_name n f 0 0 0 (omega arith), not_none n f)

pub refused_is : {A : Type 0} (x y : Refusal) → ◌≡◌ {A = Result A Refusal} (Err x) (Err y) → x ≡ y
refused_is x y e = cc
