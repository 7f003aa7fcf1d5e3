-- Any two outcomes that a promise allows are equal, answer and every lent buffer: of each promise that is a record of equations, `NAME-once`.
use Prim.Native.Nat.{ℕ}
use mathlib.Core.Path.{◌≡◌, refl, sym, ◌∙◌, ap}
use mathlib.Core.List.{List}
use lib.Dec.{eqb}
use Rattle.std.specs.Prelude.{Result, Ok, Err, true, false}
use lib.Ieee.{Float}
use lib.IntN.{ℤ}
use Rattle.bits.specs.declared.Refusal.{Refusal}
use Rattle.bits.specs.Refusals.{pick}
use Rattle.bits.proofs.Once.{once}
use Rattle.header.specs.declared.Facts.{Facts}
use Rattle.header.specs.declared.entry.HeaderRead.{HeaderRead}
use Rattle.header.specs.declared.FrameHeader.{FrameHeader}
use Rattle.header.specs.declared.blending.BlendingInfo.{BlendingInfo}
use Rattle.header.specs.Record.{BlendingNumbers, HeaderNumbers, numbers_of}
use Rattle.header.specs.Entry.{HeaderTold, told, refused_header, Headed}
use Rattle.types.specs.declared.FrameType.{FrameType}
use Rattle.types.specs.declared.FrameType.TheVariants.{RegularFrame, LfFrame, ReferenceOnly, SkipProgressive}
use Rattle.types.specs.declared.Encoding.{Encoding}
use Rattle.types.specs.declared.Encoding.TheVariants.{VarDct, Modular}
use Rattle.types.specs.declared.BlendMode.{BlendMode}
use Rattle.types.specs.declared.BlendMode.TheVariants.{Replace, Add, Blend, MulAdd, Mul}
use Rattle.types.specs.Types.{frame_type_number, encoding_number, blend_mode_number}
use Rattle.grid.specs.declared.Frame.{Frame}
use Rattle.order.specs.declared.SectionNumber.{SectionNumber}
use Rattle.sections.specs.declared.TocGroupKind.{TocGroupKind}
use Rattle.sections.specs.Kinds.{KindAnswer, KindTold, kind_told, kind_of, numbers_of as kind_numbers_of, numbers_in, kind_or_refused}
use Rattle.toc.specs.declared.TocRead.{TocRead}
use Rattle.toc.specs.declared.TocRead.TheVariants.{Table as ReadTable, OrderNeeded as ReadOrderNeeded}
use Rattle.toc.specs.Reading.{TocAnswer, Table, OrderNeeded, Refused, toc_told, Tables, Reading, first_reading, second_reading, Done}
use Rattle.toc.proofs.Accepted.{Telling, same_answer, first_telling, second_telling}
use Rattle.theorems.proofs.KindsBack.{same_kind}
use Rattle.listing.specs.Put.{Texted}
use Rattle.c_words.specs.Answers.{Answer, Given, Handed}
use Rattle.c_words.specs.Contents.{Listed}
use Rattle.c_words.specs.Heading.{Buffers, HandedOut, HandedBy, HeadRead}

-- ---- enums, whose promises name their numbers

abbrev pub type_by : ℕ → FrameType
type_by n = pick (eqb n 0) RegularFrame (pick (eqb n 1) LfFrame (pick (eqb n 2) ReferenceOnly SkipProgressive))

type_by_lem : (k : FrameType) → type_by (frame_type_number k) ≡ k
type_by_lem RegularFrame = refl
type_by_lem LfFrame = refl
type_by_lem ReferenceOnly = refl
type_by_lem SkipProgressive = refl

abbrev pub encoding_by : ℕ → Encoding
encoding_by n = pick (eqb n 0) VarDct Modular

encoding_by_lem : (e : Encoding) → encoding_by (encoding_number e) ≡ e
encoding_by_lem VarDct = refl
encoding_by_lem Modular = refl

abbrev pub mode_by : ℕ → BlendMode
mode_by n = pick (eqb n 0) Replace (pick (eqb n 1) Add (pick (eqb n 2) Blend (pick (eqb n 3) MulAdd Mul)))

mode_by_lem : (m : BlendMode) → mode_by (blend_mode_number m) ≡ m
mode_by_lem Replace = refl
mode_by_lem Add = refl
mode_by_lem Blend = refl
mode_by_lem MulAdd = refl
mode_by_lem Mul = refl

-- a header's record is told whole by its numbers
abbrev pub info_by : BlendingNumbers → BlendingInfo
info_by b = record { mode = mode_by b.mode; alpha_channel = b.alpha_channel; clamp = b.clamp; source = b.source }

abbrev pub header_by : HeaderNumbers → FrameHeader
header_by h = record {
  frame_type = type_by h.frame_type;
  encoding = encoding_by h.encoding;
  flags = record { 0 = h.flags };
  blending_info = info_by h.blending_info;
  do_ycbcr = h.do_ycbcr;
  encoded_color_channels = h.encoded_color_channels;
  jpeg_upsampling = h.jpeg_upsampling;
  upsampling = h.upsampling;
  group_size_shift = h.group_size_shift;
  x_qm_scale = h.x_qm_scale;
  b_qm_scale = h.b_qm_scale;
  passes = h.passes;
  lf_level = h.lf_level;
  have_crop = h.have_crop;
  x0 = h.x0;
  y0 = h.y0;
  width = h.width;
  height = h.height;
  duration = h.duration;
  timecode = h.timecode;
  is_last = h.is_last;
  save_as_reference = h.save_as_reference;
  resets_canvas = h.resets_canvas;
  save_before_ct = h.save_before_ct;
  name_length = h.name_length;
  restoration_filter = h.restoration_filter;
}

header_by_lem : (h : FrameHeader) → header_by (numbers_of h) ≡ h
header_by_lem h = rw (type_by_lem h.frame_type, encoding_by_lem h.encoding, mode_by_lem h.blending_info.mode)

pub same_header : (x y : Result HeaderRead Refusal) → told x ≡ told y → x ≡ y
unfolding refused_header
same_header (Ok x) (Ok y) e =
    let same : x.header ≡ y.header = sym (header_by_lem x.header) ∙ ap (λ (t : HeaderTold). header_by t.header) e ∙ header_by_lem y.header in
    λ i. Ok (record { header = same i; end = (e i).end })
same_header (Err x) (Err y) e = λ i. Err (e i).refusal
same_header (Ok x) (Err y) e = let no : true ≡ false = ap (λ (t : HeaderTold). t.given) e in cc
same_header (Err x) (Ok y) e = let no : false ≡ true = ap (λ (t : HeaderTold). t.given) e in cc

-- the header entry
pub headed_once : (f : Facts) (s : List ℕ) (x y : Result HeaderRead Refusal) (name upsampling blending n u b n' u' b' : List ℕ)
    → Headed f s x name n upsampling u blending b → Headed f s y name n' upsampling u' blending b'
    → (x ≡ y) × (n ≡ n') × (u ≡ u') × (b ≡ b')
headed_once f s x y name upsampling blending n u b n' u' b' p q =
    (same_header x y (once p.answer q.answer), once p.named q.named, once p.upsampled q.upsampled, once p.blended q.blended)

-- the kind of a section
pub kind_once : (f : Frame) (section : SectionNumber) (x y : KindAnswer) → kind_told x ≡ kind_of f section → kind_told y ≡ kind_of f section → x ≡ y
kind_once f section x y p q =
    let e : kind_told x ≡ kind_told y = once p q in
    let same : x.kind ≡ y.kind = same_kind x.kind y.kind (ap (λ (t : KindTold). t.numbers) e) in
    λ i. record { kind = same i; refusal = (e i).refusal }

-- the same as it is answered: the kind or the refusal, told whole by the kind's numbers
same_answered : (x y : Result TocGroupKind Refusal) → numbers_in x ≡ numbers_in y → x ≡ y
same_answered (Ok x) (Ok y) e = let same : kind_numbers_of x ≡ kind_numbers_of y = cc in ap Ok (same_kind x y same)
same_answered (Err x) (Err y) e = let same : x ≡ y = cc in ap Err same
same_answered (Ok x) (Err y) e = absurd cc
same_answered (Err x) (Ok y) e = absurd cc

pub numbers_in_once : (f : Frame) (section : SectionNumber) (x y : Result TocGroupKind Refusal)
    → numbers_in x ≡ kind_or_refused (kind_of f section) → numbers_in y ≡ kind_or_refused (kind_of f section) → x ≡ y
numbers_in_once f section x y p q = same_answered x y (once p q)

-- what a section entry answers is told whole
abbrev pub toc_by : TocAnswer → Result TocRead Refusal
toc_by (Table toc) = Ok (ReadTable toc)
toc_by (OrderNeeded place) = Ok (ReadOrderNeeded place)
toc_by (Refused r) = Err r

toc_by_lem : (x : Result TocRead Refusal) → toc_by (toc_told x) ≡ x
toc_by_lem (Ok (ReadTable toc)) = refl
toc_by_lem (Ok (ReadOrderNeeded place)) = refl
toc_by_lem (Err r) = refl

pub same_toc : (x y : Result TocRead Refusal) → toc_told x ≡ toc_told y → x ≡ y
same_toc x y e = sym (toc_by_lem x) ∙ ap toc_by e ∙ toc_by_lem y

-- both section entries
pub done_once : (r : Reading) → Telling r.answer → (before : Tables) (x y : Result TocRead Refusal) (o s p i o' s' p' i' : List ℕ)
    → Done r before (toc_told x) o s p i → Done r before (toc_told y) o' s' p' i'
    → (x ≡ y) × (o ≡ o') × (s ≡ s') × (p ≡ p') × (i ≡ i')
done_once r k before x y o s p i o' s' p' i' d e =
    let same : toc_told x ≡ toc_told y = once (same_answer (toc_told x) r.answer k d.answer) (same_answer (toc_told y) r.answer k e.answer) in
    (same_toc x y same, once d.offsets e.offsets, once d.sizes e.sizes, once d.order e.order, once d.inverse e.inverse)

pub first_once : (s : List ℕ) (f : Frame) (place : ℕ) (t : Tables) (x y : Result TocRead Refusal) (o z p i o' z' p' i' : List ℕ)
    → Done (first_reading s f place t) t (toc_told x) o z p i → Done (first_reading s f place t) t (toc_told y) o' z' p' i'
    → (x ≡ y) × (o ≡ o') × (z ≡ z') × (p ≡ p') × (i ≡ i')
first_once s f place t = done_once (first_reading s f place t) (first_telling s f place t) t

pub second_once : (s : List ℕ) (f : Frame) (place : ℕ) (lent : List ℕ) (t : Tables) (x y : Result TocRead Refusal) (o z p i o' z' p' i' : List ℕ)
    → Done (second_reading s f place lent t) t (toc_told x) o z p i → Done (second_reading s f place lent t) t (toc_told y) o' z' p' i'
    → (x ≡ y) × (o ≡ o') × (z ≡ z') × (p ≡ p') × (i ≡ i')
second_once s f place lent t = done_once (second_reading s f place lent t) (second_telling s f place t lent) t

-- a text
pub texted_once : (r : Refusal) (text before : List ℕ) (x y : Result ℕ Refusal) (u v : List ℕ) → Texted r text before x u → Texted r text before y v → (x ≡ y) × (u ≡ v)
texted_once r text before x y u v p q = (once p.answer q.answer, once p.bytes q.bytes)

-- the C functions
pub given_once : (a : Answer) (before : List ℕ) (x y : ℕ) (u v : List ℕ) → Given a before x u → Given a before y v → (x ≡ y) × (u ≡ v)
given_once a before x y u v p q = (once p.status q.status, once p.words q.words)

pub handed_once : (n : ℕ) (a : Result (List ℕ) Refusal) (before : List ℕ) (x y : ℕ) (u v : List ℕ) → Handed n a before x u → Handed n a before y v → (x ≡ y) × (u ≡ v)
handed_once n a before x y u v p q = (once p.status q.status, once p.words q.words)

pub listed_once : (r : Reading) (before : Tables) (x y : ℕ) (o s p i w o' s' p' i' w' out : List ℕ)
    → Listed r before x o s p i out w → Listed r before y o' s' p' i' out w'
    → (x ≡ y) × (o ≡ o') × (s ≡ s') × (p ≡ p') × (i ≡ i') × (w ≡ w')
listed_once r before x y o s p i w o' s' p' i' w' out d e =
    (once d.status e.status, once d.offsets e.offsets, once d.sizes e.sizes, once d.order e.order, once d.inverse e.inverse, once d.words e.words)

pub handedout_once : (a : HeaderTold) (x y : ℕ) (w w₁ w₂ : List ℕ) (i i₁ i₂ : List ℤ) (f f₁ f₂ : List Float)
    → HandedOut a x w w₁ i i₁ f f₁ → HandedOut a y w w₂ i i₂ f f₂ → (x ≡ y) × (w₁ ≡ w₂) × (i₁ ≡ i₂) × (f₁ ≡ f₂)
handedout_once a x y w w₁ w₂ i i₁ i₂ f f₁ f₂ p q =
    (once p.status q.status, once p.numbers q.numbers, once p.signs q.signs, once p.reals q.reals)

pub handedby_once : (a : HeaderTold) (x y : ℕ) (w w₁ w₂ : List ℕ) (i i₁ i₂ : List ℤ) (f f₁ f₂ : List Float)
    → HandedBy a x w w₁ i i₁ f f₁ → HandedBy a y w w₂ i i₂ f f₂ → (x ≡ y) × (w₁ ≡ w₂) × (i₁ ≡ i₂) × (f₁ ≡ f₂)
handedby_once a x y w w₁ w₂ i i₁ i₂ f f₁ f₂ p q =
    (once p.status q.status, once p.numbers q.numbers, once p.signs q.signs, once p.reals q.reals)

pub headread_once : (f : Facts) (s : List ℕ) (x y : ℕ) (before u v : Buffers) → HeadRead f s x before u → HeadRead f s y before v
    → (x ≡ y) × (u.name ≡ v.name) × (u.upsampling ≡ v.upsampling) × (u.blending ≡ v.blending) × (u.numbers ≡ v.numbers) × (u.signs ≡ v.signs) × (u.reals ≡ v.reals)
headread_once f s x y before u v d e = (
  once d.recorded.status e.recorded.status,
  once d.named e.named,
  once d.upsampled e.upsampled,
  once d.blended e.blended,
  once d.recorded.numbers e.recorded.numbers,
  once d.recorded.signs e.recorded.signs,
  once d.recorded.reals e.recorded.reals,
)
