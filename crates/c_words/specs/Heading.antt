-- The header entry: the order of the record's words, signed numbers and floats, and what the lent slices hold afterwards.
use Rattle.std.specs.Prelude.{ℕ, ◌≡◌, Bool, ◌&&◌, List, [], ◌∷◌, leb, ltb, eqb, Float, ℤ, length, set}
use Rattle.std.proofs.lemmas.List.Edits.{sets}
use Rattle.bits.specs.declared.Refusal.{Refusal}
use Rattle.bits.specs.Refusals.{pick, refusal}
use Rattle.filter.specs.declared.RestorationFilter.{RestorationFilter}
use Rattle.header.specs.declared.Facts.{Facts}
use Rattle.header.specs.declared.shape.Passes.{Passes}
use Rattle.header.specs.Blending.{words}
use Rattle.header.specs.Record.{HeaderNumbers}
use Rattle.header.specs.Entry.{bad_facts, judged, stands, HeaderTold, answered, buffer_after}
use Rattle.c_words.specs.Status.{status_of}
use Rattle.c_words.specs.Records.{bit}

abbrev pub facts : ℕ → ℕ → Bool → Bool → ℕ → Bool → Bool → Facts
facts width height xyb grey extra animation timecodes = record {
  width = width;
  height = height;
  xyb = xyb;
  grey = grey;
  extra = extra;
  animation = animation;
  timecodes = timecodes;
}

-- words 2 to 11
unfoldable pub front_words : HeaderNumbers → List ℕ
front_words h =
    h.frame_type
    ∷ h.encoding
    ∷ bit h.do_ycbcr
    ∷ h.encoded_color_channels
    ∷ h.upsampling
    ∷ h.group_size_shift
    ∷ h.x_qm_scale
    ∷ h.b_qm_scale
    ∷ h.passes.num_passes
    ∷ h.passes.num_ds
    ∷ []

-- words 33 to 50
unfoldable pub back_words : HeaderNumbers → List ℕ
back_words h =
    h.lf_level
    ∷ bit h.have_crop
    ∷ h.width
    ∷ h.height
    ∷ h.blending_info.mode
    ∷ h.blending_info.alpha_channel
    ∷ bit h.blending_info.clamp
    ∷ h.blending_info.source
    ∷ h.duration
    ∷ h.timecode
    ∷ bit h.is_last
    ∷ h.save_as_reference
    ∷ bit h.resets_canvas
    ∷ bit h.save_before_ct
    ∷ h.name_length
    ∷ bit h.restoration_filter.gab.enabled
    ∷ bit h.restoration_filter.epf.enabled
    ∷ h.restoration_filter.epf.iters
    ∷ []

-- words 0 to 11: the bit place after the header, the flags, then those
unfoldable pub front_after : HeaderTold → List ℕ → List ℕ
front_after a out = sets (set (set out 0 a.end) 1 a.header.flags) 2 (front_words a.header)

-- words 12 to 32: three of jpeg_upsampling, ten of shift, four of downsample, four of last_pass
unfoldable pub arrays_after : List ℕ → Passes → List ℕ → List ℕ
arrays_after jpeg passes out = sets (sets (sets (sets out 12 jpeg) 15 passes.shift) 25 passes.downsample) 29 passes.last_pass

-- all 51 words
unfoldable pub words_after : HeaderTold → List ℕ → List ℕ
words_after a out = sets (arrays_after a.header.jpeg_upsampling a.header.passes (front_after a out)) 33 (back_words a.header)

-- x0, y0
abbrev pub signed_after : HeaderNumbers → List ℤ → List ℤ
signed_after h out = set (set out 0 h.x0) 1 h.y0

-- the sigma values, and the modular sigma
abbrev pub last_floats : RestorationFilter → List Float
last_floats f =
    f.epf.params.quant_mul
    ∷ f.epf.params.pass0_sigma_scale
    ∷ f.epf.params.pass2_sigma_scale
    ∷ f.epf.params.border_sad_mul
    ∷ f.epf.params.sigma_for_modular
    ∷ []

-- all 22 floats: weights, sharpness values, channel scales, then those
unfoldable pub floats_after : RestorationFilter → List Float → List Float
floats_after f out =
    sets (sets (sets (sets out 0 f.gab.weights) 6 f.epf.params.sharp_lut) 14 f.epf.params.channel_scale) 17 (last_floats f)

-- a record's slices, written unless it is refused
pub record HandedOut (a : HeaderTold) (word : ℕ) (words words' : List ℕ) (signed signed' : List ℤ) (floats floats' : List Float) : Type 0 where
  pub status : word ≡ status_of a.refusal
  pub numbers : words' ≡ pick (eqb a.refusal.number 0) (words_after a words) words
  pub signs : signed' ≡ pick (eqb a.refusal.number 0) (signed_after a.header signed) signed
  pub reals : floats' ≡ pick (eqb a.refusal.number 0) (floats_after a.header.restoration_filter floats) floats

-- the same of any answer that is told, whatever its refusal: written where there is an answer
pub record HandedBy (a : HeaderTold) (word : ℕ) (words words' : List ℕ) (signed signed' : List ℤ) (floats floats' : List Float) : Type 0 where
  pub status : word ≡ status_of a.refusal
  pub numbers : words' ≡ pick a.given (words_after a words) words
  pub signs : signed' ≡ pick a.given (signed_after a.header signed) signed
  pub reals : floats' ≡ pick a.given (floats_after a.header.restoration_filter floats) floats

-- room for 51 words, 2 signed numbers and 22 floats
abbrev pub record_room : ℕ → ℕ → ℕ → Bool
record_room words signed floats = leb 51 words && (leb 2 signed && leb 22 floats)

-- 3 in its turn, where one of them is too short: 2, 1, 3
unfoldable pub no_record : ℕ → Facts → Refusal
no_record n f = pick (ltb 16777216 n) (refusal 2 0) (pick (bad_facts f) (refusal 1 0) (refusal 3 0))

-- the six lent slices
pub record Buffers : Type 0 where
  pub name : List ℕ
  pub upsampling : List ℕ
  pub blending : List ℕ
  pub numbers : List ℕ
  pub signs : List ℤ
  pub reals : List Float

abbrev pub buffers : List ℕ → List ℕ → List ℕ → List ℕ → List ℤ → List Float → Buffers
buffers n u b w i f = record { name = n; upsampling = u; blending = b; numbers = w; signs = i; reals = f }

-- before anything is read: 2, 1, 3
unfoldable pub judged_all : List ℕ → Facts → Buffers → Refusal
judged_all s f b =
    pick (record_room (length b.numbers) (length b.signs) (length b.reals))
    (judged (length s) f (length b.name) (length b.upsampling) (length b.blending))
    (no_record (length s) f)

-- what the entry promises: the status and every lent slice; on a refusal all six are as they were
pub record HeadRead (f : Facts) (s : List ℕ) (word : ℕ) (before after : Buffers) : Type 0 where
  pub named : after.name ≡ buffer_after (judged_all s f before) (stands f s) (stands f s).value.name before.name
  pub upsampled : after.upsampling ≡ buffer_after (judged_all s f before) (stands f s) (stands f s).value.upsampling before.upsampling
  pub blended : after.blending ≡ buffer_after (judged_all s f before) (stands f s) (words (stands f s).value.blending) before.blending
  pub recorded :
      HandedOut (answered f (judged_all s f before) (stands f s)) word before.numbers after.numbers before.signs after.signs before.reals after.reals
