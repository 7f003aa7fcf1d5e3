-- The frame header: its fields in the file's order, and the record that is kept of them.
use Rattle.std.specs.Prelude.{ℕ, Bool, true, not, ◌&&◌, List, eqb, get_or}
use Rattle.bits.specs.Refusals.{pick}
use Rattle.bits.specs.Codec.{u, u32}
use Rattle.bits.specs.Table.{Table, ends, bind, within, times}
use Rattle.bits.specs.Extensions.{extensions}
use Rattle.filter.specs.Filter.{restoration}
use Rattle.header.specs.declared.Facts.{Facts}
use Rattle.header.specs.declared.opening.Opening.{Opening}
use Rattle.header.specs.declared.shape.Placement.{Placement}
use Rattle.header.specs.declared.blending.Blending.{Blending}
use Rattle.header.specs.declared.parts.Front.{Front}
use Rattle.header.specs.declared.parts.Back.{Back}
use Rattle.types.specs.declared.FrameType.TheVariants.{ReferenceOnly}
use Rattle.types.specs.declared.Encoding.TheVariants.{Modular}
use Rattle.types.specs.Types.{is_type, is_encoding, use_lf_frame}
use Rattle.header.specs.Arrays.{array}
use Rattle.header.specs.Opening.{normal_frame, opening, upsamplings}
use Rattle.header.specs.Shape.{passes, scales, placement}
use Rattle.header.specs.Blending.{covers_image, resets, by_own, source_decider, blending}
use Rattle.header.specs.Closing.{closing}

-- all that a header says
pub record Header : Type 0 where
  pub front : Front
  pub upsampling : List ℕ
  pub back : Back
  pub blending : List Blending
  pub name : List ℕ

-- how many extra channels send their upsampling
abbrev pub sent_upsampling : Facts → Opening → ℕ
sent_upsampling f o = pick (eqb o.all_default 0 && not (use_lf_frame o.flags)) f.extra 0

-- a normal frame that isn't all default
abbrev pub sends_blending : Opening → Bool
sends_blending o = eqb o.all_default 0 && normal_frame o

abbrev pub no_blending : Blending
no_blending = record { mode = 0; alpha_channel = 0; clamp = 0; source = 0 }

-- what the first part hands on
pub record Begun : Type 0 where
  pub front : Front
  pub upsampling : List ℕ

-- all_default to height
unfoldable pub front : Facts → Table Header Begun
front f =
    bind (within (λ h. h.front.opening) (opening f)) λ o.
    bind (array (u32 upsamplings) (sent_upsampling f o) f.extra 1 (λ h i. get_or h.upsampling i 1)) λ ups.
    bind (within (λ h. h.front.scales) (scales f o)) λ q.
    bind (within (λ h. h.front.passes) (passes (eqb o.all_default 0 && not (is_type o.frame_type ReferenceOnly)))) λ p.
    bind (within (λ h. h.front.placement) (placement f o)) λ c.
    ends (record { front = record { opening = o; scales = q; passes = p; placement = c }; upsampling = ups })

-- what the second part hands on
pub record Ended : Type 0 where
  pub back : Back
  pub blending : List Blending
  pub name : List ℕ

-- blending_info to extensions, by what was opened and where the frame lies
unfoldable pub back : Facts → Opening → Placement → Table Header Ended
back f o p =
    let full : Bool = covers_image f p in
    let on : Bool = eqb o.all_default 0 in
    bind (within (λ h. h.back.blending) (blending (sends_blending o) (not (eqb f.extra 0)) full by_own)) λ colour.
    bind (times f.extra 0 λ i. within (λ h. get_or h.blending i no_blending) (blending (sends_blending o) true full (source_decider f colour.mode))) λ channels.
    bind (within (λ h. h.back.closing) (closing f o (resets colour.mode full))) λ e.
    bind (array (u 8) e.name_length e.name_length 0 (λ h i. get_or h.name i 0)) λ name.
    bind (within (λ h. h.back.filter) (restoration on (is_encoding o.encoding Modular))) λ filter.
    bind (within (λ h. tt) (extensions on)) λ skipped.
    ends (record { back = record { blending = colour; closing = e; filter = filter }; blending = channels; name = name })

-- the frame header
unfoldable pub header : Facts → Table Header Header
header f =
    bind (front f) λ b.
    bind (back f b.front.opening b.front.placement) λ e.
    ends (record { front = b.front; upsampling = b.upsampling; back = e.back; blending = e.blending; name = e.name })
