-- all_default to upsampling.
use Rattle.std.specs.Prelude.{Bool, true, not, ◌&&◌, ◌||◌, eqb}
use Rattle.bits.specs.declared.Choices.{Choices}
use Rattle.bits.specs.Codec.{u, bool, u32, u64, val, one_of}
use Rattle.bits.specs.Table.{Table, ends, row}
use Rattle.header.specs.declared.Facts.{Facts}
use Rattle.header.specs.declared.opening.Opening.{Opening}
use Rattle.types.specs.declared.FrameType.TheVariants.{RegularFrame, SkipProgressive}
use Rattle.types.specs.Types.{is_type, use_lf_frame}

-- U32(1, 2, 4, 8)
abbrev pub upsamplings : Choices
upsamplings = one_of (val 1) (val 2) (val 4) (val 8)

-- a regular frame or one to skip in progressive decoding
abbrev pub normal_frame : Opening → Bool
normal_frame o = is_type o.frame_type RegularFrame || is_type o.frame_type SkipProgressive

-- `all_default` isn't kept: a later writer writes it as 0
unfoldable pub opening : Facts → Table Opening Opening
opening f =
    row true bool 1 (λ r. 0) λ all.
    let on : Bool = eqb all 0 in
    row on (u 2) 0 (λ r. r.frame_type) λ kind.
    row on (u 1) 0 (λ r. r.encoding) λ encoding.
    row on u64 0 (λ r. r.flags) λ flags.
    row (on && not f.xyb) bool 0 (λ r. r.do_ycbcr) λ ycbcr.
    let jpeg : Bool = eqb ycbcr 1 && not (use_lf_frame flags) in
    row jpeg (u 2) 0 (λ r. r.jpeg0) λ j0.
    row jpeg (u 2) 0 (λ r. r.jpeg1) λ j1.
    row jpeg (u 2) 0 (λ r. r.jpeg2) λ j2.
    row (on && not (use_lf_frame flags)) (u32 upsamplings) 1 (λ r. r.upsampling) λ up.
    ends (record {
      all_default = all;
      frame_type = kind;
      encoding = encoding;
      flags = flags;
      do_ycbcr = ycbcr;
      jpeg0 = j0;
      jpeg1 = j1;
      jpeg2 = j2;
      upsampling = up;
    })
