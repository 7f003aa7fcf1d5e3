-- The group size to the frame's size, and the bundle `Passes`.
use Rattle.std.specs.Prelude.{◌+◌, ◌-◌, Bool, not, ◌&&◌, eqb, get_or}
use Rattle.bits.specs.declared.Choices.{Choices}
use Rattle.bits.specs.Refusals.{pick}
use Rattle.bits.specs.Codec.{u, bool, u32, val, plus, one_of}
use Rattle.bits.specs.Table.{Table, ends, row, bind}
use Rattle.types.specs.declared.FrameType.TheVariants.{LfFrame, ReferenceOnly}
use Rattle.types.specs.declared.Encoding.TheVariants.{VarDct, Modular}
use Rattle.types.specs.Types.{is_type, is_encoding}
use Rattle.header.specs.declared.Facts.{Facts}
use Rattle.header.specs.declared.opening.Opening.{Opening}
use Rattle.header.specs.declared.shape.Passes.{Passes}
use Rattle.header.specs.declared.shape.Scales.{Scales}
use Rattle.header.specs.declared.shape.Placement.{Placement}
use Rattle.header.specs.Arrays.{array}
use Rattle.header.specs.Opening.{upsamplings}

-- U32(1, 2, 3, 4 + u(3))
abbrev pub pass_counts : Choices
pass_counts = one_of (val 1) (val 2) (val 3) (plus 4 3)

-- U32(0, 1, 2, 3 + u(1))
abbrev pub downsamples : Choices
downsamples = one_of (val 0) (val 1) (val 2) (plus 3 1)

-- U32(0, 1, 2, u(3))
abbrev pub last_passes : Choices
last_passes = one_of (val 0) (val 1) (val 2) (plus 0 3)

-- U32(u(8), 256 + u(11), 2304 + u(14), 18688 + u(30))
abbrev pub places : Choices
places = one_of (plus 0 8) (plus 256 11) (plus 2304 14) (plus 18688 30)

-- 10 places for shifts, 4 each for the other two; those that are not sent are 0
unfoldable pub passes : Bool → Table Passes Passes
passes on =
    row on (u32 pass_counts) 1 (λ r. r.num_passes) λ n.
    row (not (eqb n 1)) (u32 downsamples) 0 (λ r. r.num_ds) λ ds.
    bind (array (u 2) (n - 1) 10 0 (λ r i. get_or r.shift i 0)) λ shift.
    bind (array (u32 upsamplings) ds 4 0 (λ r i. get_or r.downsample i 0)) λ downsample.
    bind (array (u32 last_passes) ds 4 0 (λ r i. get_or r.last_pass i 0)) λ last.
    ends (record { num_passes = n; num_ds = ds; shift = shift; downsample = downsample; last_pass = last })

-- `group_size_shift` is read for Modular, the two scales for XYB and VarDct; unread, `x_qm_scale` is 3 there and 2 otherwise
unfoldable pub scales : Facts → Opening → Table Scales Scales
scales f o =
    let xyb : Bool = f.xyb && is_encoding o.encoding VarDct in
    let scaled : Bool = eqb o.all_default 0 && xyb in
    row (is_encoding o.encoding Modular) (u 2) 1 (λ r. r.group_size_shift) λ shift.
    row scaled (u 3) (pick xyb 3 2) (λ r. r.x_qm_scale) λ x.
    row scaled (u 3) 2 (λ r. r.b_qm_scale) λ b.
    ends (record { group_size_shift = shift; x_qm_scale = x; b_qm_scale = b })

-- an LF frame has a level and no crop, a reference-only frame no place; with no crop the frame has the image's size
unfoldable pub placement : Facts → Opening → Table Placement Placement
placement f o =
    let lf : Bool = is_type o.frame_type LfFrame in
    row lf (u 2) 0 (λ r. r.lf_level - 1) λ level.
    row (eqb o.all_default 0 && not lf) bool 0 (λ r. r.have_crop) λ cropped.
    let placed : Bool = eqb cropped 1 && not (is_type o.frame_type ReferenceOnly) in
    row placed (u32 places) 0 (λ r. r.x0) λ x.
    row placed (u32 places) 0 (λ r. r.y0) λ y.
    row (eqb cropped 1) (u32 places) f.width (λ r. r.width) λ w.
    row (eqb cropped 1) (u32 places) f.height (λ r. r.height) λ h.
    ends (record { lf_level = pick lf (level + 1) 0; have_crop = cropped; x0 = x; y0 = y; width = w; height = h })
