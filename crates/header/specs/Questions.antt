-- The questions on a header's record.
use Rattle.std.specs.Prelude.{Bool, not, ◌&&◌, ◌||◌, eqb}
use Rattle.types.specs.Types.{is_normal, is_lf}
use Rattle.header.specs.declared.FrameHeader.{FrameHeader}

abbrev pub is_keyframe : FrameHeader → Bool
is_keyframe h = is_normal h.frame_type && (h.is_last || not (eqb h.duration 0))

abbrev pub can_reference : FrameHeader → Bool
can_reference h = (not h.is_last && (eqb h.duration 0 || not (eqb h.save_as_reference 0))) && not (is_lf h.frame_type)
