-- The questions on a header, over its words.
use mathlib.Core.Path.{◌≡◌, refl}
use mathlib.Core.Bool.{not, ◌&&◌, ◌||◌}
use lib.Dec.{leb}
use Rattle.types.specs.declared.FrameType.{FrameType}
use Rattle.types.specs.declared.FrameType.TheVariants.{RegularFrame, LfFrame, ReferenceOnly, SkipProgressive}
use Rattle.header.specs.declared.FrameHeader.{FrameHeader}
use Rattle.header.specs.Questions.{is_keyframe, can_reference}
use Rattle.types.specs.Types.{frame_type_number, is_type, is_normal, is_lf}
use Rattle.export.specs.Asked.{keyframe, referable}

-- over a header's own words they are the header's questions
normal_by : (k : FrameType) → (is_type (frame_type_number k) RegularFrame || is_type (frame_type_number k) SkipProgressive) ≡ is_normal k
normal_by RegularFrame = refl
normal_by LfFrame = refl
normal_by ReferenceOnly = refl
normal_by SkipProgressive = refl

other_by : (k : FrameType) → (leb (frame_type_number k) 3 && not (is_type (frame_type_number k) LfFrame)) ≡ not (is_lf k)
other_by RegularFrame = refl
other_by LfFrame = refl
other_by ReferenceOnly = refl
other_by SkipProgressive = refl

pub keyframe_of_words : (h : FrameHeader) → keyframe (frame_type_number h.frame_type) h.is_last h.duration ≡ is_keyframe h
keyframe_of_words h = rw (normal_by h.frame_type)

pub reference_of_words : (h : FrameHeader) → referable (frame_type_number h.frame_type) h.is_last h.duration h.save_as_reference ≡ can_reference h
reference_of_words h = rw (other_by h.frame_type)
