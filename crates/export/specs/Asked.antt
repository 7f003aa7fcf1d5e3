-- The questions on a header, over the numbers of its words. A number that names no frame type is answered with no.
use Rattle.std.specs.Prelude.{ℕ, Bool, not, ◌&&◌, ◌||◌, leb, eqb}
use Rattle.types.specs.declared.FrameType.TheVariants.{RegularFrame, LfFrame, SkipProgressive}
use Rattle.types.specs.Types.{is_type}

-- `is_keyframe`: normal, and the last or of some duration
abbrev pub keyframe : ℕ → Bool → ℕ → Bool
keyframe kind last duration = (is_type kind RegularFrame || is_type kind SkipProgressive) && (last || not (eqb duration 0))

-- `can_reference`: not the last, of no duration or saved, and no LF frame
abbrev pub referable : ℕ → Bool → ℕ → ℕ → Bool
referable kind last duration saved = (not last && (eqb duration 0 || not (eqb saved 0))) && (leb kind 3 && not (is_type kind LfFrame))
