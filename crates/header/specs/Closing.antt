-- Duration to the name's length.
use Rattle.std.specs.Prelude.{ℕ, Bool, not, ◌&&◌, ◌||◌, eqb}
use Rattle.bits.specs.declared.Choices.{Choices}
use Rattle.bits.specs.Refusals.{pick}
use Rattle.bits.specs.Codec.{u, bool, u32, val, plus, one_of}
use Rattle.bits.specs.Table.{Table, ends, row}
use Rattle.types.specs.declared.FrameType.TheVariants.{RegularFrame, LfFrame, ReferenceOnly}
use Rattle.types.specs.Types.{is_type}
use Rattle.header.specs.declared.Facts.{Facts}
use Rattle.header.specs.declared.opening.Opening.{Opening}
use Rattle.header.specs.declared.closing.Closing.{Closing}
use Rattle.header.specs.Opening.{normal_frame}

-- U32(0, 1, u(8), u(32))
abbrev pub durations : Choices
durations = one_of (val 0) (val 1) (plus 0 8) (plus 0 32)

-- U32(0, u(4), 16 + u(5), 48 + u(10))
abbrev pub name_lengths : Choices
name_lengths = one_of (val 0) (plus 0 4) (plus 16 5) (plus 48 10)

-- A frame that is neither an LF frame nor the last can be saved as a reference.
abbrev pub can_save : Opening → ℕ → Bool
can_save o last = not (is_type o.frame_type LfFrame) && eqb last 0

-- It can be referenced where it is of no duration, or saved.
abbrev pub can_refer_to : Opening → ℕ → ℕ → ℕ → Bool
can_refer_to o last duration reference = can_save o last && (eqb duration 0 || not (eqb reference 0))

-- `save_before_ct` is read for a reference-only frame, and for one that resets the canvas and can be referenced.
abbrev pub asks_before_ct : Opening → Bool → ℕ → ℕ → ℕ → Bool
asks_before_ct o resets last duration reference = is_type o.frame_type ReferenceOnly || (resets && can_refer_to o last duration reference)

unfoldable pub closing : Facts → Opening → Bool → Table Closing Closing
closing f o resets =
    let on : Bool = eqb o.all_default 0 in
    let normal : Bool = normal_frame o in
    row ((on && normal) && f.animation) (u32 durations) 0 (λ r. r.duration) λ duration.
    row ((on && normal) && (f.animation && f.timecodes)) (u 32) 0 (λ r. r.timecode) λ timecode.
    row (on && normal) bool (pick (is_type o.frame_type RegularFrame) 1 0) (λ r. r.is_last) λ last.
    row (on && can_save o last) (u 2) 0 (λ r. r.save_as_reference) λ reference.
    row (on && asks_before_ct o resets last duration reference) bool (pick normal 0 1) (λ r. r.save_before_ct) λ ct.
    row on (u32 name_lengths) 0 (λ r. r.name_length) λ name.
    ends (record {
      duration = duration;
      timecode = timecode;
      is_last = last;
      save_as_reference = reference;
      save_before_ct = ct;
      name_length = name;
    })
