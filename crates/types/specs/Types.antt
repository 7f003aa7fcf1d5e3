-- The enums of a frame header: each case's number, and their questions. Every promise that answers such an enum names its number.
use Rattle.std.specs.Prelude.{ℕ, ◌/◌, ◌%◌, Bool, true, false, eqb, cond, Result, Ok, Err}
use Rattle.types.specs.declared.FrameType.{FrameType}
use Rattle.types.specs.declared.FrameType.TheVariants.{RegularFrame, LfFrame, ReferenceOnly, SkipProgressive}
use Rattle.types.specs.declared.Encoding.{Encoding}
use Rattle.types.specs.declared.Encoding.TheVariants.{VarDct, Modular}
use Rattle.types.specs.declared.BlendMode.{BlendMode}
use Rattle.types.specs.declared.BlendMode.TheVariants.{Replace, Add, Blend, MulAdd, Mul}
use Rattle.types.specs.declared.UnknownCase.{UnknownCase}

-- the types of a frame, u(2)
abbrev pub frame_type_number : FrameType → ℕ
frame_type_number RegularFrame = 0
frame_type_number LfFrame = 1
frame_type_number ReferenceOnly = 2
frame_type_number SkipProgressive = 3

-- the encodings, u(1)
abbrev pub encoding_number : Encoding → ℕ
encoding_number VarDct = 0
encoding_number Modular = 1

-- the blend modes, 0 to 4
abbrev pub blend_mode_number : BlendMode → ℕ
blend_mode_number Replace = 0
blend_mode_number Add = 1
blend_mode_number Blend = 2
blend_mode_number MulAdd = 3
blend_mode_number Mul = 4

-- whether a number names a case
abbrev pub is_type : ℕ → FrameType → Bool
is_type n k = eqb n (frame_type_number k)

abbrev pub is_encoding : ℕ → Encoding → Bool
is_encoding n e = eqb n (encoding_number e)

abbrev pub is_mode : ℕ → BlendMode → Bool
is_mode n m = eqb n (blend_mode_number m)

-- the case that a number names, or the number itself where none has it
abbrev pub unknown : ℕ → UnknownCase
unknown n = record { 0 = n }

abbrev pub frame_type_named : ℕ → Result FrameType UnknownCase
frame_type_named n =
    cond (is_type n RegularFrame) (Ok RegularFrame)
    (cond (is_type n LfFrame) (Ok LfFrame)
    (cond (is_type n ReferenceOnly) (Ok ReferenceOnly)
    (cond (is_type n SkipProgressive) (Ok SkipProgressive)
    (Err (unknown n)))))

abbrev pub encoding_named : ℕ → Result Encoding UnknownCase
encoding_named n =
    cond (is_encoding n VarDct) (Ok VarDct)
    (cond (is_encoding n Modular) (Ok Modular)
    (Err (unknown n)))

abbrev pub blend_mode_named : ℕ → Result BlendMode UnknownCase
blend_mode_named n =
    cond (is_mode n Replace) (Ok Replace)
    (cond (is_mode n Add) (Ok Add)
    (cond (is_mode n Blend) (Ok Blend)
    (cond (is_mode n MulAdd) (Ok MulAdd)
    (cond (is_mode n Mul) (Ok Mul)
    (Err (unknown n))))))

abbrev pub is_normal : FrameType → Bool
is_normal RegularFrame = true
is_normal LfFrame = false
is_normal ReferenceOnly = false
is_normal SkipProgressive = true

abbrev pub is_lf : FrameType → Bool
is_lf RegularFrame = false
is_lf LfFrame = true
is_lf ReferenceOnly = false
is_lf SkipProgressive = false

abbrev pub is_progressive : FrameType → Bool
is_progressive RegularFrame = true
is_progressive LfFrame = true
is_progressive ReferenceOnly = false
is_progressive SkipProgressive = false

abbrev pub uses_alpha : BlendMode → Bool
uses_alpha Replace = false
uses_alpha Add = false
uses_alpha Blend = true
uses_alpha MulAdd = true
uses_alpha Mul = false

-- the flag of a weight, a power of two
abbrev pub flagged : ℕ → ℕ → Bool
flagged weight flags = eqb (flags / weight % 2) 1

-- NOISE 0x1, PATCHES 0x2, SPLINES 0x10, USE_LF_FRAME 0x20, SKIP_ADAPTIVE_LF_SMOOTHING 0x80
abbrev pub noise : ℕ → Bool
noise flags = flagged 1 flags

abbrev pub patches : ℕ → Bool
patches flags = flagged 2 flags

abbrev pub splines : ℕ → Bool
splines flags = flagged 16 flags

abbrev pub use_lf_frame : ℕ → Bool
use_lf_frame flags = flagged 32 flags

abbrev pub skip_adaptive_lf_smoothing : ℕ → Bool
skip_adaptive_lf_smoothing flags = flagged 128 flags
