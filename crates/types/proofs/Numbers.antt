-- An enum's numbers and its cases name one another: the number of a case names that case, and where a number names a case, it is that case's
-- number. A number below the count of cases names one.
use Rattle.std.specs.Prelude.{ℕ, ◌≡◌, ◌<◌, Ok, IsOk}
use Rattle.std.proofs.Common.{refl, arith, rules, suc, zero}
use Rattle.std.proofs.lemmas.Bool.Decides.{nat_tests}
use Rattle.types.specs.declared.FrameType.{FrameType}
use Rattle.types.specs.declared.FrameType.TheVariants.{RegularFrame, LfFrame, ReferenceOnly, SkipProgressive}
use Rattle.types.specs.declared.Encoding.{Encoding}
use Rattle.types.specs.declared.Encoding.TheVariants.{VarDct, Modular}
use Rattle.types.specs.declared.BlendMode.{BlendMode}
use Rattle.types.specs.declared.BlendMode.TheVariants.{Replace, Add, Blend, MulAdd, Mul}
use Rattle.types.specs.Types.{frame_type_number, encoding_number, blend_mode_number, frame_type_named, encoding_named, blend_mode_named}

pub frame_type_back : (k : FrameType) → frame_type_named (frame_type_number k) ≡ Ok k
frame_type_back RegularFrame = refl
frame_type_back LfFrame = refl
frame_type_back ReferenceOnly = refl
frame_type_back SkipProgressive = refl

pub frame_type_same : (n : ℕ) (k : FrameType) → frame_type_named n ≡ Ok k → frame_type_number k ≡ n
frame_type_same zero k e = cc
frame_type_same (suc zero) k e = cc
frame_type_same (suc (suc zero)) k e = cc
frame_type_same (suc (suc (suc zero))) k e = cc
frame_type_same (suc (suc (suc (suc n)))) k e = grind (arith, nat_tests)

pub frame_type_there : (n : ℕ) → n < 4 → IsOk (frame_type_named n)
frame_type_there zero h = search rules
frame_type_there (suc zero) h = search rules
frame_type_there (suc (suc zero)) h = search rules
frame_type_there (suc (suc (suc zero))) h = search rules
frame_type_there (suc (suc (suc (suc n)))) h = absurd (omega arith)

pub encoding_back : (k : Encoding) → encoding_named (encoding_number k) ≡ Ok k
encoding_back VarDct = refl
encoding_back Modular = refl

pub encoding_same : (n : ℕ) (k : Encoding) → encoding_named n ≡ Ok k → encoding_number k ≡ n
encoding_same zero k e = cc
encoding_same (suc zero) k e = cc
encoding_same (suc (suc n)) k e = grind (arith, nat_tests)

pub encoding_there : (n : ℕ) → n < 2 → IsOk (encoding_named n)
encoding_there zero h = search rules
encoding_there (suc zero) h = search rules
encoding_there (suc (suc n)) h = absurd (omega arith)

pub blend_mode_back : (k : BlendMode) → blend_mode_named (blend_mode_number k) ≡ Ok k
blend_mode_back Replace = refl
blend_mode_back Add = refl
blend_mode_back Blend = refl
blend_mode_back MulAdd = refl
blend_mode_back Mul = refl

pub blend_mode_same : (n : ℕ) (k : BlendMode) → blend_mode_named n ≡ Ok k → blend_mode_number k ≡ n
blend_mode_same zero k e = cc
blend_mode_same (suc zero) k e = cc
blend_mode_same (suc (suc zero)) k e = cc
blend_mode_same (suc (suc (suc zero))) k e = cc
blend_mode_same (suc (suc (suc (suc zero)))) k e = cc
blend_mode_same (suc (suc (suc (suc (suc n))))) k e = grind (arith, nat_tests)

pub blend_mode_there : (n : ℕ) → n < 5 → IsOk (blend_mode_named n)
blend_mode_there zero h = search rules
blend_mode_there (suc zero) h = search rules
blend_mode_there (suc (suc zero)) h = search rules
blend_mode_there (suc (suc (suc zero))) h = search rules
blend_mode_there (suc (suc (suc (suc zero)))) h = search rules
blend_mode_there (suc (suc (suc (suc (suc n))))) h = absurd (omega arith)
