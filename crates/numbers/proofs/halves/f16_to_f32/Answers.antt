-- `f16_to_f32`: the product is the f32 of the pattern, for a subnormal and for a normal number.
use Rattle.std.proofs.Common.{◌/◌, arith}
use lib.Bits.{and_le_r}
use Rattle.numbers.proofs.Half.{no_nan_pattern, zero_is, normal_is, mantissa_fits}
use Rattle.numbers.proofs.halves.f16_to_f32.Goals as goal

pub int_to_float-result : goal.int_to_float-result
int_to_float-result c = mantissa_fits _ (omega (arith, and_le_r c.args.h 1023))

pub float_from_bits-result : goal.float_from_bits-result
float_from_bits-result c = no_nan_pattern c.args.h 103 (omega arith)

pub overflow_add-result : goal.overflow_add-result
overflow_add-result c = omega (arith, and_le_r c.args.h 1023)

pub int_to_float-result-else-e-eq0 : goal.int_to_float-result-else-e-eq0
int_to_float-result-else-e-eq0 c = mantissa_fits _ (omega (arith, and_le_r c.args.h 1023))

pub overflow_add-result-else-e-eq0 : goal.overflow_add-result-else-e-eq0
overflow_add-result-else-e-eq0 c = omega (arith, and_le_r (c.args.h / 1024) 31)

pub float_from_bits-result-else-e-eq0 : goal.float_from_bits-result-else-e-eq0
float_from_bits-result-else-e-eq0 c = no_nan_pattern c.args.h _ (omega (arith, and_le_r (c.args.h / 1024) 31))

pub returns-then-e-eq0 : goal.returns-then-e-eq0
returns-then-e-eq0 c = zero_is c.args.h c.if-e-eq0.true

pub returns-else-e-eq0 : goal.returns-else-e-eq0
returns-else-e-eq0 c = normal_is c.args.h c.if-e-eq0.false
