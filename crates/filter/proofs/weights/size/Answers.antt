-- `size`: a subnormal's fraction, or a shift that loses nothing.
use native.Mathlib.Omega.{arith}
use Prim.Native.Nat.{◌/◌}
use lib.Bits.{and_le_r}
use Rattle.filter.proofs.WeightLaws.{size_zero, size_normal}
use Rattle.filter.proofs.weights.size.Goals as goal

pub overflow_cast-result : goal.overflow_cast-result
overflow_cast-result c = omega (arith, and_le_r c.args.h 1023)

pub overflow_add-result : goal.overflow_add-result
overflow_add-result c = omega (arith, and_le_r c.args.h 1023)

pub overflow_cast-result-else-e-eq0 : goal.overflow_cast-result-else-e-eq0
overflow_cast-result-else-e-eq0 c = omega (arith, and_le_r c.args.h 1023)

pub overflow_cast-result-else-e-eq0-2 : goal.overflow_cast-result-else-e-eq0-2
overflow_cast-result-else-e-eq0-2 c = omega (arith, and_le_r (c.args.h / 1024) 31)

pub overflow_shl-result : goal.overflow_shl-result
overflow_shl-result c = omega (arith, and_le_r (c.args.h / 1024) 31)

pub returns-then-e-eq0 : goal.returns-then-e-eq0
returns-then-e-eq0 c = size_zero c.args.h c.if-e-eq0.true

pub returns-else-e-eq0 : goal.returns-else-e-eq0
returns-else-e-eq0 c = size_normal c.args.h c.if-e-eq0.false
