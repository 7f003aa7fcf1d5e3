-- `sections_of`: one section, or several; the product fits.
use native.Mathlib.Omega.{arith}
use native.Mathlib.Nat.{mul-le-mul_left}
use Rattle.grid.proofs.sections_of.Goals as goal

pub overflow_mul-result : goal.overflow_mul-result
overflow_mul-result c = record { fits = omega (arith, mul-le-mul_left c.args.groups c.requires.2) }

pub overflow_add-result-else-groups-eq1-2 : goal.overflow_add-result-else-groups-eq1-2
overflow_add-result-else-groups-eq1-2 c = record { fits = omega (arith, mul-le-mul_left c.args.groups c.requires.2) }
