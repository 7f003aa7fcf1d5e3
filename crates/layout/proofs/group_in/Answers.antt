-- `group_in`: no product and no sum wraps.
use native.Mathlib.Omega.{arith}
use borrow.Author.Rules.{rules}
use Prim.Native.Nat.{◌^◌}
use native.Mathlib.Nat.{div-le_self}
use Rattle.layout.proofs.Laid.{index_small}
use Rattle.layout.proofs.group_in.Goals as goal

pub overflow_cast-row : goal.overflow_cast-row
overflow_cast-row c = record { fits = omega (arith, div-le_self c.args.y (2 ^ c.args.l.power)) }

pub overflow_cast-column : goal.overflow_cast-column
overflow_cast-column c = record { fits = omega (arith, div-le_self c.args.x (2 ^ c.args.l.power)) }

pub overflow_mul-result : goal.overflow_mul-result
overflow_mul-result c = record { fits = omega (arith, index_small c.args.x c.args.y c.args.l.columns (2 ^ c.args.l.power) (search rules) (search rules) (search rules)) }

pub overflow_add-result : goal.overflow_add-result
overflow_add-result c = record { fits = index_small c.args.x c.args.y c.args.l.columns (2 ^ c.args.l.power) (search rules) (search rules) (search rules) }
