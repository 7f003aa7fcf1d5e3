-- `div_ceil`: nothing to divide, nothing to divide by, or one more than a quotient.
use Prim.Native.Nat.{◌-◌}
use native.Mathlib.Omega.{arith}
use native.Mathlib.Nat.{div-le_self}
use mathlib.Core.Path.{sym}
use Rattle.grid.proofs.Rounding.{up_none, up_zero, up_by}
use Rattle.grid.proofs.tiles.div_ceil.Goals as goal

pub returns-then-b-eq0 : goal.returns-then-b-eq0
returns-then-b-eq0 c = rw c.if-b-eq0.true (sym (up_none _))

pub returns-then-a-eq0 : goal.returns-then-a-eq0
returns-then-a-eq0 c = rw c.if-a-eq0.true (sym (up_zero _ (omega arith)))

pub overflow_add-result : goal.overflow_add-result
overflow_add-result c = omega (arith, div-le_self (c.args.a - 1) c.args.b)

pub returns : goal.returns
returns c = up_by _ _ (omega arith) (omega arith)
