-- `is_unbalanced`: four parts far below 2^64, and one test.
use native.Mathlib.Omega.{arith}
use Rattle.filter.proofs.WeightLaws.{above_lt, below_lt, unbalanced_is}
use Rattle.filter.proofs.weights.is_unbalanced.Goals as goal

pub overflow_add-result : goal.overflow_add-result
overflow_add-result c = omega (arith, above_lt c.args.w0, above_lt c.args.w1, c.part_above-a.ensures, c.part_above-b.ensures)

pub overflow_add-result-2 : goal.overflow_add-result-2
overflow_add-result-2 c = omega (arith, above_lt c.args.w0, above_lt c.args.w1, c.part_above-a.ensures, c.part_above-b.ensures)

pub overflow_add-result-3 : goal.overflow_add-result-3
overflow_add-result-3 c = omega (arith, below_lt c.args.w0, below_lt c.args.w1, c.part_below-c.ensures, c.part_below-d.ensures)

pub returns : goal.returns
returns c = unbalanced_is _ _ _ _ _ _ c.part_above-a.ensures c.part_above-b.ensures c.part_below-c.ensures c.part_below-d.ensures
