-- `identity_into`: what is left of the walk is what is left to put.
use Rattle.std.proofs.Common.{arith}
use Rattle.order.proofs.Inverse.{identity_length}
use Rattle.order.proofs.Fill.{counted_none, counted_more, counted_all}
use Rattle.toc.proofs.orders.identity_into.Goals as goal

pub loop-i-init : goal.loop-i-init
loop-i-init c = counted_none c.args.count c.min-end.result c.args.table.now c.min-end.ensures

pub overflow_cast-table : goal.overflow_cast-table
overflow_cast-table c = omega (arith, c.loop-i.invariant.end_is, identity_length c.args.count, c.ranges)

pub loop-i-preserved : goal.loop-i-preserved
loop-i-preserved c = counted_more c.args.count c.min-end.result c.args.table.now c.loop-i.table c.loop-i.i c.loop-i.invariant c.loop-i-test.true

pub shape_of-table : goal.shape_of-table
shape_of-table c = c.loop-i.invariant.size

pub returns : goal.returns
returns c = counted_all c.args.count c.min-end.result c.args.table.now c.loop-i.table c.loop-i.i c.loop-i.invariant c.loop-i-test.false
