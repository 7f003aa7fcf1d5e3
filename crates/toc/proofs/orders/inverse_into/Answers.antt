-- `inverse_into`: what the sections that are left make of the table is what all make of it.
use Rattle.std.proofs.Common.{take, arith}
use Rattle.order.proofs.Placed.{placing_none, placing_more, placing_all}
use Rattle.toc.proofs.orders.inverse_into.Goals as goal

pub loop-j-init : goal.loop-j-init
loop-j-init c = placing_none _ (take c.args.count c.args.order.now) c.args.inverse.now

pub returns-then-order-i : goal.returns-then-order-i
returns-then-order-i c = placing_all _ c.args.order.now c.args.count _ _ _ c.loop-j.invariant (omega arith)

pub overflow_cast-order : goal.overflow_cast-order
overflow_cast-order c = omega (arith, c.type_inv.order c.loop-j.j)

pub loop-j-preserved : goal.loop-j-preserved
loop-j-preserved c =
    placing_more _ c.args.order.now _ _ _ _
    c.loop-j.invariant _ c.loop-j-test.true
    c.if-order-i.false c.put.ensures

pub returns : goal.returns
returns c = placing_all _ c.args.order.now c.args.count _ _ _ c.loop-j.invariant (omega arith)
