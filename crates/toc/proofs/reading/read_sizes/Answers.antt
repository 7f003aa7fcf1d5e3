-- `read_sizes`: the first fault, or the four tables.
use Rattle.std.proofs.Common.{arith}
use Rattle.toc.specs.Reading.{tables}
use Rattle.toc.specs.Private.{order_by}
use Rattle.toc.proofs.Entering.{done_fault, done_table}
use Rattle.toc.proofs.reading.read_sizes.Goals as goal

pub returns-then-fault-ne0 : goal.returns-then-fault-ne0
returns-then-fault-ne0 c =
    let a = c.args in
    let t = tables a.offsets.now a.sizes.now a.order.now a.inverse.now in
    done_fault a.s.now a.c a.count (order_by a.given a.lent.now a.count) _ c.walk_sizes-w.ensures t c.if-fault-ne0.true

pub put_orders-requires : goal.put_orders-requires
put_orders-requires c = (c.requires.0, c.requires.1.inverse)

pub fill_sizes-requires : goal.fill_sizes-requires
fill_sizes-requires c = (omega arith, omega (arith, c.requires.1.inverse, c.put_orders.auto.inverse))

pub returns : goal.returns
returns c =
    let a = c.args in
    let t = tables a.offsets.now a.sizes.now a.order.now a.inverse.now in
    done_table a.s.now a.c a.count (order_by a.given a.lent.now a.count) _ c.walk_sizes-w.ensures t c.requires.0 c.requires.1 c.if-fault-ne0.false _ _ _ _ c.put_orders.ensures.0 c.put_orders.ensures.1 c.fill_sizes.ensures.0 c.fill_sizes.ensures.1
