-- `put_orders`: the lent order and its inverse, or the identity twice.
use Rattle.toc.proofs.Entering.{orders_lent, orders_identity}
use Rattle.toc.proofs.orders.put_orders.Goals as goal

pub returns-then-given : goal.returns-then-given
returns-then-given c =
    let a = c.args in
    orders_lent a.lent.now a.count a.order.now a.inverse.now _ _ a.given c.if-given.true c.requires.0 c.requires.1 c.order_into.ensures c.inverse_into.ensures

pub returns-else-given : goal.returns-else-given
returns-else-given c =
    let a = c.args in
    orders_identity a.lent.now a.count a.order.now a.inverse.now _ _ a.given c.if-given.false c.identity_into.ensures c.identity_into-else-given.ensures
