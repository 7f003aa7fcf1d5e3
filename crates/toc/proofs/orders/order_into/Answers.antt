-- `order_into`: as many entries as there are.
use Rattle.std.proofs.Common.{sym, arith, length-take-le}
use Rattle.order.proofs.Fill.{copied}
use Rattle.toc.proofs.orders.order_into.Goals as goal

pub slice_bounds-fill-end : goal.slice_bounds-fill-end
slice_bounds-fill-end c = sym (length-take-le _ c.args.order.now (omega (arith, c.min-end.ensures)))

pub returns : goal.returns
returns c =
    let a = c.args in
    copied a.order.now a.count c.min-end.result a.table.now _ c.min-end.ensures c.fill.ensures
