-- `look`: the table is judged, then the index.
use Rattle.std.proofs.Common.{◌∙◌}
use Rattle.bits.proofs.Answered.{handed}
use Rattle.order.proofs.Numbers.{look_bad, look_past, look_inside, look_found}
use Rattle.order.proofs.look.Goals as goal

pub returns-in_err-check_order : goal.returns-in_err-check_order
returns-in_err-check_order c = handed _ _ c.from_residual.ensures.1 ∙ look_bad c.args.table.now _ c.args.index _ c.in_err-check_order.ensures

pub returns-then-count-index : goal.returns-then-count-index
returns-then-count-index c = rw c.refused.ensures (look_past c.args.table.now _ _ _ c.in_ok-check_order.ensures c.if-count-index.true)

pub bounds-table-i : goal.bounds-table-i
bounds-table-i c = look_inside c.args.table.now _ _ _ c.in_ok-check_order.ensures c.if-count-index.false

pub returns : goal.returns
returns c = look_found c.args.table.now _ _ _ c.in_ok-check_order.ensures c.if-count-index.false
