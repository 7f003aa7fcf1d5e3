-- `check_order`: each way out is one way of the definition.
use Rattle.std.proofs.Common.{◌∙◌, sym}
use Rattle.order.proofs.Checked.{check_many, check_good, check_bad}
use Rattle.order.proofs.check_order.Goals as goal

pub returns-then-count-gt65536 : goal.returns-then-count-gt65536
returns-then-count-gt65536 c = rw c.refused.ensures (check_many _ c.args.order.now c.if-count-gt65536.true)

pub returns-then-is_order : goal.returns-then-is_order
returns-then-is_order c = check_good _ c.args.order.now c.if-count-gt65536.false (sym c.is_order.ensures ∙ c.if-is_order.true)

pub returns-else-is_order : goal.returns-else-is_order
returns-else-is_order c = rw c.refused-else-is_order.ensures (check_bad _ c.args.order.now c.if-count-gt65536.false (sym c.is_order.ensures ∙ c.if-is_order.false))
