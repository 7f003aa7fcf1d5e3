-- `is_order`: the length, then the walk with as many marks as the frame needs.
use borrow.Author.Rules.{rules}
use mathlib.Core.Path.{◌∙◌}
use Rattle.order.proofs.Checked.{unmarked, other_length, same_length}
use Rattle.order.proofs.is_order.Goals as goal

pub returns-then-order-n : goal.returns-then-order-n
returns-then-order-n c = other_length _ c.args.order.now c.if-order-n.true

pub mark_all-requires : goal.mark_all-requires
mark_all-requires c = (c.if-order-n.false, unmarked 512 _ c.if-n-le512.true)

pub returns-then-n-le512 : goal.returns-then-n-le512
returns-then-n-le512 c =
    c.mark_all.ensures ∙ same_length _ c.args.order.now c.if-order-n.false

pub mark_all-requires-2 : goal.mark_all-requires-2
mark_all-requires-2 c = (c.if-order-n.false, unmarked 65536 _ (search rules))

pub returns : goal.returns
returns c =
    c.mark_all-2.ensures ∙ same_length _ c.args.order.now c.if-order-n.false
