-- `widen`: what is left of the walk is what is left to put.
use Rattle.std.proofs.Common.{sym}
use Rattle.fill.proofs.Filling.{sets_past, values_none, values_more, values_all}
use Rattle.fill.proofs.widen.Goals as goal

pub returns-then-out-at : goal.returns-then-out-at
returns-then-out-at c = sym (sets_past c.args.out.now c.args.narrow.now c.args.at c.if-out-at.true)

pub loop-i-init : goal.loop-i-init
loop-i-init c = values_none 0 c.args.out.now c.args.at c.args.narrow.now c.min-n.result c.min-n.ensures

pub loop-i-preserved : goal.loop-i-preserved
loop-i-preserved c = values_more 0 c.args.out.now c.args.at c.args.narrow.now c.min-n.result c.loop-i.out c.loop-i.i c.loop-i.invariant c.loop-i-test.true c.from.result c.from.ensures

pub returns : goal.returns
returns c = values_all 0 c.args.out.now c.args.at c.args.narrow.now c.min-n.result c.loop-i.out c.loop-i.i c.loop-i.invariant c.loop-i-test.false
