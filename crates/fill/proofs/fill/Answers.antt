-- `fill`: what is left of the walk is what is left to put.
use Rattle.std.proofs.Common.{sym}
use Rattle.fill.proofs.Filling.{sets_past, values_whole}
use Rattle.fill.proofs.fill.Goals as goal

pub returns-then-out-at : goal.returns-then-out-at
returns-then-out-at g c = sym (sets_past c.args.out.now c.args.values.now c.args.at c.if-out-at.true)

pub returns : goal.returns
returns g c = values_whole c.args.out.now c.args.at c.args.values.now c.min-n.result c.loop-i.out c.loop-i.i c.loop-i.invariant c.loop-i-test.false
