-- `find`: from each index reached on, the first such byte is the same one.
use Rattle.std.proofs.Common.{sym, ◌∙◌}
use Rattle.decimal.proofs.Finding.{find_here, find_further, find_none}
use Rattle.decimal.proofs.find.Goals as goal

pub returns-then-s-i : goal.returns-then-s-i
returns-then-s-i c = find_here c.args.s.now c.args.stop c.loop-i.i c.loop-i-test.true c.if-s-i.true ∙ sym c.loop-i.invariant

pub loop-i-preserved : goal.loop-i-preserved
loop-i-preserved c = c.loop-i.invariant ∙ find_further c.args.s.now c.args.stop c.loop-i.i c.loop-i-test.true c.if-s-i.false

pub returns : goal.returns
returns c = c.max.ensures ∙ find_none c.args.s.now c.args.stop c.loop-i.i c.args.at c.loop-i-test.false c.loop-i.auto.i-end c.loop-i.invariant
