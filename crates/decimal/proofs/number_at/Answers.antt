-- `number_at`: no end, or what stands before it.
use Rattle.decimal.proofs.Finding.{stepped_not, stepped_is}
use Rattle.decimal.proofs.number_at.Goals as goal

pub returns-then-s-end : goal.returns-then-s-end
returns-then-s-end c = stepped_not c.args.s.now c.args.at c.args.stop c.args.limit _ c.find-end.ensures c.if-s-end.true

pub returns : goal.returns
returns c = stepped_is c.args.s.now c.args.at c.args.stop c.args.limit _ c.find-end.ensures c.if-s-end.false _ c.read_number-number.ensures
