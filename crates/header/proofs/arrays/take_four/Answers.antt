-- Nothing, or what `take` answers.
use Rattle.header.proofs.Walks.{four_idle, four_taken}
use Rattle.header.proofs.arrays.take_four.Goals as goal

pub returns-then-idle : goal.returns-then-idle
returns-then-idle c = four_idle c.args.s.now c.args.c c.args.left c.idle.result c.idle.ensures c.if-idle.true

pub returns : goal.returns
returns c = four_taken c.args.s.now c.args.c c.args.left c.idle.result c.idle.ensures c.if-idle.false c.take.result c.take.ensures
