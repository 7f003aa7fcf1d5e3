-- `upsamples`: nine numbers, looked up, and none above.
use Rattle.grid.proofs.Steps.{by_bit, none_above}
use Rattle.grid.proofs.upsamples.Goals as goal

pub returns-then-n-le8 : goal.returns-then-n-le8
returns-then-n-le8 c = by_bit c.args.n c.if-n-le8.true

pub returns-else-n-le8 : goal.returns-else-n-le8
returns-else-n-le8 c = none_above c.args.n c.if-n-le8.false
