-- `part_below`: nothing where the sign is clear.
use Rattle.filter.proofs.WeightLaws.{is_negative, is_positive}
use Rattle.filter.proofs.weights.part_below.Goals as goal

pub returns-then-h-eq1 : goal.returns-then-h-eq1
returns-then-h-eq1 c = rw (is_negative c.args.h c.if-h-eq1.true) c.size.ensures

pub returns-else-h-eq1 : goal.returns-else-h-eq1
returns-else-h-eq1 c = rw (is_positive c.args.h c.if-h-eq1.false)
