-- `part_above`: nothing where the sign is set.
use Rattle.filter.proofs.WeightLaws.{is_negative, is_positive}
use Rattle.filter.proofs.weights.part_above.Goals as goal

pub returns-then-h-eq1 : goal.returns-then-h-eq1
returns-then-h-eq1 c = rw (is_negative c.args.h c.if-h-eq1.true)

pub returns-else-h-eq1 : goal.returns-else-h-eq1
returns-else-h-eq1 c = rw (is_positive c.args.h c.if-h-eq1.false) c.size.ensures
