-- The refusal, by its definition.
use Rattle.bits.specs.Steps.{cut}
use Rattle.bits.proofs.pieces.cut.Goals as goal

pub returns : goal.returns
unfolding cut
returns c = c.refused.ensures
