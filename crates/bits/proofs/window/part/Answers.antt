-- `part`: shifted down and masked.
use lib.Bits.{and_mask}
use Rattle.bits.proofs.window.part.Goals as goal

pub returns : goal.returns
returns c = and_mask _ 56
