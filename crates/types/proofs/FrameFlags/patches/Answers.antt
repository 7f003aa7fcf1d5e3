-- Bit 1.
use Rattle.types.proofs.Masks.{masked}
use Rattle.types.proofs.FrameFlags.patches.Goals as goal

pub returns : goal.returns
returns c = masked c.args.self.0 1
