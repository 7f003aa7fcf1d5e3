-- Bit 4.
use Rattle.types.proofs.Masks.{masked}
use Rattle.types.proofs.FrameFlags.splines.Goals as goal

pub returns : goal.returns
returns c = masked c.args.self.0 4
