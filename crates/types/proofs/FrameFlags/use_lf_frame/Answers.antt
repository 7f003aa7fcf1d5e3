-- Bit 5.
use Rattle.types.proofs.Masks.{masked}
use Rattle.types.proofs.FrameFlags.use_lf_frame.Goals as goal

pub returns : goal.returns
returns c = masked c.args.self.0 5
