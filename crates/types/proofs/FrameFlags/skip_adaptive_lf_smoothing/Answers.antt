-- Bit 7.
use Rattle.types.proofs.Masks.{masked}
use Rattle.types.proofs.FrameFlags.skip_adaptive_lf_smoothing.Goals as goal

pub returns : goal.returns
returns c = masked c.args.self.0 7
