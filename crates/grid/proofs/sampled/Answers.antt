-- `sampled`: a size where the frame is accepted, whose level is then at most 4.
use Rattle.std.proofs.Common.{◌∙◌, refl}
use Rattle.grid.proofs.Accepted.{accepted}
use Rattle.bits.proofs.Answered.{handed}
use Rattle.grid.proofs.Answered.{measured_ok}
use Rattle.grid.proofs.Lookups.{sampled_own, sampled_yes}
use Rattle.grid.proofs.sampled.Goals as goal

pub returns-in_err-measure : goal.returns-in_err-measure
returns-in_err-measure c = handed _ _ c.from_residual.ensures.1 ∙ sampled_own c.args.f _ c.in_err-measure.ensures c.args.n c.args.upsampling

pub sample-requires : goal.sample-requires
sample-requires c = (accepted c.args.f (rw (← measured_ok c.args.f _ c.in_ok-measure.ensures) refl)).good.level

pub returns : goal.returns
returns c = sampled_yes c.args.f _ c.in_ok-measure.ensures _ _ _ c.sample.ensures
