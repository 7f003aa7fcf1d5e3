-- `section_of_sent`: the frame's refusal, or what the inverse says.
use Rattle.std.proofs.Common.{◌∙◌}
use Rattle.bits.proofs.Answered.{handed}
use Rattle.sections.proofs.Answered.{back_own, back_told}
use Rattle.sections.proofs.lookups.section_of_sent.Goals as goal

pub returns-in_err-g : goal.returns-in_err-g
returns-in_err-g c = handed _ _ c.from_residual.ensures.1 ∙ back_own c.args.f _ c.in_err-g.ensures c.args.inverse.now c.args.sent

pub returns : goal.returns
returns c = rw (back_told c.args.f _ c.in_ok-g.ensures c.args.inverse.now c.args.sent) at c.section_of.ensures
