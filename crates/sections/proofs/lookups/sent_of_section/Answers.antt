-- `sent_of_section`: the frame's refusal, or what the order says.
use Rattle.std.proofs.Common.{◌∙◌}
use Rattle.bits.proofs.Answered.{handed}
use Rattle.sections.proofs.Answered.{sent_own, sent_told}
use Rattle.sections.proofs.lookups.sent_of_section.Goals as goal

pub returns-in_err-g : goal.returns-in_err-g
returns-in_err-g c = handed _ _ c.from_residual.ensures.1 ∙ sent_own c.args.f _ c.in_err-g.ensures c.args.order.now c.args.section

pub returns : goal.returns
returns c = rw (sent_told c.args.f _ c.in_ok-g.ensures c.args.order.now c.args.section) at c.sent_of.ensures
