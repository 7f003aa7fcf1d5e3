-- `layout_of`: what was measured, or the frame's refusal.
use Rattle.std.proofs.Common.{◌∙◌, arith}
use Rattle.bits.proofs.Answered.{handed}
use Rattle.grid.proofs.Lookups.{measured_sound}
use Rattle.layout.proofs.Laid.{layout_own, layout_told}
use Rattle.layout.proofs.layout_of.Goals as goal

pub returns-in_err-g : goal.returns-in_err-g
returns-in_err-g c = handed _ _ c.from_residual.ensures.1 ∙ layout_own c.args.f _ c.in_err-g.ensures

pub overflow_add-result : goal.overflow_add-result
overflow_add-result c = record { fits = omega (arith, (measured_sound c.args.f _ c.in_ok-g.ensures).shift) }

pub returns : goal.returns
returns c = layout_told c.args.f _ c.in_ok-g.ensures
