-- `lf_group_rect`: the rectangle of a side, through the check.
use Rattle.std.proofs.Common.{◌∙◌}
use Rattle.grid.specs.Groups.{rect_for, rect_or_refused}
use Rattle.grid.proofs.Answers.{asked}
use Rattle.bits.proofs.Answered.{handed}
use Rattle.grid.proofs.Answered.{measured_ok}
use Rattle.grid.proofs.Lookups.{rect_own}
use Rattle.grid.proofs.lf_group_rect.Goals as goal

pub returns-in_err-g : goal.returns-in_err-g
returns-in_err-g c = handed _ _ c.from_residual.ensures.1 ∙ rect_own c.args.f _ c.in_err-g.ensures _ c.args.lf_group_idx

pub returns : goal.returns
returns c = asked (λ g. rect_or_refused (rect_for g g.lf_side c.args.lf_group_idx)) c.rect_for.ensures (measured_ok c.args.f _ c.in_ok-g.ensures)
