-- `group_size_for`: the size of a rectangle, or its refusal.
use Rattle.std.proofs.Common.{◌∙◌}
use Rattle.bits.proofs.Answered.{handed}
use Rattle.grid.proofs.Answered.{size_yes, size_no}
use Rattle.grid.proofs.group_size_for.Goals as goal

pub returns-in_err-group_rect : goal.returns-in_err-group_rect
returns-in_err-group_rect c = handed _ _ c.from_residual.ensures.1 ∙ size_no _ _ c.in_err-group_rect.ensures

pub returns : goal.returns
returns c = rw c.size_of.ensures (size_yes _ _ c.in_ok-group_rect.ensures)
