-- `is_lf_group_collides_region`: the question of a side, through the check.
use Rattle.std.proofs.Common.{◌∙◌}
use Rattle.grid.specs.Groups.{touch_for, touch_or_refused}
use Rattle.grid.proofs.Answers.{asked}
use Rattle.bits.proofs.Answered.{handed}
use Rattle.grid.proofs.Answered.{measured_ok}
use Rattle.grid.proofs.Lookups.{touch_own}
use Rattle.grid.proofs.is_lf_group_collides_region.Goals as goal

pub returns-in_err-g : goal.returns-in_err-g
returns-in_err-g c = handed _ _ c.from_residual.ensures.1 ∙ touch_own c.args.f _ c.in_err-g.ensures _ c.args.lf_group_idx c.args.region

pub returns : goal.returns
returns c = asked (λ g. touch_or_refused (touch_for g g.lf_side c.args.lf_group_idx c.args.region)) c.touch_for.ensures (measured_ok c.args.f _ c.in_ok-g.ensures)
