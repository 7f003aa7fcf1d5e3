-- `lf_group_idx_from_group_idx`: an accepted frame has a column, and the answer is no larger than the group's number.
use Rattle.std.proofs.Common.{◌∙◌, arith}
use Rattle.bits.proofs.Answered.{handed}
use Rattle.grid.proofs.Lookups.{lf_index_le, measured_sound, lf_own, lf_no, lf_yes}
use Rattle.grid.proofs.lf_group_idx_from_group_idx.Goals as goal

pub returns-in_err-g : goal.returns-in_err-g
returns-in_err-g c = handed _ _ c.from_residual.ensures.1 ∙ lf_own c.args.f _ c.in_err-g.ensures c.args.group_idx

pub returns-in_err-found : goal.returns-in_err-found
returns-in_err-found c = handed _ _ c.from_residual-in_err-found.ensures.1 ∙ lf_no c.args.f _ c.in_ok-g.ensures _ c.args.group_idx c.has.ensures _ c.in_err-found.ensures

pub nonzero_rem-across : goal.nonzero_rem-across
nonzero_rem-across c = (measured_sound c.args.f _ c.in_ok-g.ensures).some_column

pub nonzero_div-down : goal.nonzero_div-down
nonzero_div-down c = (measured_sound c.args.f _ c.in_ok-g.ensures).some_column

pub overflow_mul-result : goal.overflow_mul-result
overflow_mul-result c = record { fits = omega (arith, lf_index_le c.args.group_idx _ _ (measured_sound c.args.f _ c.in_ok-g.ensures).lf_columns) }

pub overflow_add-result : goal.overflow_add-result
overflow_add-result c = record { fits = omega (arith, lf_index_le c.args.group_idx _ _ (measured_sound c.args.f _ c.in_ok-g.ensures).lf_columns) }

pub returns : goal.returns
returns c = lf_yes c.args.f _ c.in_ok-g.ensures _ c.args.group_idx c.has.ensures _ c.in_ok-found.ensures
