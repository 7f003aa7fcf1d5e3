-- `group_idx_from_coord`: an accepted frame has a side, and the number of a point's group is below the count.
use Rattle.std.proofs.Common.{◌∙◌, arith, rules}
use Rattle.bits.proofs.Answered.{handed}
use Rattle.grid.proofs.Lookups.{measured_sound, index_own, index_no, index_yes, index_lt}
use Rattle.grid.proofs.group_idx_from_coord.Goals as goal

pub returns-in_err-g : goal.returns-in_err-g
returns-in_err-g c = handed _ _ c.from_residual.ensures.1 ∙ index_own c.args.f _ c.in_err-g.ensures c.args.x c.args.y

pub overflow_shl-side : goal.overflow_shl-side
overflow_shl-side c = omega (arith, (measured_sound c.args.f _ c.in_ok-g.ensures).shift)

pub nonzero_div-column : goal.nonzero_div-column
nonzero_div-column c =
    let s = measured_sound c.args.f _ c.in_ok-g.ensures in
    omega (arith, s.side, s.side_is)

pub nonzero_div-row : goal.nonzero_div-row
nonzero_div-row c =
    let s = measured_sound c.args.f _ c.in_ok-g.ensures in
    omega (arith, s.side, s.side_is)

pub returns-in_err-found : goal.returns-in_err-found
returns-in_err-found c = handed _ _ c.from_residual-in_err-found.ensures.1 ∙ index_no c.args.f _ c.in_ok-g.ensures _ _ (measured_sound c.args.f _ c.in_ok-g.ensures).side_is c.args.x c.args.y (search rules) _ c.in_err-found.ensures

pub overflow_mul-result : goal.overflow_mul-result
overflow_mul-result c = record { fits = omega (arith, index_lt c.args.f _ c.in_ok-g.ensures _ _ (measured_sound c.args.f _ c.in_ok-g.ensures).side_is c.args.x c.args.y (search rules) _ c.in_ok-found.ensures) }

pub overflow_add-result : goal.overflow_add-result
overflow_add-result c = record { fits = omega (arith, index_lt c.args.f _ c.in_ok-g.ensures _ _ (measured_sound c.args.f _ c.in_ok-g.ensures).side_is c.args.x c.args.y (search rules) _ c.in_ok-found.ensures) }

pub returns : goal.returns
returns c = index_yes c.args.f _ c.in_ok-g.ensures _ _ (measured_sound c.args.f _ c.in_ok-g.ensures).side_is c.args.x c.args.y (search rules) _ c.in_ok-found.ensures
