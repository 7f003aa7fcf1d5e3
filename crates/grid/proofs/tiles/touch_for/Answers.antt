-- `touch_for`: the comparison with a square that there is.
use Rattle.std.proofs.Common.{◌∙◌}
use Rattle.bits.proofs.Answered.{handed}
use Rattle.grid.proofs.Lookups.{there, touch_yes, touch_no}
use Rattle.grid.proofs.tiles.touch_for.Goals as goal

pub returns-in_err-found : goal.returns-in_err-found
returns-in_err-found c = handed _ _ c.from_residual.ensures.1 ∙ touch_no c.args.g _ _ _ c.has.ensures c.args.region _ c.in_err-found.ensures

pub cell-requires : goal.cell-requires
cell-requires c = there c.args.g _ _ _ c.has.ensures _ c.in_ok-found.ensures

pub returns : goal.returns
returns c = touch_yes c.args.g _ _ _ c.has.ensures _ c.in_ok-found.ensures c.args.region _ _ c.cell.ensures c.is_aabb_collides.ensures
