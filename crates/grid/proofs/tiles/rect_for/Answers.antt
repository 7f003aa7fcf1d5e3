-- `rect_for`: the rectangle of a square that there is.
use Rattle.std.proofs.Common.{◌∙◌}
use Rattle.bits.proofs.Answered.{handed}
use Rattle.grid.proofs.Lookups.{there, rect_yes, rect_no}
use Rattle.grid.proofs.tiles.rect_for.Goals as goal

pub returns-in_err-found : goal.returns-in_err-found
returns-in_err-found c = handed _ _ c.from_residual.ensures.1 ∙ rect_no c.args.g _ _ _ c.has.ensures _ c.in_err-found.ensures

pub cell-requires : goal.cell-requires
cell-requires c = there c.args.g _ _ _ c.has.ensures _ c.in_ok-found.ensures

pub returns : goal.returns
returns c = rect_yes c.args.g _ _ _ c.has.ensures _ c.in_ok-found.ensures _ _ c.cell.ensures c.clip.ensures
