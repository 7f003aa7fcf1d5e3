-- `has`: a number below the product of columns and rows.
use Rattle.grid.specs.Measured.{unrefused}
use Rattle.grid.proofs.Answers.{has_by}
use Rattle.grid.proofs.tiles.has.Goals as goal

pub returns : goal.returns
returns c = has_by (unrefused c.args.g) _ _ _ _ _ c.div_ceil-columns.ensures c.div_ceil-rows.ensures c.count.ensures
