-- `cell`: a square that the frame has begins inside the picture, so nothing wraps.
use native.Mathlib.Omega.{arith}
use Rattle.grid.specs.Measured.{unrefused}
use Rattle.grid.proofs.Answers.{has_columns, has_left, has_top}
use Rattle.grid.proofs.Answers.{cell_made}
use Rattle.grid.proofs.tiles.cell.Goals as goal

pub nonzero_rem-result : goal.nonzero_rem-result
nonzero_rem-result c = has_columns (unrefused c.args.g) _ _ _ c.requires c.div_ceil-per_row.ensures

pub overflow_mul-result : goal.overflow_mul-result
overflow_mul-result c = record { fits = omega (arith, c.well_formed.0, has_left (unrefused c.args.g) _ _ _ c.requires c.div_ceil-per_row.ensures) }

pub nonzero_div-result : goal.nonzero_div-result
nonzero_div-result c = has_columns (unrefused c.args.g) _ _ _ c.requires c.div_ceil-per_row.ensures

pub overflow_mul-result-2 : goal.overflow_mul-result-2
overflow_mul-result-2 c = record { fits = omega (arith, c.well_formed.0, has_top (unrefused c.args.g) _ _ _ c.requires c.div_ceil-per_row.ensures) }

pub returns : goal.returns
returns c = cell_made _ _ _ _ c.div_ceil-per_row.ensures
