-- `hingevale_measure`: the grid of the six numbers.
use Rattle.grid.specs.Measured.{grid_in, grid_of}
use Rattle.c_words.specs.Records.{grid_words}
use Rattle.c_words.proofs.Plain.{plain_grid}
use Rattle.export.proofs.Asking.{asked}
use Rattle.export.proofs.geometry.hingevale_measure.Goals as goal

pub returns : goal.returns
returns c = asked grid_words (λ f. (grid_of f).refusal) (λ f. grid_in (grid_of f)) (plain_grid _) c.frame-f.ensures c.measure.ensures c.give_grid.ensures
