-- `hingevale_group_idx_from_coord`: the crate below answers.
use Rattle.grid.specs.Measured.{grid_of}
use Rattle.grid.specs.Groups.{index_for}
use Rattle.c_words.specs.Records.{number_words}
use Rattle.c_words.proofs.Plain.{plain_index}
use Rattle.export.proofs.Asking.{asked}
use Rattle.export.proofs.geometry.hingevale_group_idx_from_coord.Goals as goal

pub returns : goal.returns
returns c = asked number_words (λ f. (index_for (grid_of f) c.args.x c.args.y).refusal) (λ f. (index_for (grid_of f) c.args.x c.args.y).value) (plain_index _ _ _) c.frame-f.ensures c.group_idx_from_coord.ensures c.give_number.ensures
