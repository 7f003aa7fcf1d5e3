-- `hingevale_lf_group_idx_from_group_idx`: the crate below answers.
use Rattle.grid.specs.Measured.{grid_of}
use Rattle.grid.specs.Groups.{lf_index_of}
use Rattle.c_words.specs.Records.{number_words}
use Rattle.c_words.proofs.Plain.{plain_lf}
use Rattle.export.proofs.Asking.{asked}
use Rattle.export.proofs.geometry.hingevale_lf_group_idx_from_group_idx.Goals as goal

pub returns : goal.returns
returns c = asked number_words (λ f. (lf_index_of (grid_of f) c.args.group_idx).refusal) (λ f. (lf_index_of (grid_of f) c.args.group_idx).value) (plain_lf _ _) c.frame-f.ensures c.lf_group_idx_from_group_idx.ensures c.give_number.ensures
