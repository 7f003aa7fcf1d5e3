-- `hingevale_lf_group_rect`: the crate below answers.
use Rattle.grid.specs.Measured.{grid_of}
use Rattle.grid.specs.Groups.{rect_for}
use Rattle.c_words.specs.Records.{rect_words}
use Rattle.c_words.proofs.Plain.{plain_rect}
use Rattle.export.proofs.Asking.{asked}
use Rattle.export.proofs.geometry.hingevale_lf_group_rect.Goals as goal

pub returns : goal.returns
returns c = asked rect_words (λ f. (rect_for (grid_of f) (grid_of f).lf_side c.args.lf_group_idx).refusal) (λ f. (rect_for (grid_of f) (grid_of f).lf_side c.args.lf_group_idx).rect) (plain_rect _ _ _) c.frame-f.ensures c.lf_group_rect.ensures c.give_rect.ensures
