-- `hingevale_sample_width`: the crate below answers.
use Rattle.grid.specs.Groups.{sampled}
use Rattle.c_words.specs.Records.{number_words}
use Rattle.c_words.proofs.Plain.{plain_sampled}
use Rattle.export.proofs.Asking.{asked}
use Rattle.export.proofs.geometry.hingevale_sample_width.Goals as goal

pub returns : goal.returns
returns c = asked number_words (λ f. (sampled f f.width c.args.by).refusal) (λ f. (sampled f f.width c.args.by).value) (plain_sampled _ _ _) c.frame-f.ensures c.sample_width.ensures c.give_number.ensures
