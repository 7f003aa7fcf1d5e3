-- `hingevale_section_of_sample`: the crate below answers.
use Rattle.sections.specs.Lookups.{section_of_sample}
use Rattle.c_words.specs.Records.{section_words}
use Rattle.c_words.proofs.Plain.{plain_sample}
use Rattle.export.proofs.Asking.{asked}
use Rattle.export.proofs.lookups.hingevale_section_of_sample.Goals as goal

pub returns : goal.returns
returns c = asked section_words (λ f. (section_of_sample f c.args.x c.args.y c.args.pass).refusal) (λ f. (section_of_sample f c.args.x c.args.y c.args.pass).section) (plain_sample _ _ _ _) c.frame-f.ensures c.section_of_sample.ensures c.give_section.ensures
