-- `hingevale_section_of_kind`: the kind by its numbers.
use Rattle.c_words.specs.Records.{section_of_numbers}
use Rattle.c_words.specs.Records.{section_words}
use Rattle.c_words.proofs.Plain.{plain_numbers}
use Rattle.export.proofs.Asking.{asked}
use Rattle.export.proofs.lookups.hingevale_section_of_kind.Goals as goal

pub returns : goal.returns
returns c = asked section_words (λ f. (section_of_numbers f c.args.kind c.args.pass_idx c.args.group_idx).refusal) (λ f. (section_of_numbers f c.args.kind c.args.pass_idx c.args.group_idx).section) (plain_numbers _ _ _ _) c.frame-f.ensures c.section_named.ensures c.give_section.ensures
