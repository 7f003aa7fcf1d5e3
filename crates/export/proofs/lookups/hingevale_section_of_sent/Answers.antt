-- `hingevale_section_of_sent`: the crate below answers.
use Rattle.sections.specs.Lookups.{section_of_sent}
use Rattle.c_words.specs.Records.{sent_number}
use Rattle.c_words.specs.Records.{section_words}
use Rattle.c_words.proofs.Plain.{plain_back}
use Rattle.export.proofs.Asking.{asked}
use Rattle.export.proofs.lookups.hingevale_section_of_sent.Goals as goal

pub returns : goal.returns
returns c = asked section_words (λ f. (section_of_sent f c.args.inverse.now (sent_number c.args.sent)).refusal) (λ f. (section_of_sent f c.args.inverse.now (sent_number c.args.sent)).section) (plain_back _ _ _) c.frame-f.ensures c.section_of_sent.ensures c.give_section.ensures
