-- `hingevale_sent_of_section`: the crate below answers.
use Rattle.sections.specs.Lookups.{sent_of_section}
use Rattle.c_words.specs.Records.{section_number}
use Rattle.c_words.specs.Records.{sent_words}
use Rattle.c_words.proofs.Plain.{plain_sent}
use Rattle.export.proofs.Asking.{asked}
use Rattle.export.proofs.lookups.hingevale_sent_of_section.Goals as goal

pub returns : goal.returns
returns c = asked sent_words (λ f. (sent_of_section f c.args.order.now (section_number c.args.section)).refusal) (λ f. (sent_of_section f c.args.order.now (section_number c.args.section)).sent) (plain_sent _ _ _) c.frame-f.ensures c.sent_of_section.ensures c.give_sent.ensures
