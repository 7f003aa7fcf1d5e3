-- `hingevale_kind_of`: the crate below answers.
use Rattle.sections.specs.Kinds.{kind_of, numbers_in}
use Rattle.c_words.specs.Records.{kind_words, section_number}
use Rattle.c_words.proofs.Plain.{plain_kind_of}
use Rattle.export.proofs.Asking.{asked}
use Rattle.export.proofs.lookups.hingevale_kind_of.Goals as goal

pub returns : goal.returns
returns c =
    asked kind_words (λ f. (kind_of f (section_number c.args.section)).refusal) (λ f. (kind_of f (section_number c.args.section)).numbers)
    {x = numbers_in c.kind_of.result} (plain_kind_of _ _) c.frame-f.ensures c.kind_of.ensures c.give_kind.ensures
