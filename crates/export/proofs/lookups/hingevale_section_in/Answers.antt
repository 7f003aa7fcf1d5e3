-- `hingevale_section_in`: the crate below answers.
use Rattle.std.proofs.Common.{refl, List, ℕ}
use Rattle.c_words.specs.Records.{section_words}
use Rattle.c_words.specs.Layouts.{section_by}
use Rattle.c_words.proofs.Plain.{plain_by}
use Rattle.export.proofs.Asking.{asked}
use Rattle.export.proofs.lookups.hingevale_section_in.Goals as goal

pub returns : goal.returns
returns c =
    asked section_words
    (λ (words : List ℕ). (section_by words c.args.x c.args.y c.args.pass).refusal) (λ (words : List ℕ). (section_by words c.args.x c.args.y c.args.pass).section)
    (plain_by c.args.words.now c.args.x c.args.y c.args.pass) refl c.section_by.ensures c.give_section.ensures
