-- `hingevale_section_at`: the crate below answers.
use Rattle.sections.specs.Lookups.{place_of}
use Rattle.c_words.specs.Records.{section_number}
use Rattle.c_words.specs.Records.{place_words}
use Rattle.c_words.proofs.Plain.{plain_place_of}
use Rattle.export.proofs.Asking.{asked}
use Rattle.export.proofs.lookups.hingevale_section_at.Goals as goal

pub returns : goal.returns
returns c = asked place_words (λ f. (place_of f c.args.offsets.now c.args.sizes.now (section_number c.args.section)).refusal) (λ f. record { offset = (place_of f c.args.offsets.now c.args.sizes.now (section_number c.args.section)).offset; size = (place_of f c.args.offsets.now c.args.sizes.now (section_number c.args.section)).size }) (plain_place_of _ _ _ _) c.frame-f.ensures c.section_at.ensures c.give_place.ensures
