-- `hingevale_layout_of`: the crate below answers.
use Rattle.layout.specs.Layouts.{layout_of}
use Rattle.c_words.specs.Layouts.{layout_words}
use Rattle.c_words.proofs.Plain.{plain_layout}
use Rattle.export.proofs.Asking.{asked}
use Rattle.export.proofs.lookups.hingevale_layout_of.Goals as goal

pub returns : goal.returns
returns c = asked layout_words (λ f. (layout_of f).refusal) (λ f. (layout_of f).layout) (plain_layout _) c.frame-f.ensures c.layout_of.ensures c.give_layout.ensures
