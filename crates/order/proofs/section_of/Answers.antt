-- `section_of`: the word that was looked up, under its own kind.
use Rattle.std.proofs.Common.{◌∙◌}
use Rattle.bits.proofs.Answered.{handed}
use Rattle.order.proofs.Numbers.{section_found, section_bad}
use Rattle.order.proofs.section_of.Goals as goal

pub returns-in_err-word : goal.returns-in_err-word
returns-in_err-word c = handed _ _ c.from_residual.ensures.1 ∙ section_bad c.args.inverse.now _ _ _ c.in_err-word.ensures

pub returns : goal.returns
returns c = section_found c.args.inverse.now _ _ _ c.in_ok-word.ensures
