-- The bits behind the selector, added to the base.
use Rattle.std.proofs.Common.{refl}
use Rattle.bits.proofs.Views.{choice_is}
use Rattle.bits.proofs.view.see_choice.Goals as goal

pub returns : goal.returns
returns c = choice_is c.args.selector c.args.c _ _ c.see-x.ensures refl
