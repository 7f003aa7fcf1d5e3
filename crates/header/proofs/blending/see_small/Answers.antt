-- The selector, and what it names.
use Rattle.header.proofs.Known.{small_is}
use Rattle.header.proofs.blending.see_small.Goals as goal

pub returns : goal.returns
returns c = small_is c.args.w c.args.on c.args.n _ _ _ c.see-k.ensures c.small_choice.ensures c.see_choice.ensures
