-- `see_size`: the selector, and what it names.
use Rattle.toc.proofs.Sizing.{selector_lt, sized_is}
use Rattle.toc.proofs.reading.see_size.Goals as goal

pub size_bits-width-requires : goal.size_bits-width-requires
size_bits-width-requires c = selector_lt c.args.w _ c.see-k.ensures

pub returns : goal.returns
returns c = sized_is c.args.w _ _ _ _ c.see-k.ensures c.size_base-base.ensures c.size_bits-width.ensures c.see_choice.ensures
