-- `walk_sizes`: padding, the walk over the sizes, padding.
use Rattle.toc.proofs.Walking.{walk_done}
use Rattle.toc.proofs.reading.walk_sizes.Goals as goal

pub returns : goal.returns
returns c = walk_done c.args.s.now _ _ _ _ _ c.zero_pad_to_byte-first.ensures c.sum_sizes-x.ensures c.zero_pad_to_byte-last.ensures
