-- `give_arrays`: each array from its place on.
use Rattle.c_words.specs.Heading.{arrays_after}
use Rattle.c_words.proofs.Recording.{four_put}
use Rattle.c_words.proofs.heads.give_arrays.Goals as goal

pub returns : goal.returns
unfolding arrays_after
returns c = four_put 12 15 25 29 c.args.jpeg c.args.passes.shift c.args.passes.downsample c.args.passes.last_pass c.args.out.now _ _ _ _ c.widen.ensures c.widen-2.ensures c.widen-3.ensures c.widen-4.ensures
