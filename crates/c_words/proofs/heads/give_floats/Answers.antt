-- `give_floats`: each part from its place on.
use Rattle.c_words.specs.Heading.{last_floats, floats_after}
use Rattle.c_words.proofs.Recording.{four_put}
use Rattle.c_words.proofs.heads.give_floats.Goals as goal

pub returns : goal.returns
unfolding floats_after
returns c = four_put 0 6 14 17 c.args.f.gab.weights c.args.f.epf.params.sharp_lut c.args.f.epf.params.channel_scale (last_floats c.args.f) c.args.out.now _ _ _ _ c.fill.ensures c.fill-2.ensures c.fill-3.ensures c.fill-4.ensures
