-- `give_front`: each part from its place on.
use Rattle.c_words.proofs.Recording.{front_put}
use Rattle.c_words.proofs.heads.give_front.Goals as goal

pub returns : goal.returns
returns c = front_put c.args.a _ c.args.out.now _ _ _ c.front_words-front.ensures c.put.ensures c.put-2.ensures c.widen.ensures
