-- `give_words`: the three parts.
use Rattle.c_words.proofs.Recording.{words_put}
use Rattle.c_words.proofs.heads.give_words.Goals as goal

pub returns : goal.returns
returns c = words_put c.args.a _ c.args.out.now _ _ _ c.back_words-back.ensures c.give_front.ensures c.give_arrays.ensures c.widen.ensures
