-- `front_words`: words 2 to 11.
use mathlib.Core.Path.{◌∙◌}
use Rattle.header.proofs.Bundles.{one_if}
use Rattle.c_words.proofs.Recording.{front_is}
use Rattle.c_words.proofs.heads.front_words.Goals as goal

pub returns : goal.returns
returns c = front_is c.args.h _ _ _ c.from-kind.ensures c.from-coded.ensures (c.from-ycbcr.ensures ∙ one_if _)
