-- `back_words`: words 33 to 50.
use mathlib.Core.Path.{◌∙◌}
use Rattle.header.proofs.Bundles.{one_if}
use Rattle.c_words.proofs.Recording.{back_is}
use Rattle.c_words.proofs.heads.back_words.Goals as goal

pub returns : goal.returns
returns c =
    back_is c.args.h _ _ _ _ _ _ _ _ (c.from-crop.ensures ∙ one_if _) c.from-mode.ensures (c.from-clamp.ensures ∙ one_if _) (c.from-last.ensures ∙ one_if _)
    (c.from-resets.ensures ∙ one_if _) (c.from-before.ensures ∙ one_if _) (c.from-gabor.ensures ∙ one_if _) (c.from-edges.ensures ∙ one_if _)
