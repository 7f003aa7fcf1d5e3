-- The mode by its number.
use mathlib.Core.Path.{sym, ◌∙◌}
use Rattle.types.proofs.Numbers.{blend_mode_same}
use Rattle.header.proofs.Entering.{info_is}
use Rattle.header.proofs.entry.blending_info.Goals as goal

pub returns : goal.returns
returns c = info_is c.args.b _ (blend_mode_same _ _ (sym c.try_from.ensures ∙ c.unwrap-mode.ensures))
