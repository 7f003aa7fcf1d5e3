-- `gabor_of`: disabled, default or custom.
use mathlib.Core.Path.{◌∙◌}
use Rattle.filter.proofs.GaborLaws.{of_disabled, of_default, of_custom}
use Rattle.filter.proofs.gabor.gabor_of.Goals as goal

pub returns-then-enabled-ne1 : goal.returns-then-enabled-ne1
returns-then-enabled-ne1 c = c.gabor_disabled-none.ensures ∙ of_disabled _ _ _ _ _ c.if-enabled-ne1.true

pub returns-then-own-ne1 : goal.returns-then-own-ne1
returns-then-own-ne1 c = c.gabor_default-usual.ensures ∙ of_default _ _ _ _ _ c.if-enabled-ne1.false c.if-own-ne1.true

pub returns : goal.returns
returns c = of_custom c.args.enabled c.args.own c.args.x c.args.y c.args.z c.if-enabled-ne1.false c.if-own-ne1.false
