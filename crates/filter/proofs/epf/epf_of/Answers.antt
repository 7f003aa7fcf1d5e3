-- `epf_of`: no iterations, or some.
use mathlib.Core.Path.{◌∙◌}
use Rattle.filter.proofs.EpfLaws.{of_none, of_some}
use Rattle.filter.proofs.epf.epf_of.Goals as goal

pub returns-then-iters-eq0 : goal.returns-then-iters-eq0
returns-then-iters-eq0 c = c.epf_disabled-none.ensures ∙ of_none _ c.args.params c.if-iters-eq0.true

pub returns : goal.returns
returns c = of_some _ c.args.params c.if-iters-eq0.false
