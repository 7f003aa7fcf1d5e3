-- `measure`: the check's ways, one law each.
use Rattle.std.proofs.Common.{sym, ◌∙◌}
use Rattle.grid.proofs.Steps.{judged_bad, judged_zero, judged_counted, zero_by, some_size}
use Rattle.grid.proofs.measure.Goals as goal

pub returns-then-not-is_good : goal.returns-then-not-is_good
returns-then-not-is_good c = judged_bad c.args.f _ (sym c.is_good.ensures ∙ c.if-not-is_good.true) c.refused.ensures

pub returns-then-f-eq0 : goal.returns-then-f-eq0
returns-then-f-eq0 c = judged_zero c.args.f _ (sym c.is_good.ensures ∙ c.if-not-is_good.false) (zero_by c.args.f c.then-f-eq0.either) c.refused-then-f-eq0.ensures

pub returns : goal.returns
returns c = judged_counted c.args.f _ (sym c.is_good.ensures ∙ c.if-not-is_good.false) (some_size c.args.f c.if-f-eq0.false c.if-f-eq0-2.false) c.counted.ensures
