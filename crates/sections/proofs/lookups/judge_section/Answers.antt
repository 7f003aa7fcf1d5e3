-- `judge_section`: the refusals in their order.
use Rattle.sections.proofs.Answered.{place_few, place_known}
use Rattle.sections.proofs.lookups.judge_section.Goals as goal

pub returns-then-offsets-n : goal.returns-then-offsets-n
returns-then-offsets-n c = place_few c.args.g c.args.offsets c.args.sizes c.args.i _ c.then-offsets-n.either c.refused.ensures

pub returns : goal.returns
returns c = place_known c.args.g c.args.offsets c.args.sizes c.args.i _ c.if-offsets-n.false c.if-sizes-n.false c.found.ensures
