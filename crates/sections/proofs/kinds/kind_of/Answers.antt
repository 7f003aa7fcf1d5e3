-- `kind_of`: the kind of a section that the frame has.
use Rattle.bits.proofs.Answered.{handed}
use Rattle.sections.proofs.Answered.{kind_own, kind_none, kind_found, measured_counts}
use Rattle.sections.proofs.kinds.kind_of.Goals as goal

pub returns-in_err-g : goal.returns-in_err-g
returns-in_err-g c = rw (handed _ _ c.from_residual.ensures.1) (kind_own c.args.f _ c.in_err-g.ensures c.args.section)

pub returns-in_err-found : goal.returns-in_err-found
returns-in_err-found c = rw (handed _ _ c.from_residual-in_err-found.ensures.1) (kind_none c.args.f _ c.in_ok-g.ensures c.args.section _ c.in_err-found.ensures)

pub kind_at-requires : goal.kind_at-requires
kind_at-requires c = (measured_counts c.args.f _ c.in_ok-g.ensures).some_group

pub returns : goal.returns
returns c = kind_found c.args.f _ c.in_ok-g.ensures c.args.section _ c.in_ok-found.ensures _ c.kind_at.ensures
