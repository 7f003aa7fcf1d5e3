-- `section_of_sample`: through the sample's group to a section that the frame has.
use Rattle.std.proofs.Common.{◌∙◌}
use Rattle.bits.proofs.Answered.{handed}
use Rattle.sections.proofs.Answered.{of_sample_own, of_sample_none, of_sample_found, group_fits, sample_number_fits}
use Rattle.sections.proofs.kinds.section_of_sample.Goals as goal

pub returns-in_err-g : goal.returns-in_err-g
returns-in_err-g c = handed _ _ c.from_residual.ensures.1 ∙ of_sample_own c.args.f _ c.in_err-g.ensures c.args.x c.args.y c.args.pass

pub returns-in_err-found : goal.returns-in_err-found
returns-in_err-found c = handed _ _ c.from_residual-in_err-found.ensures.1 ∙ of_sample_none c.args.f _ c.in_ok-g.ensures c.args.x c.args.y c.args.pass _ c.has_sample.ensures _ c.in_err-found.ensures

pub sample_kind-kind-requires : goal.sample_kind-kind-requires
sample_kind-kind-requires c = group_fits c.args.f _ c.in_ok-g.ensures c.args.x c.args.y c.args.pass _ c.has_sample.ensures _ c.in_ok-found.ensures

pub section_number-requires : goal.section_number-requires
section_number-requires c = sample_number_fits c.args.f _ c.in_ok-g.ensures c.args.x c.args.y c.args.pass _ c.has_sample.ensures _ c.in_ok-found.ensures _ c.sample_kind-kind.ensures

pub returns : goal.returns
returns c = of_sample_found c.args.f _ c.in_ok-g.ensures c.args.x c.args.y c.args.pass _ c.has_sample.ensures _ c.in_ok-found.ensures _ c.sample_kind-kind.ensures _ c.section_number.ensures
