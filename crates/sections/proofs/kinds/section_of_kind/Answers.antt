-- `section_of_kind`: a section number below the count, or a refusal.
use Rattle.std.proofs.Common.{◌∙◌}
use Rattle.bits.proofs.Answered.{handed}
use Rattle.sections.proofs.Answered.{of_kind_own, of_kind_none, of_kind_found, kind_fits}
use Rattle.sections.proofs.kinds.section_of_kind.Goals as goal

pub returns-in_err-g : goal.returns-in_err-g
returns-in_err-g c = handed _ _ c.from_residual.ensures.1 ∙ of_kind_own c.args.f _ c.in_err-g.ensures c.args.kind

pub returns-in_err-found : goal.returns-in_err-found
returns-in_err-found c = handed _ _ c.from_residual-in_err-found.ensures.1 ∙ of_kind_none c.args.f _ c.in_ok-g.ensures c.args.kind _ c.has_kind.ensures _ c.in_err-found.ensures

pub section_number-requires : goal.section_number-requires
section_number-requires c = kind_fits c.args.f _ c.in_ok-g.ensures c.args.kind _ c.has_kind.ensures _ c.in_ok-found.ensures

pub returns : goal.returns
returns c = of_kind_found c.args.f _ c.in_ok-g.ensures c.args.kind _ c.has_kind.ensures _ c.in_ok-found.ensures _ c.section_number.ensures
