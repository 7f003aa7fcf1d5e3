-- `section_at`: the two words that stand there.
use Rattle.std.proofs.Common.{◌∙◌}
use Rattle.bits.proofs.Answered.{handed}
use Rattle.sections.proofs.Answered.{place_own, place_none, place_within, place_found}
use Rattle.sections.proofs.lookups.section_at.Goals as goal

pub returns-in_err-g : goal.returns-in_err-g
returns-in_err-g c = handed _ _ c.from_residual.ensures.1 ∙ place_own c.args.f _ c.in_err-g.ensures c.args.offsets.now c.args.sizes.now c.args.section

pub returns-in_err-judge_section : goal.returns-in_err-judge_section
returns-in_err-judge_section c =
    handed _ _ c.from_residual-in_err-judge_section.ensures.1
    ∙ place_none c.args.f _ c.in_ok-g.ensures c.args.offsets.now c.args.sizes.now c.args.section _ c.in_err-judge_section.ensures

pub bounds-offsets-at : goal.bounds-offsets-at
bounds-offsets-at c = (place_within c.args.f _ c.in_ok-g.ensures c.args.offsets.now c.args.sizes.now c.args.section _ c.in_ok-judge_section.ensures).0

pub bounds-sizes-at : goal.bounds-sizes-at
bounds-sizes-at c = (place_within c.args.f _ c.in_ok-g.ensures c.args.offsets.now c.args.sizes.now c.args.section _ c.in_ok-judge_section.ensures).1

pub returns : goal.returns
returns c = place_found c.args.f _ c.in_ok-g.ensures c.args.offsets.now c.args.sizes.now c.args.section _ c.in_ok-judge_section.ensures
