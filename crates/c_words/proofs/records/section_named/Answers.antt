-- `section_named`: one law for each way out.
use Rattle.std.proofs.Common.{◌∙◌}
use Rattle.bits.proofs.Answered.{handed}
use Rattle.c_words.proofs.Naming.{section_known, section_own, section_unknown}
use Rattle.c_words.proofs.records.section_named.Goals as goal

pub returns-then-kind-le4 : goal.returns-then-kind-le4
returns-then-kind-le4 c = section_known c.args.kind c.args.pass_idx c.args.group_idx c.args.f c.if-kind-le4.true _ c.kind_named.ensures _ c.section_of_kind.ensures

pub returns-in_err-measure : goal.returns-in_err-measure
returns-in_err-measure c =
    handed _ _ c.from_residual.ensures.1 ∙ section_own c.args.kind c.args.pass_idx c.args.group_idx c.args.f c.if-kind-le4.false _ c.in_err-measure.ensures

pub returns : goal.returns
returns c = rw c.refused.ensures (section_unknown c.args.kind c.args.pass_idx c.args.group_idx c.args.f c.if-kind-le4.false _ c.in_ok-measure.ensures)
