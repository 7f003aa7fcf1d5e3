-- `read_enum_if`: passed by, refused in the U32, a case that is not there, or the U32's own value.
use Rattle.std.proofs.Common.{◌∙◌}
use Rattle.bits.proofs.Steps.{field_passed}
use Rattle.bits.proofs.Codecs.{case_refused, case_unknown, case_known}
use Rattle.numbers.proofs.wholes.read_enum_if.Goals as goal

pub returns-then-idle : goal.returns-then-idle
returns-then-idle c = field_passed c.args.s.now _ _ _ _ _ c.idle.ensures c.if-idle.true _ c.kept.ensures

pub returns-then-fault-ne0 : goal.returns-then-fault-ne0
returns-then-fault-ne0 c = case_refused c.args.s.now _ _ _ _ _ _ c.idle.ensures c.if-idle.false _ c.read_u32_if-x.ensures c.if-fault-ne0.true

pub returns-then-n-x : goal.returns-then-n-x
returns-then-n-x c =
    c.refused_at.ensures ∙ case_unknown c.args.s.now _ _ _ _ _ _ c.idle.ensures c.if-idle.false _ c.read_u32_if-x.ensures c.if-fault-ne0.false c.if-n-x.true

pub returns-else-n-x : goal.returns-else-n-x
returns-else-n-x c = case_known c.args.s.now _ _ _ _ _ _ c.idle.ensures c.if-idle.false _ c.read_u32_if-x.ensures c.if-fault-ne0.false c.if-n-x.false
