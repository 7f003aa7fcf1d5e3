-- `read_f16_if`: passed by, cut, exponent 31, or read.
use Rattle.std.proofs.Common.{sym, refl, ◌∙◌}
use Rattle.bits.specs.Codec.{f16}
use Rattle.bits.proofs.Steps.{field_passed}
use Rattle.bits.proofs.Codecs.{given, first_taken, first_cut, half_bad, half_good}
use Rattle.numbers.proofs.halves.read_f16_if.Goals as goal

pub returns-then-idle : goal.returns-then-idle
returns-then-idle c = field_passed c.args.s.now _ _ _ _ _ c.idle.ensures c.if-idle.true _ c.kept.ensures

pub returns-in_default : goal.returns-in_default
returns-in_default c = c.cut_at.ensures ∙ first_cut c.args.s.now c.args.on f16 _ _ _ c.idle.ensures _ _ refl c.if-idle.false _ c.take.ensures c.in_default.is

pub returns-then-x-eq31 : goal.returns-then-x-eq31
returns-then-x-eq31 c =
    c.refused_at.ensures
    ∙ sym (
    first_taken c.args.s.now c.args.on f16 _ _ _ c.idle.ensures _ _ refl c.if-idle.false _ c.take.ensures c.in-Some.x c.in-Some.is
    ∙ half_bad c.args.s.now _ c.in-Some.x.at c.in-Some.x.value c.if-x-eq31.true
    )

pub returns-else-x-eq31 : goal.returns-else-x-eq31
returns-else-x-eq31 c =
    given c.args.s.now c.args.c.at _ _ _ _ refl c.begin.ensures
    ∙ sym (
    first_taken c.args.s.now c.args.on f16 _ _ _ c.idle.ensures _ _ refl c.if-idle.false _ c.take.ensures c.in-Some.x c.in-Some.is
    ∙ half_good c.args.s.now _ c.in-Some.x.at c.in-Some.x.value c.if-x-eq31.false
    )
