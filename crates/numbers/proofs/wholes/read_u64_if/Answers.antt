-- `read_u64_if`: passed by, cut, or one of the four forms.
use Rattle.std.proofs.Common.{sym, refl, ◌∙◌, arith}
use Rattle.bits.specs.Codec.{u64, long}
use Rattle.bits.proofs.Steps.{field_passed}
use Rattle.bits.proofs.Codecs.{given, first_taken, first_cut}
use Rattle.numbers.proofs.Long.{long_0, long_1, long_2, long_3}
use Rattle.numbers.proofs.wholes.read_u64_if.Goals as goal

pub returns-then-idle : goal.returns-then-idle
returns-then-idle c = field_passed c.args.s.now c.args.on u64 _ _ _ c.idle.ensures c.if-idle.true _ c.kept.ensures

pub returns-in_default : goal.returns-in_default
returns-in_default c = c.wide_cut.ensures ∙ first_cut c.args.s.now c.args.on u64 _ _ _ c.idle.ensures _ _ refl c.if-idle.false _ c.take.ensures c.in_default.is

pub returns-in-0 : goal.returns-in-0
returns-in-0 c =
    given c.args.s.now c.args.c.at _ _ _ _ refl c.begin.ensures
    ∙ sym (
    first_taken c.args.s.now c.args.on u64 _ _ _ c.idle.ensures 2 long refl c.if-idle.false _ c.take.ensures c.in-Some.k c.in-Some.is
    ∙ long_0 c.args.s.now _ _ _ c.in-0.is
    )

pub returns-in-1 : goal.returns-in-1
returns-in-1 c =
    c.short.ensures
    ∙ sym (
    first_taken c.args.s.now c.args.on u64 _ _ _ c.idle.ensures 2 long refl c.if-idle.false _ c.take.ensures c.in-Some.k c.in-Some.is
    ∙ long_1 c.args.s.now _ _ _ c.in-1.is
    )

pub returns-in-2 : goal.returns-in-2
returns-in-2 c =
    c.short-in-2.ensures
    ∙ sym (
    first_taken c.args.s.now c.args.on u64 _ _ _ c.idle.ensures 2 long refl c.if-idle.false _ c.take.ensures c.in-Some.k c.in-Some.is
    ∙ long_2 c.args.s.now _ _ _ c.in-2.is
    )

pub returns-in_default-value : goal.returns-in_default-value
returns-in_default-value c =
    c.longer.ensures
    ∙ sym (
    first_taken c.args.s.now c.args.on u64 _ _ _ c.idle.ensures 2 long refl c.if-idle.false _ c.take.ensures c.in-Some.k c.in-Some.is
    ∙ long_3 c.args.s.now _ _ c.in-Some.k.value (omega arith) (omega arith) (omega arith)
    )
