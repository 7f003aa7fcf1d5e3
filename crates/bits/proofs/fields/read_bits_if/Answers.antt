-- `read_bits_if`: passed by, cut, or read.
use Rattle.std.proofs.Common.{sym, refl, ◌∙◌}
use Rattle.bits.specs.Codec.{u}
use Rattle.bits.specs.Steps.{gives}
use Rattle.bits.proofs.Steps.{field_passed}
use Rattle.bits.proofs.Codecs.{given, first_taken, first_cut}
use Rattle.bits.proofs.fields.read_bits_if.Goals as goal

pub returns-then-idle : goal.returns-then-idle
returns-then-idle c =
    let a = c.args in
    field_passed a.s.now a.on (u a.n) _ _ _ c.idle.ensures c.if-idle.true _ c.kept.ensures

pub returns-in_default : goal.returns-in_default
returns-in_default c =
    c.cut_at.ensures
    ∙ first_cut c.args.s.now c.args.on (u c.args.n) _ _ _ c.idle.ensures _ _ refl c.if-idle.false _ c.take.ensures c.in_default.is

pub returns : goal.returns
returns c =
    given c.args.s.now c.args.c.at _ _ _ _ refl c.begin.ensures
    ∙ sym (first_taken c.args.s.now c.args.on (u c.args.n) _ _ _ c.idle.ensures _ gives refl c.if-idle.false _ c.take.ensures c.in-Some.x c.in-Some.is)
