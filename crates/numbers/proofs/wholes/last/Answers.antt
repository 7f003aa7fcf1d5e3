-- `last`: cut at the bit, ended by it, cut at u(4), or read.
use Rattle.std.proofs.Common.{◌+◌, ◌*◌, ◌^◌, sym, refl, ◌∙◌, arith}
use Rattle.bits.specs.Steps.{gives}
use Rattle.bits.proofs.Steps.{run_take, run_cut, piece_lt}
use Rattle.bits.proofs.Codecs.{given}
use Rattle.numbers.proofs.Long.{joined, more_cut, more_ends, more_last}
use Rattle.numbers.proofs.wholes.last.Goals as goal

pub returns-in_default : goal.returns-in_default
returns-in_default c = c.wide_cut.ensures ∙ sym (more_cut c.args.s.now c.args.p c.args.q c.args.v _ c.take.ensures 0 c.in_default.is)

pub returns-then-b-eq0 : goal.returns-then-b-eq0
returns-then-b-eq0 c =
    given c.args.s.now c.args.p _ _ _ _ refl c.begin.ensures
    ∙ sym (more_ends c.args.s.now c.args.p c.args.q c.args.v _ c.take.ensures c.in-Some.b c.in-Some.is 0 c.if-b-eq0.true)

pub returns-in_default-take : goal.returns-in_default-take
returns-in_default-take c =
    c.wide_cut-in_default-take.ensures
    ∙ sym (
    more_last c.args.s.now c.args.p c.args.q c.args.v _ c.take.ensures c.in-Some.b c.in-Some.is c.if-b-eq0.false
    ∙ run_cut c.args.s.now _ 4 _ c.take-2.ensures c.args.p (λ x. gives (c.args.v + x * 2 ^ 60)) c.in_default-take.is
    )

pub returns : goal.returns
returns c =
    given c.args.s.now c.args.p _ _ _ _ (joined c.args.v _ 60 4 c.requires (piece_lt c.args.s.now _ 4 _ c.take-2.ensures c.in-Some-take.x c.in-Some-take.is) (omega arith)) c.begin-2.ensures
    ∙ sym (
    more_last c.args.s.now c.args.p c.args.q c.args.v _ c.take.ensures c.in-Some.b c.in-Some.is c.if-b-eq0.false
    ∙ run_take c.args.s.now _ 4 _ c.take-2.ensures c.args.p (λ x. gives (c.args.v + x * 2 ^ 60)) c.in-Some-take.x c.in-Some-take.is
    )
