-- `short`: one piece, there or cut.
use Rattle.std.proofs.Common.{◌+◌, sym, refl, ◌∙◌}
use Rattle.bits.specs.Steps.{gives}
use Rattle.bits.proofs.Steps.{run_take, run_cut}
use Rattle.bits.proofs.Codecs.{given}
use Rattle.numbers.proofs.wholes.short.Goals as goal

pub returns-in_default : goal.returns-in_default
returns-in_default c = c.wide_cut.ensures ∙ sym (run_cut c.args.s.now c.args.q c.args.n _ c.take.ensures c.args.p (λ x. gives (c.args.base + x)) c.in_default.is)

pub returns : goal.returns
returns c =
    given c.args.s.now c.args.p _ _ _ _ refl c.begin.ensures
    ∙ sym (run_take c.args.s.now c.args.q c.args.n _ c.take.ensures c.args.p (λ x. gives (c.args.base + x)) c.in-Some.x c.in-Some.is)
