-- `longer`: what is left to read before the k-th u(8) is what the definition has left there.
use Rattle.std.proofs.Common.{◌≡◌, ℕ, ◌-◌, sym, refl, ap, ◌∙◌, arith}
use Rattle.bits.specs.Steps.{run}
use Rattle.bits.specs.Codec.{more}
use Rattle.bits.proofs.Steps.{run_take, run_cut, piece_lt}
use Rattle.bits.proofs.Codecs.{given}
use Rattle.numbers.proofs.Long.{more_cut, more_ends, more_cut_8, more_goes, more_lt}
use Rattle.numbers.proofs.wholes.longer.Goals as goal

pub returns-in_default : goal.returns-in_default
returns-in_default c = c.wide_cut.ensures ∙ sym (run_cut c.args.s.now c.args.q 12 _ c.take.ensures c.args.p (more 6) c.in_default.is)

pub loop-k-init : goal.loop-k-init
loop-k-init c = (
  piece_lt c.args.s.now c.args.q 12 _ c.take.ensures c.in-Some.x c.in-Some.is,
  run_take c.args.s.now c.args.q 12 _ c.take.ensures c.args.p (more 6) c.in-Some.x c.in-Some.is,
)

pub returns-in_default-take : goal.returns-in_default-take
returns-in_default-take c =
    c.wide_cut-in_default-take.ensures
    ∙ sym (c.loop-k.invariant.1 ∙ more_cut c.args.s.now c.args.p _ _ _ c.take-in-loop-k.ensures _ c.in_default-take.is)

pub returns-then-b-eq0 : goal.returns-then-b-eq0
returns-then-b-eq0 c =
    given c.args.s.now c.args.p _ _ _ _ refl c.begin.ensures
    ∙ sym (c.loop-k.invariant.1 ∙ more_ends c.args.s.now c.args.p _ _ _ c.take-in-loop-k.ensures c.in-Some-take.b c.in-Some-take.is _ c.if-b-eq0.true)

pub returns-in_default-take-2 : goal.returns-in_default-take-2
returns-in_default-take-2 c =
    c.wide_cut-in_default-take-2.ensures
    ∙ sym (
    c.loop-k.invariant.1
    ∙ more_cut_8 c.args.s.now c.args.p _ _ _ c.take-in-loop-k.ensures c.in-Some-take.b c.in-Some-take.is c.if-b-eq0.false _ c.loop-k-test.true _ c.take-in-loop-k-2.ensures c.in_default-take-2.is
    )

pub loop-k-preserved : goal.loop-k-preserved
loop-k-preserved c = (
  more_lt c.args.s.now c.args.p _ _ _ c.take-in-loop-k.ensures c.in-Some-take.b c.in-Some-take.is c.if-b-eq0.false _ c.loop-k-test.true _ c.take-in-loop-k-2.ensures c.in-Some-take-2.y c.in-Some-take-2.is c.loop-k.invariant.0,
  c.loop-k.invariant.1
      ∙ more_goes c.args.s.now c.args.p _ _ _ c.take-in-loop-k.ensures c.in-Some-take.b c.in-Some-take.is c.if-b-eq0.false _ c.loop-k-test.true _ c.take-in-loop-k-2.ensures c.in-Some-take-2.y c.in-Some-take-2.is c.loop-k.invariant.0,
)

pub last-requires : goal.last-requires
last-requires c =
    let top : c.loop-k.k ≡ 6 = omega arith in
    rw top at c.loop-k.invariant.0

pub returns : goal.returns
returns c =
    let top : 6 - c.loop-k.k ≡ 0 = omega arith in
    c.last.ensures ∙ sym (c.loop-k.invariant.1 ∙ ap (λ (k : ℕ). run (more k c.loop-k.v) c.args.s.now c.args.p c.loop-k.at) top)
