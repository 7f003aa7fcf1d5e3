-- `read_extensions_if`: what is left of the mask is what the definition has left to read.
use Rattle.std.proofs.Common.{◌≡◌, ℕ, refl, ap, ◌∙◌, arith, rules}
use Rattle.bits.specs.Table.{read}
use Rattle.bits.specs.Extensions.{lengths, whole}
use Rattle.bits.proofs.Tables.{lengths_none, lengths_step, extensions_read}
use Rattle.numbers.proofs.skips.read_extensions_if.Goals as goal

pub loop-mask-init : goal.loop-mask-init
loop-mask-init c = (64, search rules, omega arith, refl)

pub loop-mask-smaller : goal.loop-mask-smaller
loop-mask-smaller c = omega (arith, c.loop-mask-test.true)

pub loop-mask-preserved : goal.loop-mask-preserved
loop-mask-preserved c =
    let step = lengths_step c.args.s.now c.loop-mask.invariant.0 c.loop-mask.mask (whole c.loop-mask.sum) c.loop-mask.at _ c.loop-mask-test.true c.loop-mask.invariant.1 c.read_u64_if-n.ensures in (
      step.0,
      step.2,
      omega (arith, step.1, c.loop-mask.invariant.2, c.add_bits-sum.ensures.1),
      c.loop-mask.invariant.3 ∙ step.3 ∙ rw (c.add_bits-sum.ensures.0, c.kept-at-in-loop-mask.ensures),
    )

pub returns : goal.returns
returns c =
    let over : c.loop-mask.mask ≡ 0 = c.loop-mask-test.false in
    extensions_read c.args.s.now c.args.on c.args.c c.read_u64_if-m.result (whole c.loop-mask.sum) c.loop-mask.at _ (c.read_u64_if-m.ensures ∙ rw c.kept.ensures)
    (rw c.kept-at.ensures at c.loop-mask.invariant.3
    ∙ ap (λ (m : ℕ). read (lengths c.loop-mask.invariant.0 m (whole c.loop-mask.sum)) c.args.s.now c.loop-mask.at) over
    ∙ lengths_none c.args.s.now c.loop-mask.invariant.0 (whole c.loop-mask.sum) c.loop-mask.at)
    c.skip_bits_if.ensures
