-- `skip_bits_if`: passed by, past the end, or within it.
use Rattle.bits.specs.declared.Read.{Read}
use Rattle.std.proofs.Common.{◌≡◌, sym, ap, ◌∙◌, arith, ℕ}
use Rattle.bits.specs.Codec.{skip}
use Rattle.bits.specs.Extensions.{whole}
use Rattle.bits.proofs.Steps.{field_idle}
use Rattle.bits.proofs.Codecs.{skip_cut, skip_goes}
use Rattle.numbers.proofs.skips.skip_bits_if.Goals as goal

pub returns-then-idle : goal.returns-then-idle
returns-then-idle c = c.kept.ensures ∙ sym (ap (λ (f : Read ℕ). f.next) (field_idle c.args.s.now c.args.on (skip (whole c.args.n)) 0 _ _ c.idle.ensures c.if-idle.true))

pub returns-then-n-ne0 : goal.returns-then-n-ne0
returns-then-n-ne0 c = skip_cut c.args.s.now _ _ _ _ c.idle.ensures c.if-idle.false _ c.stop_cut.ensures (omega arith)

pub returns-then-end-at : goal.returns-then-end-at
returns-then-end-at c = skip_cut c.args.s.now _ _ _ _ c.idle.ensures c.if-idle.false _ c.stop_cut-then-end-at.ensures (omega (arith, c.bit_count-end.ensures, c.if-end-at.true))

pub returns-then-end-at-2 : goal.returns-then-end-at-2
returns-then-end-at-2 c = skip_cut c.args.s.now _ _ _ _ c.idle.ensures c.if-idle.false _ c.stop_cut-then-end-at-2.ensures (omega (arith, c.bit_count-end.ensures, c.if-end-at-2.true))

pub returns-else-end-at-2 : goal.returns-else-end-at-2
returns-else-end-at-2 c =
    let none : c.args.n.high ≡ 0 = c.if-n-ne0.false in
    let all : whole c.args.n ≡ c.args.n.low = omega (arith, none) in
    skip_goes c.args.s.now _ _ _ _ c.idle.ensures c.if-idle.false _ (c.begin.ensures ∙ rw all) (omega (arith, all, c.bit_count-end.ensures, c.if-end-at-2.false, c.if-end-at.false))
