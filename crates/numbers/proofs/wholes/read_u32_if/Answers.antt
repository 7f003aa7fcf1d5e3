-- `read_u32_if`: passed by, cut, or read from the 56 bits ahead.
use Rattle.std.proofs.Common.{ℕ, ◌+◌, ◌%◌, ◌^◌, sym, refl, ap, ◌∙◌, arith}
use Rattle.bits.specs.declared.window.Ahead.{Ahead}
use Rattle.bits.specs.Codec.{u32}
use Rattle.bits.proofs.Steps.{field_passed, field_run}
use Rattle.bits.proofs.Windows.{peeked, peeked_after}
use Rattle.bits.proofs.Codecs.{u32_parts, u32_cut, u32_read}
use Rattle.std.proofs.lemmas.Bool.{not_from_false, not_from_true}
use Rattle.numbers.proofs.wholes.read_u32_if.Goals as goal

pub returns-then-idle : goal.returns-then-idle
returns-then-idle c = field_passed c.args.s.now _ _ _ _ _ c.idle.ensures c.if-idle.true _ c.kept.ensures

pub u32_is_there-requires : goal.u32_is_there-requires
u32_is_there-requires c = ap (λ (w : Ahead). w.whole) c.look_ahead-a.ensures

pub returns-then-not-u32_is_there : goal.returns-then-not-u32_is_there
returns-then-not-u32_is_there c =
    let a = c.args in
    c.cut_u32.ensures
    ∙ u32_cut a.s.now a.c.at a.d _ (peeked a.s.now a.c.at 2 _ _ (omega arith) (ap (λ (w : Ahead). w.bits) c.look_ahead-a.ensures) c.low_bits.ensures) _ c.choose-e.ensures _ c.u32_is_there.ensures (not_from_false _ c.if-not-u32_is_there.true)
    ∙ sym (field_run a.s.now a.on (u32 a.d) _ _ _ c.idle.ensures c.if-idle.false)

pub overflow_add-at : goal.overflow_add-at
overflow_add-at c =
    let a = c.args in
    record { fits = omega (arith, u32_parts a.s.now a.c.at c.choose-e.result.bits _ c.u32_is_there.ensures (not_from_true _ c.if-not-u32_is_there.false)) }

pub overflow_add-at-2 : goal.overflow_add-at-2
overflow_add-at-2 c =
    let a = c.args in
    record { fits = omega (arith, u32_parts a.s.now a.c.at c.choose-e.result.bits _ c.u32_is_there.ensures (not_from_true _ c.if-not-u32_is_there.false)) }

pub returns : goal.returns
returns c =
    let a = c.args in
    let e = c.choose-e.result in
    let narrow = (u32_parts a.s.now a.c.at e.bits _ c.u32_is_there.ensures (not_from_true _ c.if-not-u32_is_there.false)).0 in
    let bits = peeked_after a.s.now a.c.at 2 e.bits _ _ narrow (omega (arith, narrow)) (ap (λ (w : Ahead). w.bits) c.look_ahead-a.ensures) c.low_bits-2.ensures in
    u32_read a.s.now a.c.at a.d _ (peeked a.s.now a.c.at 2 _ _ (omega arith) (ap (λ (w : Ahead). w.bits) c.look_ahead-a.ensures) c.low_bits.ensures) _ c.choose-e.ensures _ c.u32_is_there.ensures _ _ _ (not_from_true _ c.if-not-u32_is_there.false)
    (ap (λ (x : ℕ). (e.base + x) % 2 ^ 32) bits)
    refl
    c.begin.ensures
    ∙ sym (field_run a.s.now a.on (u32 a.d) _ _ _ c.idle.ensures c.if-idle.false)
