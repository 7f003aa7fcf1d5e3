-- `zero_pad_to_byte`: passed by, cut, clean, or not.
use Rattle.std.proofs.Common.{true, sym, refl, ap, ◌∙◌, eq-eqb, ne_eqb, ℕ}
use Rattle.bits.specs.declared.Read.{Read}
use Rattle.bits.specs.Codec.{padding}
use Rattle.bits.specs.Steps.{gives, refuses}
use Rattle.bits.proofs.Steps.{field_idle, run_gives, run_refuses}
use Rattle.bits.proofs.Codecs.{first_taken, first_cut, run_yes, run_no}
use Rattle.bits.proofs.fields.zero_pad_to_byte.Goals as goal

pub returns-then-idle : goal.returns-then-idle
returns-then-idle c = c.kept.ensures ∙ sym (ap (λ (f : Read ℕ). f.next) (field_idle c.args.s.now true padding 0 _ _ c.idle.ensures c.if-idle.true))

pub returns-in_default : goal.returns-in_default
returns-in_default c =
    ap (λ (f : Read ℕ). f.next)
    (c.cut_at.ensures
    ∙ first_cut c.args.s.now true padding 0 _ _ c.idle.ensures _ _ refl c.if-idle.false _ c.take.ensures c.in_default.is)

pub returns-then-x-eq0 : goal.returns-then-x-eq0
returns-then-x-eq0 c =
    c.begin.ensures
    ∙ ap (λ (f : Read ℕ). f.next) (sym (
    first_taken c.args.s.now true padding 0 _ _ c.idle.ensures _ _ refl c.if-idle.false _ c.take.ensures c.in-Some.x c.in-Some.is
    ∙ run_yes c.args.s.now _ _ (gives 0) (refuses 12) _ (eq-eqb _ 0 c.if-x-eq0.true)
    ∙ run_gives c.args.s.now _ _ 0
    ))

pub returns-else-x-eq0 : goal.returns-else-x-eq0
returns-else-x-eq0 c =
    c.stop.ensures
    ∙ ap (λ (f : Read ℕ). f.next) (sym (
    first_taken c.args.s.now true padding 0 _ _ c.idle.ensures _ _ refl c.if-idle.false _ c.take.ensures c.in-Some.x c.in-Some.is
    ∙ run_no c.args.s.now _ _ (gives 0) (refuses 12) _ (ne_eqb _ 0 c.if-x-eq0.false)
    ∙ run_refuses c.args.s.now _ _ 12
    ))
