-- `sigma_of`: default, or custom with or without its quant_mul.
use mathlib.Core.Path.{◌∙◌}
use Rattle.filter.proofs.EpfLaws.{sigma_default_lem, sigma_custom}
use Rattle.std.proofs.lemmas.Bool.{not_from_false, not_from_true}
use Rattle.filter.proofs.settings.sigma_of.Goals as goal

pub returns-then-not-own : goal.returns-then-not-own
returns-then-not-own c =
    let a = c.args in
    c.sigma_default-other.ensures ∙ sigma_default_lem a.own a.modular a.q a.a a.b a.d (not_from_false _ c.if-not-own.true)

pub returns-then-modular : goal.returns-then-modular
returns-then-modular c =
    let a = c.args in
    sigma_custom a.own a.modular a.q a.a a.b a.d _ (not_from_true _ c.if-not-own.false) (rw (c.sigma_default-other.ensures, c.if-modular.true))

pub returns-else-modular : goal.returns-else-modular
returns-else-modular c =
    let a = c.args in
    sigma_custom a.own a.modular a.q a.a a.b a.d a.q (not_from_true _ c.if-not-own.false) (rw c.if-modular.false)
