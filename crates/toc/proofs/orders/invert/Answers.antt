-- `invert`: the refusals in their order, then the sections placed one by one.
use Rattle.std.proofs.Common.{refl, sym, ap, ◌∙◌, arith}
use Rattle.bits.specs.declared.Refusal.{Refusal}
use Rattle.bits.proofs.Answered.{answered_ok, answered_err, handed}
use Rattle.order.proofs.Inverting.{invert_many, invert_short, invert_bad, invert_done, invert_no, invert_yes}
use Rattle.toc.proofs.orders.invert.Goals as goal

pub returns-then-count-gt65536 : goal.returns-then-count-gt65536
returns-then-count-gt65536 c =
    let a = c.args in
    invert_no _ a.order.now a.inverse.now _ (λ z. omega (arith, ap (λ (r : Refusal). r.number) c.refused.ensures, z))
    (invert_many _ a.order.now a.inverse.now _ c.refused.ensures c.if-count-gt65536.true)

pub returns-then-inverse-count : goal.returns-then-inverse-count
returns-then-inverse-count c =
    let a = c.args in
    invert_no _ a.order.now a.inverse.now _ (λ z. omega (arith, ap (λ (r : Refusal). r.number) c.refused-then-inverse-count.ensures, z))
    (invert_short _ a.order.now a.inverse.now _ c.refused-then-inverse-count.ensures c.if-count-gt65536.false c.if-inverse-count.true)

pub returns-in_err-check_order : goal.returns-in_err-check_order
returns-in_err-check_order c =
    let a = c.args in
    let no = answered_err _ _ (tt {0}) (sym c.in_err-check_order.ensures) in
    rw (handed _ _ c.from_residual.ensures.1, ← no.1)
    (invert_no _ a.order.now a.inverse.now _ no.0 (invert_bad _ a.order.now a.inverse.now _ refl c.if-count-gt65536.false c.if-inverse-count.false no.0))

pub returns : goal.returns
returns c =
    let a = c.args in
    let yes = answered_ok _ (tt {0}) _ (sym c.in_ok-check_order.ensures) in
    invert_yes _ a.order.now a.inverse.now _ yes.0
    (invert_done _ a.order.now a.inverse.now _ _ refl c.if-count-gt65536.false c.if-inverse-count.false yes.0 c.inverse_into.ensures)
