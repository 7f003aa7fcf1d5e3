-- `read_toc_with_order`: one law for each way out.
use Rattle.std.proofs.Common.{refl, sym, ap, ◌∙◌}
use Rattle.bits.proofs.Answered.{answered_ok, answered_err, handed}
use Rattle.grid.specs.Measured.{grid_of}
use Rattle.order.specs.Order.{checked}
use Rattle.toc.specs.Reading.{tables}
use Rattle.toc.proofs.Entering.{roomed, second_err, second_bad, second_is, lent_order}
use Rattle.toc.proofs.Judging.{place_ok}
use Rattle.toc.proofs.reading.read_toc_with_order.Goals as goal

pub returns-in_err-count : goal.returns-in_err-count
returns-in_err-count c =
    let a = c.args in
    let t = tables a.offsets.now a.sizes.now a.order.now a.inverse.now in
    rw (handed _ _ c.from_residual.ensures.1) (second_err a.s.now a.f a.place t _ c.in_err-count.ensures a.lent.now)

pub returns-in_err-check_order : goal.returns-in_err-check_order
returns-in_err-check_order c =
    let a = c.args in
    let t = tables a.offsets.now a.sizes.now a.order.now a.inverse.now in
    let ok = place_ok a.s.now a.f a.place t _ c.in_ok-count.ensures in
    let bad = answered_err _ _ (tt {0}) (sym (rw ok.0 at c.in_err-check_order.ensures)) in
    rw (handed _ _ c.from_residual-in_err-check_order.ensures.1, ← bad.1) (second_bad a.s.now a.f a.place t (grid_of a.f) refl _ refl _ refl ok.1 a.lent.now _ refl bad.0)

pub read_sizes-requires : goal.read_sizes-requires
read_sizes-requires c =
    let a = c.args in
    let t = tables a.offsets.now a.sizes.now a.order.now a.inverse.now in
    let ok = place_ok a.s.now a.f a.place t _ c.in_ok-count.ensures in
    let good = answered_ok _ (tt {0}) _ (sym (rw ok.0 at c.in_ok-check_order.ensures)) in
    rw ok.0 (lent_order a.s.now a.f a.place t (grid_of a.f) refl _ refl _ refl ok.1 a.lent.now _ refl good.0, roomed a.s.now a.f a.place t (grid_of a.f) refl _ refl _ refl ok.1)

pub returns : goal.returns
returns c =
    let a = c.args in
    let t = tables a.offsets.now a.sizes.now a.order.now a.inverse.now in
    let ok = place_ok a.s.now a.f a.place t _ c.in_ok-count.ensures in
    let good = answered_ok _ (tt {0}) _ (sym (rw ok.0 at c.in_ok-check_order.ensures)) in
    rw (ok.0, second_is a.s.now a.f a.place t (grid_of a.f) refl _ refl _ refl ok.1 a.lent.now _ refl good.0 _ c.begin.ensures) at c.read_sizes.ensures
