-- `read_toc`: one law for each way out.
use Rattle.std.proofs.Common.{refl}
use Rattle.bits.proofs.Answered.{handed}
use Rattle.grid.specs.Measured.{grid_of}
use Rattle.order.proofs.Inverse.{identity_order}
use Rattle.toc.specs.Reading.{tables}
use Rattle.toc.proofs.Entering.{roomed, first_err, first_needed, first_is}
use Rattle.toc.proofs.Judging.{place_ok}
use Rattle.toc.proofs.reading.read_toc.Goals as goal

pub returns-in_err-count : goal.returns-in_err-count
returns-in_err-count c =
    let a = c.args in
    let t = tables a.offsets.now a.sizes.now a.order.now a.inverse.now in
    rw (handed _ _ c.from_residual.ensures.1) (first_err a.s.now a.f a.place t _ c.in_err-count.ensures)

pub returns-then-flag-ne0 : goal.returns-then-flag-ne0
returns-then-flag-ne0 c =
    let a = c.args in
    let t = tables a.offsets.now a.sizes.now a.order.now a.inverse.now in
    let ok = place_ok a.s.now a.f a.place t _ c.in_ok-count.ensures in
    first_needed a.s.now a.f a.place t (grid_of a.f) refl _ refl _ refl ok.1 _ c.begin.ensures _ c.read_bool-flag.ensures c.if-flag-ne0.true

pub read_sizes-requires : goal.read_sizes-requires
read_sizes-requires c =
    let a = c.args in
    let t = tables a.offsets.now a.sizes.now a.order.now a.inverse.now in
    let ok = place_ok a.s.now a.f a.place t _ c.in_ok-count.ensures in
    rw ok.0 (identity_order _, roomed a.s.now a.f a.place t (grid_of a.f) refl _ refl _ refl ok.1)

pub returns : goal.returns
returns c =
    let a = c.args in
    let t = tables a.offsets.now a.sizes.now a.order.now a.inverse.now in
    let ok = place_ok a.s.now a.f a.place t _ c.in_ok-count.ensures in
    rw (ok.0, first_is a.s.now a.f a.place t (grid_of a.f) refl _ refl _ refl ok.1 _ c.begin.ensures _ c.read_bool-flag.ensures c.if-flag-ne0.false) at c.read_sizes.ensures
