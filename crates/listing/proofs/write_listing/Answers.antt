-- `write_listing`: one law for each way out.
use Rattle.std.proofs.Common.{refl, sym, ◌∙◌}
use Rattle.grid.specs.Measured.{unrefused, grid_of}
use Rattle.bits.proofs.Answered.{answered_ok, answered_err, handed}
use Rattle.grid.proofs.Answered.{measured_ok, measured_err}
use Rattle.grid.proofs.Accepted.{sound}
use Rattle.listing.proofs.Texts.{write_own, write_short, write_bad, write_all}
use Rattle.listing.proofs.write_listing.Goals as goal

pub returns-in_err-g : goal.returns-in_err-g
returns-in_err-g c =
    let a = c.args in
    let no = measured_err a.f _ c.in_err-g.ensures in
    rw (handed _ _ c.from_residual.ensures.1, ← no.1) (write_own a.f (grid_of a.f) refl a.offsets.now a.sizes.now a.order.now a.out.now no.0)

pub put_listing-length-requires : goal.put_listing-length-requires
put_listing-length-requires c = (sound c.args.f (unrefused c.in_ok-g.g) (measured_ok c.args.f _ c.in_ok-g.ensures) refl).sections

pub returns-then-offsets-n : goal.returns-then-offsets-n
returns-then-offsets-n c =
    let a = c.args in
    write_short a.f (unrefused c.in_ok-g.g) (measured_ok a.f _ c.in_ok-g.ensures) a.offsets.now a.sizes.now a.order.now a.out.now refl c.put_listing-length.ensures
    c.then-offsets-n.either _ c.refused.ensures

pub returns-in_err-check_order : goal.returns-in_err-check_order
returns-in_err-check_order c =
    let a = c.args in
    let no = answered_err _ _ (tt {0}) (sym c.in_err-check_order.ensures) in
    rw (handed _ _ c.from_residual-in_err-check_order.ensures.1, ← no.1)
    (write_bad a.f (unrefused c.in_ok-g.g) (measured_ok a.f _ c.in_ok-g.ensures) a.offsets.now a.sizes.now a.order.now a.out.now refl c.put_listing-length.ensures
    c.if-offsets-n.false c.if-sizes-n.false c.if-out-length.false _ refl no.0)

pub put_listing-requires : goal.put_listing-requires
put_listing-requires c = (sound c.args.f (unrefused c.in_ok-g.g) (measured_ok c.args.f _ c.in_ok-g.ensures) refl).sections

pub returns : goal.returns
returns c =
    let a = c.args in
    let yes = answered_ok _ (tt {0}) _ (sym c.in_ok-check_order.ensures) in
    write_all a.f (unrefused c.in_ok-g.g) (measured_ok a.f _ c.in_ok-g.ensures) a.offsets.now a.sizes.now a.order.now a.out.now refl c.put_listing-length.ensures
    c.if-offsets-n.false c.if-sizes-n.false c.if-out-length.false _ refl yes.0 c.put_listing.ensures
