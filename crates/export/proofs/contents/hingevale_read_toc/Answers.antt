-- `hingevale_read_toc`: too few words, or the first entry.
use Rattle.toc.specs.Reading.{toc_told, Tables, tables, first_reading}
use Rattle.toc.proofs.Accepted.{first_telling}
use Rattle.export.proofs.Listing.{listed_short, listed}
use Rattle.export.proofs.contents.hingevale_read_toc.Goals as goal

pub returns-then-out-lt3 : goal.returns-then-out-lt3
returns-then-out-lt3 c = listed_short c.args.s.now _ _ c.frame-f.ensures (λ f. first_reading c.args.s.now f c.args.place (tables c.args.offsets.now c.args.sizes.now c.args.order.now c.args.inverse.now)) (tables c.args.offsets.now c.args.sizes.now c.args.order.now c.args.inverse.now) c.args.out.now c.if-out-lt3.true _ c.no_room.ensures _ c.status.ensures

pub returns : goal.returns
returns c =
    let a = c.args in
    let lent : Tables = tables a.offsets.now a.sizes.now a.order.now a.inverse.now in
    let f = c.frame-f in
    listed a.s.now _ _ f.ensures (λ f. first_reading a.s.now f a.place lent) lent a.out.now c.if-out-lt3.false (toc_told c.read_toc-t.result) _ _ _ _ _ _
    (first_telling a.s.now f.result a.place lent) c.read_toc-t.ensures c.give_toc.ensures
