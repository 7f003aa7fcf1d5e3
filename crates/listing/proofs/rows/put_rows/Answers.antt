-- `put_rows`: the lines from section i on are still to be put.
use Rattle.std.proofs.Common.{arith}
use Rattle.listing.specs.Listed.{row_at}
use Rattle.listing.proofs.Walks.{lists_all, lists_less, lists_none}
use Rattle.listing.proofs.rows.put_rows.Goals as goal

pub loop-i-init : goal.loop-i-init
loop-i-init c = lists_all (row_at c.args.t.now.frame c.args.t.now.offsets.now c.args.t.now.sizes.now c.args.t.now.order.now) c.args.out.now c.args.at c.args.count

pub put_row-end-requires : goal.put_row-end-requires
put_row-end-requires c = omega (arith, c.loop-i.invariant.small, c.loop-i.invariant.within, c.requires)

pub loop-i-preserved : goal.loop-i-preserved
loop-i-preserved c = lists_less (row_at c.args.t.now.frame c.args.t.now.offsets.now c.args.t.now.sizes.now c.args.t.now.order.now) c.args.out.now c.args.at c.args.count _ _ _ c.loop-i.invariant _ c.loop-i-test.true c.row.ensures c.put_row-end.ensures

pub shape_of-out : goal.shape_of-out
shape_of-out c = c.loop-i.invariant.leaves.filling.size

pub returns : goal.returns
returns c = lists_none (row_at c.args.t.now.frame c.args.t.now.offsets.now c.args.t.now.sizes.now c.args.t.now.order.now) c.args.out.now c.args.at c.args.count _ _ _ c.loop-i.invariant c.loop-i-test.false c.requires.0 c.requires.1
