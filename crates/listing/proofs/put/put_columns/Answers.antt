-- `put_columns`: the columns from an index on are still to be put.
use Rattle.std.proofs.Common.{None}
use Rattle.listing.proofs.Columns.{cells_all, cells_less, cells_none}
use Rattle.listing.proofs.put.put_columns.Goals as goal

pub loop-shown-init : goal.loop-shown-init
loop-shown-init c = cells_all c.args.columns.now c.args.out.now c.args.at

pub loop-shown-preserved : goal.loop-shown-preserved
loop-shown-preserved c = cells_less _ _ _ _ _ _ c.loop-shown.invariant None c.loop-shown-test.true c.put_column-end.ensures

pub returns : goal.returns
returns c = cells_none _ _ _ _ _ _ c.loop-shown.invariant c.loop-shown-test.false c.loop-shown.auto.shown-index-end c.put_feed.ensures
