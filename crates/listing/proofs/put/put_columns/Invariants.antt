-- `put_columns`: the columns from an index on are still to be put.
use Rattle.listing.proofs.Columns.{Cells}
use Rattle.listing.proofs.put.put_columns.Given as goal

abbrev pub invariant-loop-shown : goal.invariant-loop-shown
invariant-loop-shown l = Cells l.columns l.initial.out l.at l.out l.end l.shown-index
