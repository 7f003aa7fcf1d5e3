-- `put_rows`: the lines from section i on are still to be put.
use Rattle.listing.specs.Listed.{row_at}
use Rattle.listing.proofs.Walks.{Lists}
use Rattle.listing.proofs.rows.put_rows.Given as goal

abbrev pub invariant-loop-i : goal.invariant-loop-i
invariant-loop-i l = Lists (row_at l.t.frame l.t.offsets.now l.t.sizes.now l.t.order.now) l.initial.out l.at l.count l.out l.end l.i
