-- `sum_sizes`: the sum of the sizes so far.
use Rattle.listing.proofs.Showing.{Sums}
use Rattle.listing.proofs.rows.Tables.sum_sizes.Given as goal

abbrev pub invariant-loop-i : goal.invariant-loop-i
invariant-loop-i l = Sums l.self.sizes.now l.count l.total l.i
