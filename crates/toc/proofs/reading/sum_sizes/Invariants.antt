-- `sum_sizes`: after k turns the walk has passed k sizes, and the total is their sum; two at once are two turns.
use Rattle.std.proofs.Common.{◌-◌, ◌≤◌}
use Rattle.toc.proofs.Walking.{Walking}
use Rattle.toc.proofs.reading.sum_sizes.Given as goal

abbrev pub invariant-loop-k : goal.invariant-loop-k
invariant-loop-k l = (l.k ≤ l.count) × Walking l.s l.initial.at 0 l.at l.k l.total

abbrev pub decreases-loop-k : goal.decreases-loop-k
decreases-loop-k l = l.count - l.k
