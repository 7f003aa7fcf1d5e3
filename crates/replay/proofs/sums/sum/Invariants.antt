-- `sum`: what is left of the walk is what is left to sum.
use Rattle.std.proofs.Common.{◌≡◌, drop}
use Rattle.replay.specs.Sums.{summed_by}
use Rattle.replay.proofs.sums.sum.Given as goal

abbrev pub invariant-loop-x : goal.invariant-loop-x
invariant-loop-x g l = summed_by g.T.Summand.number_of l.big l.all (drop l.x-index l.xs) ≡ summed_by g.T.Summand.number_of l.big l.sum l.xs
