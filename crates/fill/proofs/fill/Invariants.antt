-- `fill`: what is left of the walk is what is left to put.
use Rattle.fill.proofs.Filling.{Values}
use Rattle.fill.proofs.fill.Given as goal

abbrev pub invariant-loop-i : goal.invariant-loop-i
invariant-loop-i g l = Values l.initial.out l.at l.values l.n l.out l.i
