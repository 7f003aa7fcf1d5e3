-- `widen`: what is left of the walk is what is left to put.
use Rattle.fill.proofs.Filling.{Values}
use Rattle.fill.proofs.widen.Given as goal

abbrev pub invariant-loop-i : goal.invariant-loop-i
invariant-loop-i l = Values l.initial.out l.at l.narrow l.n l.out l.i
