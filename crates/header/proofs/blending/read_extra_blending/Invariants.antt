-- `read_extra_blending`: what is left of the walk is what the definition has left to read.
use Rattle.header.proofs.Walks.{LeftBlending}
use Rattle.header.proofs.blending.read_extra_blending.Given as goal

abbrev pub invariant-loop-i : goal.invariant-loop-i
invariant-loop-i l = LeftBlending l.on l.n l.full l.d l.s l.initial.out l.initial.at l.out l.at l.i
