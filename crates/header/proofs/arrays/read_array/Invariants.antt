-- `read_array`: what is left of the walk is what the definition has left to read.
use Rattle.header.proofs.Walks.{Left}
use Rattle.header.proofs.arrays.read_array.Given as goal

abbrev pub invariant-loop-i : goal.invariant-loop-i
invariant-loop-i g l = Left (g.K.Coded.codec l.k) l.limit l.count l.default l.s l.initial.out l.initial.at l.out l.at l.i
