-- `write_number`: the digits of what is left are still to stand in front of what is written.
use Rattle.decimal.proofs.Spelling.{Spells}
use Rattle.decimal.proofs.write_number.Given as goal

abbrev pub invariant-loop-rest : goal.invariant-loop-rest
invariant-loop-rest l = Spells l.n l.bytes l.rest l.i

abbrev pub decreases-loop-rest : goal.decreases-loop-rest
decreases-loop-rest l = l.rest
