-- `read_number`: what is left of the text is what the definition has left to judge.
use Rattle.decimal.proofs.Scanning.{Scans}
use Rattle.decimal.proofs.read_number.Given as goal

abbrev pub invariant-loop-b : goal.invariant-loop-b
invariant-loop-b l = Scans l.limit l.s l.v l.b-index
