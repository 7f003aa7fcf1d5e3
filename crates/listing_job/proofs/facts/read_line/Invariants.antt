-- `read_line`: what is left of the walk is what is left of the line.
use Rattle.listing_job.proofs.Lines.{Reads}
use Rattle.listing_job.proofs.facts.read_line.Given as goal

abbrev pub invariant-loop-i : goal.invariant-loop-i
invariant-loop-i l = Reads l.s l.limits l.initial.values l.at l.values l.i
