-- `mark_all`: the marks say which numbers have occurred among the entries passed.
use mathlib.Core.Path.{◌≡◌}
use lib.ListN.{length}
use Rattle.order.proofs.Marks.{Marked}
use Rattle.order.proofs.mark_all.Given as goal

abbrev pub invariant-loop-entry : goal.invariant-loop-entry
invariant-loop-entry l = (length l.marks ≡ length l.initial.marks) × Marked l.n l.order l.marks l.entry-index
