-- `reversed`: what is left of the walk is what is left to put.
use Rattle.std.proofs.Common.{◌-◌}
use Rattle.replay.proofs.Walks.{Placing}
use Rattle.replay.proofs.tables.reversed.Given as goal

abbrev pub invariant-loop-i : goal.invariant-loop-i
invariant-loop-i l = Placing (λ j. l.n - 1 - j) l.n l.initial.out l.out l.i
