-- `cells`: a number a turn.
use Rattle.std.proofs.Common.{true, take}
use Rattle.replay.specs.Outputs.{shown_by, Gains}
use Rattle.replay.proofs.lines.Output.cells.Given as goal

abbrev pub invariant-loop-x : goal.invariant-loop-x
invariant-loop-x g l = Gains g.W.Write.contents l.initial.self (shown_by g.T.Summand.number_of true (take l.x-index l.xs)) l.self
