-- `find`: from each index reached on, the first such byte is the same one.
use Rattle.std.proofs.Common.{◌≡◌}
use Rattle.decimal.specs.UpTo.{find_at}
use Rattle.decimal.proofs.find.Given as goal

abbrev pub invariant-loop-i : goal.invariant-loop-i
invariant-loop-i l = find_at l.s l.at l.stop ≡ find_at l.s l.i l.stop
