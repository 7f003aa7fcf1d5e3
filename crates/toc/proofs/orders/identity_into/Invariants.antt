-- `identity_into`: what is left of the walk is what is left to put.
use Rattle.std.proofs.Common.{◌-◌}
use Rattle.fill.proofs.Filling.{Values}
use Rattle.order.specs.Tables.{identity}
use Rattle.toc.proofs.orders.identity_into.Given as goal

abbrev pub invariant-loop-i : goal.invariant-loop-i
invariant-loop-i l = Values l.initial.table 0 (identity l.count) l.end l.table l.i
