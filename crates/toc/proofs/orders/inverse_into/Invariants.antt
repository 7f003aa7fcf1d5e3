-- `inverse_into`: what the sections that are left make of the table is what all make of it.
use Rattle.std.proofs.Common.{◌-◌, take}
use Rattle.order.proofs.Placed.{Placing}
use Rattle.toc.proofs.orders.inverse_into.Given as goal

abbrev pub invariant-loop-j : goal.invariant-loop-j
invariant-loop-j l = Placing (λ k. k) (take l.count l.order) l.initial.inverse l.inverse l.j
