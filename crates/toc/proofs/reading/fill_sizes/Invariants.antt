-- `fill_sizes`: after k turns the first k sizes stand at their sections, each with the sum of those before it as its offset; two at once are two
-- turns.
use Rattle.std.proofs.Common.{◌-◌, ◌≤◌, take}
use Rattle.order.proofs.Placed.{Placing}
use Rattle.toc.specs.Private.{size_at, offset_at}
use Rattle.toc.proofs.Walking.{Walking}
use Rattle.toc.proofs.reading.fill_sizes.Given as goal

abbrev pub invariant-loop-k : goal.invariant-loop-k
invariant-loop-k l = (l.k ≤ l.count) × Walking l.s l.initial.at l.start l.at l.k l.offset × Placing (offset_at l.s l.initial.at l.start) (take l.count l.inverse) l.initial.offsets l.offsets l.k × Placing (size_at l.s l.initial.at) (take l.count l.inverse) l.initial.sizes l.sizes l.k

abbrev pub decreases-loop-k : goal.decreases-loop-k
decreases-loop-k l = l.count - l.k
