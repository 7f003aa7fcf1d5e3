-- `read_bytes`: what is left of the walk is what the definition has left to read; four bytes more, or one.
use Prim.Native.Nat.{◌-◌}
use Rattle.bits.specs.Codec.{u}
use Rattle.header.proofs.Walks.{Left}
use Rattle.header.proofs.arrays.read_bytes.Given as goal

abbrev pub invariant-loop-i : goal.invariant-loop-i
invariant-loop-i l = Left (u 8) l.count l.count 0 l.s l.initial.out l.initial.at l.out l.at l.i

abbrev pub decreases-loop-i : goal.decreases-loop-i
decreases-loop-i l = l.count - l.i
