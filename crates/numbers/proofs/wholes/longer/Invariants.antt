-- `longer`: what is left to read before the k-th u(8) is what the definition has left there.
use Rattle.std.proofs.Common.{◌≡◌, ◌+◌, ◌-◌, ◌*◌, ◌^◌, ◌<◌}
use Rattle.bits.specs.Steps.{takes, run}
use Rattle.bits.specs.Codec.{more}
use Rattle.numbers.proofs.wholes.longer.Given as goal

abbrev pub invariant-loop-k : goal.invariant-loop-k
invariant-loop-k l = (l.v < 2 ^ (12 + 8 * l.k)) × (run (takes 12 (more 6)) l.s l.p l.q ≡ run (more (6 - l.k) l.v) l.s l.p l.at)
