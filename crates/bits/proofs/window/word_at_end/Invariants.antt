-- `word_at_end`: after each turn the value is the bytes so far; behind the last there are zeros.
use Rattle.std.proofs.Common.{◌≡◌, ◌+◌, ◌-◌, ◌*◌, ◌≤◌}
use Rattle.bits.specs.Bits.{bits_at}
use Rattle.bits.proofs.window.word_at_end.Given as goal

abbrev pub invariant-loop-k : goal.invariant-loop-k
invariant-loop-k l = (l.k ≤ l.i + 8) × (l.v ≡ bits_at l.s (8 * l.i) (8 * (l.k - l.i)))
