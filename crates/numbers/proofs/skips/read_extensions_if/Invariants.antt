-- `read_extensions_if`: what is left of the mask is what the definition has left to read.
use Rattle.std.proofs.Common.{◌≡◌, ℕ, ◌+◌, ◌^◌, ◌<◌, ◌≤◌}
use Rattle.bits.specs.Table.{read}
use Rattle.bits.specs.Extensions.{lengths, whole}
use Rattle.numbers.proofs.skips.read_extensions_if.Given as goal

abbrev pub invariant-loop-mask : goal.invariant-loop-mask
invariant-loop-mask l = (n : ℕ) × (l.mask < 2 ^ n) × (l.sum.high + n ≤ 64) × (read (lengths 64 l.initial.mask 0) l.s l.initial.at ≡ read (lengths n l.mask (whole l.sum)) l.s l.at)

abbrev pub decreases-loop-mask : goal.decreases-loop-mask
decreases-loop-mask l = l.mask
