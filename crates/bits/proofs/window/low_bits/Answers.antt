-- `low_bits`: masked with 2 ^ n - 1.
use Rattle.std.proofs.Common.{ℕ, ◌%◌, ◌^◌, ap, ◌∙◌, arith}
use Rattle.bits.proofs.Windows.{masked}
use Rattle.bits.proofs.window.low_bits.Goals as goal

pub returns : goal.returns
returns c = masked c.args.v c.min-k.result (omega arith) ∙ ap (λ (k : ℕ). c.args.v % 2 ^ k) c.min-k.ensures
