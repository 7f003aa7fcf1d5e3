-- `wide_cut`: the same beside a wider value.
use Rattle.bits.specs.declared.Read.{Read}
use Rattle.std.proofs.Common.{ap, ℕ}
use Rattle.numbers.proofs.wholes.wide_cut.Goals as goal

pub returns : goal.returns
returns c = ap (λ (f : Read ℕ). record { value = 0; next = f.next }) c.cut_at-f.ensures
