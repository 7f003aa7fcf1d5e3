-- Choice by choice.
use Rattle.std.proofs.Common.{ℕ, sym, ap}
use Rattle.bits.specs.Codec.{chosen}
use Rattle.toc.specs.Sizes.{size_choices}
use Rattle.toc.proofs.Sizing.{last_base}
use Rattle.toc.proofs.reading.size_base.Goals as goal

pub returns-then-k-eq0 : goal.returns-then-k-eq0
returns-then-k-eq0 c = ap (λ (k : ℕ). (chosen size_choices k).base) (sym c.if-k-eq0.true)

pub returns-then-k-eq1 : goal.returns-then-k-eq1
returns-then-k-eq1 c = ap (λ (k : ℕ). (chosen size_choices k).base) (sym c.if-k-eq1.true)

pub returns-then-k-eq2 : goal.returns-then-k-eq2
returns-then-k-eq2 c = ap (λ (k : ℕ). (chosen size_choices k).base) (sym c.if-k-eq2.true)

pub returns-else-k-eq2 : goal.returns-else-k-eq2
returns-else-k-eq2 c = last_base c.args.k c.if-k-eq0.false c.if-k-eq1.false c.if-k-eq2.false
