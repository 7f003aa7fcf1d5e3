-- `sum_sizes`: the sum of the sizes so far.
use Rattle.std.proofs.Common.{arith, ◌∙◌}
use Rattle.listing.proofs.Showing.{sums_none, sums_more, sums_all}
use Rattle.listing.proofs.rows.Tables.sum_sizes.Goals as goal

pub loop-i-init : goal.loop-i-init
loop-i-init c = sums_none c.args.self.now.sizes.now c.args.count

pub overflow_add-total : goal.overflow_add-total
overflow_add-total c = omega (arith, c.loop-i.invariant.small, c.loop-i.invariant.within)

pub loop-i-preserved : goal.loop-i-preserved
loop-i-preserved c = sums_more c.args.self.now.sizes.now _ _ _ c.loop-i.invariant _ (c.from-total.ensures ∙ c.word.ensures) (omega arith) c.loop-i-test.true

pub returns : goal.returns
returns c = sums_all c.args.self.now.sizes.now _ _ _ c.loop-i.invariant c.loop-i-test.false
