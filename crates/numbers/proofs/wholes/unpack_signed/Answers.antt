-- `unpack_signed`: half, or half negated and one less.
use Rattle.std.proofs.Common.{sym, ◌∙◌}
use Rattle.numbers.proofs.Signed.{signed_even, half_is, minus_fits, less_fits, odd_is}
use Rattle.numbers.proofs.wholes.unpack_signed.Goals as goal

pub overflow_sub-result : goal.overflow_sub-result
overflow_sub-result c = minus_fits c.args.n c.ranges.n.fits

pub overflow_sub-result-else-n-eq0 : goal.overflow_sub-result-else-n-eq0
overflow_sub-result-else-n-eq0 c = less_fits c.args.n c.ranges.n.fits

pub returns-then-n-eq0 : goal.returns-then-n-eq0
returns-then-n-eq0 c = half_is c.args.n c.ranges.n.fits ∙ sym (signed_even c.args.n c.if-n-eq0.true)

pub returns-else-n-eq0 : goal.returns-else-n-eq0
returns-else-n-eq0 c = odd_is c.args.n c.ranges.n.fits c.if-n-eq0.false
