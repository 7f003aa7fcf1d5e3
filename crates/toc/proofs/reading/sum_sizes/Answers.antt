-- `sum_sizes`: after k turns the walk has passed k sizes, and the total is their sum; two at once are two turns.
use Rattle.std.proofs.Common.{◌-◌, arith, leb-true}
use Rattle.toc.proofs.Walking.{walking_none, walking_more, walking_fits, pair_first_fits, pair_second_fits, pair_more, sum_done}
use Rattle.toc.proofs.reading.sum_sizes.Goals as goal

pub loop-k-init : goal.loop-k-init
loop-k-init c = (omega arith, walking_none c.args.s.now _ 0)

pub overflow_add-total : goal.overflow_add-total
overflow_add-total c = record { fits = pair_first_fits c.args.s.now _ 0 _ _ _ c.loop-k.invariant.1 _ c.in-Some.p c.in-Some.ensures (omega arith) (omega (arith, leb-true 2 (c.args.count - c.loop-k.k) c.in-Some.ensures.wanted, c.ranges)) }

pub overflow_add-total-in-Some : goal.overflow_add-total-in-Some
overflow_add-total-in-Some c = record { fits = pair_second_fits c.args.s.now _ 0 _ _ _ c.loop-k.invariant.1 _ c.in-Some.p c.in-Some.ensures (omega arith) (omega (arith, leb-true 2 (c.args.count - c.loop-k.k) c.in-Some.ensures.wanted, c.ranges)) }

pub overflow_add-k : goal.overflow_add-k
overflow_add-k c = omega (arith, leb-true 2 (c.args.count - c.loop-k.k) c.in-Some.ensures.wanted, c.ranges)

pub loop-k-smaller-in-Some : goal.loop-k-smaller-in-Some
loop-k-smaller-in-Some c = omega (arith, leb-true 2 (c.args.count - c.loop-k.k) c.in-Some.ensures.wanted)

pub loop-k-preserved-in-Some : goal.loop-k-preserved-in-Some
loop-k-preserved-in-Some c = (omega (arith, leb-true 2 (c.args.count - c.loop-k.k) c.in-Some.ensures.wanted), pair_more c.args.s.now _ 0 _ _ _ c.loop-k.invariant.1 _ c.in-Some.p c.in-Some.ensures _ c.begin-at.ensures)

pub overflow_add-total-in_default : goal.overflow_add-total-in_default
overflow_add-total-in_default c = record { fits = walking_fits c.args.s.now _ 0 _ _ _ c.loop-k.invariant.1 _ c.read_size-x.ensures (omega arith) (omega arith) }

pub loop-k-preserved : goal.loop-k-preserved
loop-k-preserved c = (omega arith, walking_more c.args.s.now _ 0 _ _ _ c.loop-k.invariant.1 _ c.read_size-x.ensures)

pub returns : goal.returns
returns c = sum_done c.args.s.now c.args.c _ _ _ _ c.loop-k.invariant.0 c.loop-k-test.false c.loop-k.invariant.1
