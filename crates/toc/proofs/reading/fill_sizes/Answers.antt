-- `fill_sizes`: after k turns the first k sizes stand at their sections, each with the sum of those before it as its offset; two at once are two
-- turns.
use Rattle.std.proofs.Common.{◌+◌, ◌-◌, take, arith, leb-true}
use Rattle.order.proofs.Placed.{placing_none, placing_all}
use Rattle.toc.specs.Private.{size_at, offset_at}
use Rattle.toc.proofs.Walking.{walking_none, walking_size, walking_more, walking_fits, pair_between, pair_first, pair_second, pair_first_fits, pair_second_fits, pair_more, turn_more, turn_two}
use Rattle.toc.proofs.reading.fill_sizes.Goals as goal

pub loop-k-init : goal.loop-k-init
loop-k-init c = (omega arith, walking_none c.args.s.now _ _, placing_none _ (take c.args.count c.args.inverse.now) _, placing_none _ (take c.args.count c.args.inverse.now) _)

pub overflow_cast-section : goal.overflow_cast-section
overflow_cast-section c = omega (arith, c.type_inv.inverse c.loop-k.k)

pub overflow_add-other : goal.overflow_add-other
overflow_add-other c = omega (arith, leb-true 2 (c.args.count - c.loop-k.k) c.in-Some.ensures.wanted, c.ranges)

pub offset_bounds-inverse-i-in-Some : goal.offset_bounds-inverse-i-in-Some
offset_bounds-inverse-i-in-Some c = omega (arith, leb-true 2 (c.args.count - c.loop-k.k) c.in-Some.ensures.wanted, c.ranges)

pub bounds-inverse-i-in-Some : goal.bounds-inverse-i-in-Some
bounds-inverse-i-in-Some c = omega (arith, leb-true 2 (c.args.count - c.loop-k.k) c.in-Some.ensures.wanted, c.requires.1)

pub overflow_cast-other : goal.overflow_cast-other
overflow_cast-other c = omega (arith, c.type_inv.inverse (c.loop-k.k + 1))

pub overflow_add-offset : goal.overflow_add-offset
overflow_add-offset c = record { fits = pair_first_fits c.args.s.now _ _ _ _ _ c.loop-k.invariant.1 _ c.in-Some.p c.in-Some.ensures c.requires.0 (omega (arith, leb-true 2 (c.args.count - c.loop-k.k) c.in-Some.ensures.wanted, c.ranges)) }

pub overflow_add-offset-in-Some : goal.overflow_add-offset-in-Some
overflow_add-offset-in-Some c = record { fits = pair_second_fits c.args.s.now _ _ _ _ _ c.loop-k.invariant.1 _ c.in-Some.p c.in-Some.ensures c.requires.0 (omega (arith, leb-true 2 (c.args.count - c.loop-k.k) c.in-Some.ensures.wanted, c.ranges)) }

pub overflow_add-k : goal.overflow_add-k
overflow_add-k c = omega (arith, leb-true 2 (c.args.count - c.loop-k.k) c.in-Some.ensures.wanted, c.ranges)

pub loop-k-smaller-in-Some : goal.loop-k-smaller-in-Some
loop-k-smaller-in-Some c = omega (arith, leb-true 2 (c.args.count - c.loop-k.k) c.in-Some.ensures.wanted)

pub loop-k-preserved-in-Some : goal.loop-k-preserved-in-Some
loop-k-preserved-in-Some c = (
  omega (arith, leb-true 2 (c.args.count - c.loop-k.k) c.in-Some.ensures.wanted),
  pair_more c.args.s.now _ _ _ _ _ c.loop-k.invariant.1 _ c.in-Some.p c.in-Some.ensures _ c.begin-at.ensures,
  turn_two (offset_at c.args.s.now c.args.begin c.args.start) c.args.inverse.now c.args.count c.loop-k.k _ _ c.loop-k.invariant.2 (omega (arith, leb-true 2 (c.args.count - c.loop-k.k) c.in-Some.ensures.wanted)) (omega (arith, leb-true 2 (c.args.count - c.loop-k.k) c.in-Some.ensures.wanted, c.requires.1)) _ _ _ _ c.put.ensures c.put-in-Some-2.ensures c.loop-k.invariant.1.total (pair_between c.args.s.now _ _ _ _ _ c.loop-k.invariant.1 _ c.in-Some.p c.in-Some.ensures).total,
  turn_two (size_at c.args.s.now c.args.begin) c.args.inverse.now c.args.count c.loop-k.k _ _ c.loop-k.invariant.3 (omega (arith, leb-true 2 (c.args.count - c.loop-k.k) c.in-Some.ensures.wanted)) (omega (arith, leb-true 2 (c.args.count - c.loop-k.k) c.in-Some.ensures.wanted, c.requires.1)) _ _ _ _ c.put-in-Some.ensures c.put-in-Some-3.ensures (pair_first c.args.s.now _ _ _ _ _ c.loop-k.invariant.1 _ c.in-Some.p c.in-Some.ensures) (pair_second c.args.s.now _ _ _ _ _ c.loop-k.invariant.1 _ c.in-Some.p c.in-Some.ensures),
)

pub overflow_add-offset-in_default : goal.overflow_add-offset-in_default
overflow_add-offset-in_default c = record { fits = walking_fits c.args.s.now _ _ _ _ _ c.loop-k.invariant.1 _ c.read_size-x.ensures c.requires.0 (omega (arith, c.loop-k-test.true, c.ranges)) }

pub overflow_add-k-in_default : goal.overflow_add-k-in_default
overflow_add-k-in_default c = omega (arith, c.loop-k-test.true, c.ranges)

pub loop-k-preserved : goal.loop-k-preserved
loop-k-preserved c = (
  omega arith,
  walking_more c.args.s.now _ _ _ _ _ c.loop-k.invariant.1 _ c.read_size-x.ensures,
  turn_more (offset_at c.args.s.now c.args.begin c.args.start) c.args.inverse.now c.args.count c.loop-k.k _ _ c.loop-k.invariant.2 c.loop-k-test.true (omega arith) _ _ c.put-in_default.ensures c.loop-k.invariant.1.total,
  turn_more (size_at c.args.s.now c.args.begin) c.args.inverse.now c.args.count c.loop-k.k _ _ c.loop-k.invariant.3 c.loop-k-test.true (omega arith) _ _ c.put-in_default-2.ensures (walking_size c.args.s.now _ _ _ _ _ c.loop-k.invariant.1 _ c.read_size-x.ensures),
)

pub returns : goal.returns
returns c = (
  placing_all _ c.args.inverse.now c.args.count _ _ _ c.loop-k.invariant.2 (omega arith),
  placing_all _ c.args.inverse.now c.args.count _ _ _ c.loop-k.invariant.3 (omega arith),
)
