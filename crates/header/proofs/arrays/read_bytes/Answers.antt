-- `read_bytes`: what is left of the walk is what the definition has left to read; four bytes more, or one.
use Prim.Native.Nat.{ℕ, ◌-◌}
use mathlib.Core.Path.{◌∙◌, refl, ap}
use mathlib.Core.List.{List}
use lib.ListN.{get_or}
use native.Mathlib.Omega.{arith}
use borrow.Author.Tests.{lt-ltb}
use Rattle.bits.specs.Codec.{u}
use Rattle.header.proofs.Walks.{left_none, left_more, left_all, byte_lt, four_there, left_four}
use Rattle.header.proofs.arrays.read_bytes.Goals as goal

pub loop-i-init : goal.loop-i-init
loop-i-init c = left_none (u 8) c.args.count c.args.count 0 c.args.s.now c.args.out.now c.args.c

pub loop-i-preserved-in-Some : goal.loop-i-preserved-in-Some
loop-i-preserved-in-Some c =
    let byte = λ (k : ℕ). ap (λ (bytes : List ℕ). get_or bytes k 0) c.to_le_bytes.ensures in
    left_four c.args.count c.args.s.now c.args.out.now c.args.c c.loop-i.out c.loop-i.at c.loop-i.i c.loop-i.invariant c.in-Some.x
    (four_there c.args.s.now c.loop-i.at (c.args.count - c.loop-i.i) c.take_four.result c.take_four.ensures c.in-Some.x c.in-Some.is) _ _ _ _ _ _ _ _ _
    (byte 0) (byte 1) (byte 2) (byte 3) c.put.ensures c.put-in-Some.ensures c.put-in-Some-2.ensures c.put-in-Some-3.ensures c.begin-at.ensures

pub overflow_cast-f : goal.overflow_cast-f
overflow_cast-f c = record { fits = byte_lt c.args.s.now _ _ c.read_bits-f.ensures }

pub loop-i-preserved : goal.loop-i-preserved
loop-i-preserved c = left_more (u 8) c.args.count c.args.count 0 c.args.s.now c.args.out.now c.args.c c.loop-i.out c.loop-i.at c.loop-i.i c.loop-i.invariant c.loop-i-test.true c.read_bits-f.result _ _ (c.read_bits-f.ensures ∙ rw (← lt-ltb c.loop-i.i c.args.count c.loop-i-test.true)) refl c.put-in_default.ensures

pub returns : goal.returns
returns c = left_all (u 8) c.args.count c.args.count 0 c.args.s.now c.args.out.now c.args.c c.loop-i.out c.loop-i.at c.loop-i.i c.loop-i.invariant c.loop-i-test.false
