-- `word`: one byte after another.
use Rattle.std.proofs.Common.{arith}
use Rattle.bits.proofs.Windows.{byte_first, byte_more, bytes_lt}
use Rattle.bits.proofs.window.word.Goals as goal

pub returns : goal.returns
returns c =
    let a = c.args in
    let lt = bytes_lt a.s.now c.type_inv.s in
    let b0 = byte_first a.s.now a.i _ (lt _ _ c.from-b0.ensures) c.from-b0.ensures in
    let b1 = byte_more a.s.now a.i _ _ 1 (omega arith) (lt _ _ c.from.ensures) c.from.ensures b0 in
    let b2 = byte_more a.s.now a.i _ _ 2 (omega arith) (lt _ _ c.from-2.ensures) c.from-2.ensures b1 in
    let b3 = byte_more a.s.now a.i _ _ 3 (omega arith) (lt _ _ c.from-3.ensures) c.from-3.ensures b2 in
    let b4 = byte_more a.s.now a.i _ _ 4 (omega arith) (lt _ _ c.from-4.ensures) c.from-4.ensures b3 in
    let b5 = byte_more a.s.now a.i _ _ 5 (omega arith) (lt _ _ c.from-5.ensures) c.from-5.ensures b4 in
    let b6 = byte_more a.s.now a.i _ _ 6 (omega arith) (lt _ _ c.from-6.ensures) c.from-6.ensures b5 in
    byte_more a.s.now a.i _ _ 7 (omega arith) (lt _ _ c.from-7.ensures) c.from-7.ensures b6
