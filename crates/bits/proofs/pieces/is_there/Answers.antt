-- `is_there`: the definition's two tests, the second told by the eight bytes where they are there.
use Rattle.std.proofs.Common.{◌+◌, arith, le-leb}
use Rattle.bits.specs.Bits.{bit_count}
use Rattle.bits.proofs.Windows.{whole_reaches}
use Rattle.bits.proofs.pieces.is_there.Goals as goal

pub returns-then-whole : goal.returns-then-whole
returns-then-whole c =
    let a = c.args in
    simp (c.if-whole.true, le-leb _ _ c.if-n-le32.true, le-leb (a.p + a.n) (bit_count a.s.now) (whole_reaches a.s.now a.p a.n a.whole c.requires c.if-whole.true (omega (arith, c.if-n-le32.true))))
