-- `u32_is_there`: the two tests of both pieces are one on the width and one on the end, which eight bytes ahead tell too.
use Rattle.std.proofs.Common.{◌+◌, sym, ◌∙◌, arith, le-leb}
use Rattle.bits.specs.Bits.{bit_count}
use Rattle.bits.proofs.Codecs.{u32_narrow, u32_wide}
use Rattle.bits.proofs.Windows.{whole_reaches}
use Rattle.numbers.proofs.wholes.u32_is_there.Goals as goal

pub returns-then-whole : goal.returns-then-whole
returns-then-whole c =
    let a = c.args in
    let ends = whole_reaches a.s.now a.p (a.n + 2) a.whole c.requires c.if-whole.true (omega (arith, c.if-n-le32.true)) in
    c.if-whole.true ∙ sym (le-leb (a.p + (a.n + 2)) (bit_count a.s.now) ends) ∙ u32_narrow a.s.now _ _ c.if-n-le32.true
