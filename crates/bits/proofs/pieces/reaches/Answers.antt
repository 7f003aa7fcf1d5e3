-- `reaches`: the test in an order in which nothing can wrap.
use Rattle.std.proofs.Common.{◌+◌, leb, sym, ap, ◌∙◌, arith}
use borrow.Author.Tests.{lt-leb}
use Rattle.bits.specs.Bits.{bit_count}
use Rattle.bits.proofs.Bits.{within_by}
use Rattle.bits.proofs.pieces.reaches.Goals as goal

pub returns-then-end-p : goal.returns-then-end-p
returns-then-end-p c =
    let a = c.args in
    sym (lt-leb (a.p + a.n) (bit_count a.s.now) (omega arith))

pub returns : goal.returns
returns c =
    let a = c.args in
    within_by a.n a.p _ c.if-end-p.false ∙ ap (leb (a.p + a.n)) c.bit_count-end.ensures
