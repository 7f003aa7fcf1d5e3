-- `cut_u32`: one test on the selector.
use Rattle.std.proofs.Common.{◌+◌, sym, ◌∙◌, arith, leb-true}
use Rattle.bits.specs.Bits.{bit_count}
use Rattle.numbers.proofs.wholes.cut_u32.Goals as goal

pub overflow_add-p : goal.overflow_add-p
overflow_add-p c =
    let a = c.args in
    record { fits = omega (arith, leb-true (a.p + 2) (bit_count a.s.now) (sym c.reaches.ensures ∙ c.if-reaches.true)) }

pub returns-then-reaches : goal.returns-then-reaches
returns-then-reaches c = c.cut_at.ensures ∙ rw (sym c.reaches.ensures ∙ c.if-reaches.true)

pub returns-else-reaches : goal.returns-else-reaches
returns-else-reaches c = c.cut_at-else-reaches.ensures ∙ rw (sym c.reaches.ensures ∙ c.if-reaches.false)
