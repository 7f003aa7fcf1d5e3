-- `mark_all`: the marks say which numbers have occurred among the entries passed.
use native.Mathlib.Omega.{arith}
use mathlib.Core.Path.{refl, ◌∙◌}
use lib.ListN.{length-set}
use Rattle.order.proofs.Marks.{marked_none, marked_more, marked_all, too_large, twice}
use Rattle.order.proofs.mark_all.Goals as goal

pub loop-entry-init : goal.loop-entry-init
loop-entry-init c = (refl, marked_none _ _ _ c.requires.1)

pub returns-then-n-k : goal.returns-then-n-k
returns-then-n-k c = too_large _ _ c.requires.0 c.loop-entry.entry-index (omega (arith, c.requires.0)) (omega arith)

pub returns-then-marks-k-ne0 : goal.returns-then-marks-k-ne0
returns-then-marks-k-ne0 c =
    twice _ _ c.requires.0 _ c.loop-entry.entry-index c.loop-entry.invariant.1 (omega (arith, c.requires.0))
    c.if-n-k.false c.if-marks-k-ne0.true

pub loop-entry-preserved : goal.loop-entry-preserved
loop-entry-preserved c =
    let l = c.loop-entry in (
      length-set l.marks _ 1 ∙ l.invariant.0,
      marked_more _ _ c.requires.0 _ l.entry-index l.invariant.1 (omega (arith, c.requires.0))
          c.if-n-k.false c.if-marks-k-ne0.false,
    )

pub returns : goal.returns
returns c = marked_all _ _ c.requires.0 _ c.loop-entry.entry-index c.loop-entry.invariant.1 (omega (arith, c.requires.0))
