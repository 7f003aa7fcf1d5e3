-- `write_number`: the digits of what is left are still to stand in front of what is written.
use Rattle.std.proofs.Common.{arith}
use Rattle.decimal.proofs.Spelling.{spells_none, spells_more, spells_last}
use Rattle.decimal.proofs.write_number.Goals as goal

pub loop-rest-init : goal.loop-rest-init
loop-rest-init c = spells_none c.args.n (omega arith)

pub loop-rest-preserved : goal.loop-rest-preserved
loop-rest-preserved c = spells_more _ _ _ _ c.loop-rest.invariant _ c.glyph.ensures c.loop-rest-test.true

pub returns : goal.returns
returns c = spells_last _ _ _ _ c.loop-rest.invariant _ c.glyph-2.ensures c.loop-rest-test.false
