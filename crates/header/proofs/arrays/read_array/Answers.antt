-- `read_array`: one element more, and none left.
use mathlib.Core.Path.{refl}
use Rattle.header.proofs.Walks.{left_more, left_all}
use Rattle.header.proofs.arrays.read_array.Goals as goal

pub loop-i-preserved : goal.loop-i-preserved
loop-i-preserved g c = left_more _ _ _ _ _ _ _ _ _ _ c.loop-i.invariant c.loop-i-test.true c.read_if-f.result _ _ c.read_if-f.ensures refl c.put.ensures

pub returns : goal.returns
returns g c = left_all _ _ _ _ _ _ _ _ _ _ c.loop-i.invariant c.loop-i-test.false
