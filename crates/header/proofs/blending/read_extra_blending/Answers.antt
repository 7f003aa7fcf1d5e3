-- `read_extra_blending`: what is left of the walk is what the definition has left to read.
use Rattle.header.proofs.Walks.{blending_none, blending_more, blending_all}
use Rattle.header.proofs.blending.read_extra_blending.Goals as goal

pub loop-i-init : goal.loop-i-init
loop-i-init c = blending_none c.args.on c.args.n c.args.full c.args.d c.args.s.now c.args.out.now c.kept-at.result

pub loop-i-preserved : goal.loop-i-preserved
loop-i-preserved c = rw c.kept-at-in-loop-i.ensures (blending_more c.args.on c.args.n c.args.full c.args.d c.args.s.now c.args.out.now c.kept-at.result c.loop-i.out c.loop-i.at c.loop-i.i c.loop-i.invariant c.loop-i-test.true _ _ _ _ _ c.read_blending_if-b.ensures c.put.ensures c.put-in-loop-i.ensures c.put-in-loop-i-2.ensures c.put-in-loop-i-3.ensures)

pub shape_of-out : goal.shape_of-out
shape_of-out c = c.loop-i.invariant.content.size

pub returns : goal.returns
returns c = rw c.kept-at.ensures at (blending_all c.args.on c.args.n c.args.full c.args.d c.args.s.now c.args.out.now c.kept-at.result c.loop-i.out c.loop-i.at c.loop-i.i c.loop-i.invariant c.loop-i-test.false)
