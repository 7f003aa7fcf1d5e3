-- `covers`: by the sign of the place.
use Rattle.header.proofs.Canvas.{covers_before, covers_at, covers_behind}
use Rattle.header.proofs.blending.covers.Goals as goal

pub returns-then-n-eq1 : goal.returns-then-n-eq1
returns-then-n-eq1 c = covers_before c.args.n c.args.size c.args.image c.if-n-eq1.true

pub returns-then-n-eq0 : goal.returns-then-n-eq0
returns-then-n-eq0 c = covers_at c.args.n c.args.size c.args.image c.if-n-eq1.false c.if-n-eq0.true

pub returns-else-n-eq0 : goal.returns-else-n-eq0
returns-else-n-eq0 c = covers_behind c.args.n c.args.size c.args.image c.if-n-eq1.false c.if-n-eq0.false
