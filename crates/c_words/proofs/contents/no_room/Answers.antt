-- `no_room`: one law for each way out.
use Rattle.c_words.proofs.Naming.{too_long, own_first, then_three}
use Rattle.c_words.proofs.contents.no_room.Goals as goal

pub returns-then-n-gt16777216 : goal.returns-then-n-gt16777216
returns-then-n-gt16777216 c = too_long c.args.n c.args.f c.if-n-gt16777216.true _ c.refused.ensures

pub returns-in-Ok : goal.returns-in-Ok
returns-in-Ok c = then_three c.args.n c.args.f c.if-n-gt16777216.false _ c.in-Ok.ensures _ c.refused-in-Ok.ensures

pub returns-in-Err : goal.returns-in-Err
returns-in-Err c = own_first c.args.n c.args.f c.if-n-gt16777216.false _ c.in-Err.ensures
