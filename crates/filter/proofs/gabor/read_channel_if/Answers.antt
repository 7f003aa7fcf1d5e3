-- `read_channel_if`: two rows and the test, by the law of its table.
use Rattle.filter.proofs.GaborLaws.{channel_is}
use Rattle.filter.proofs.gabor.read_channel_if.Goals as goal

pub returns : goal.returns
returns c = channel_is c.args.s.now _ _ _ _ _ _ _ _ c.read_f16_if-a.ensures c.read_f16_if-b.ensures c.is_unbalanced-bad.ensures c.refuse_if-next.ensures c.f16_to_f32-first.ensures c.f16_to_f32-second.ensures
