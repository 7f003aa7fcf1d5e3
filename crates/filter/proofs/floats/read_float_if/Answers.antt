-- `read_float_if`: the pattern, and its f32.
use Rattle.filter.proofs.EpfLaws.{float_read_lem}
use Rattle.filter.proofs.floats.read_float_if.Goals as goal

pub returns : goal.returns
returns c = float_read_lem c.args.s.now _ _ _ _ _ c.read_f16_if-h.ensures c.f16_to_f32-value.ensures
