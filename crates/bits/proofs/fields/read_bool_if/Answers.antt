-- A Bool is u(1).
use Rattle.std.proofs.Common.{◌∙◌}
use Rattle.bits.proofs.Codecs.{bool_is}
use Rattle.bits.proofs.fields.read_bool_if.Goals as goal

pub returns : goal.returns
returns c = c.read_bits_if.ensures ∙ bool_is c.args.s.now _ _ _
