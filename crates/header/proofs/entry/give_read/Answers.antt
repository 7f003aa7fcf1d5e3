-- `give_read`: the record, the extra channels, and the name where it begins.
use Rattle.header.proofs.Entering.{filled_by}
use Rattle.header.proofs.entry.give_read.Goals as goal

pub returns : goal.returns
returns c = filled_by c.args.f c.args.s.now c.args.a c.args.b c.args.upsampling.now _ c.args.blending.now _ c.assemble-header.result c.args.name.now _ _ c.assemble-header.ensures c.give_channels.ensures c.read_bytes.ensures
