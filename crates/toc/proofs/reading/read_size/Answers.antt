-- `read_size`: a U32 of the four choices.
use Rattle.std.proofs.Common.{◌∙◌}
use Rattle.toc.proofs.reading.read_size.Goals as goal

pub returns : goal.returns
returns c = c.read_u32.ensures ∙ rw c.one_of-d.ensures
