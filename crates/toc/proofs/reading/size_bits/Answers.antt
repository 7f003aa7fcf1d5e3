-- `size_bits`: a byte of the number.
use Rattle.std.proofs.Common.{◌∙◌}
use lib.Bits.{and_mask}
use Rattle.toc.proofs.Sizing.{size_widths}
use Rattle.toc.proofs.reading.size_bits.Goals as goal

pub returns : goal.returns
returns c = and_mask _ 8 ∙ size_widths c.args.k c.requires
