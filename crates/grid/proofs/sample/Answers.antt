-- `sample`: with nothing to divide by, and with an upsampling; the shift is a power of eight.
use Rattle.grid.proofs.Steps.{sample_plain, sample_divided}
use Rattle.grid.proofs.sample.Goals as goal

pub returns-then-upsampling-le1 : goal.returns-then-upsampling-le1
returns-then-upsampling-le1 c = sample_plain _ _ _ c.requires _ c.if-upsampling-le1.true c.div_ceil.ensures

pub returns-else-upsampling-le1 : goal.returns-else-upsampling-le1
returns-else-upsampling-le1 c = sample_divided _ _ _ c.requires _ _ c.if-upsampling-le1.false c.div_ceil-else-upsampling-le1.ensures c.div_ceil-else-upsampling-le1-2.ensures
