-- `scale_default`: the literals are the f32 nearest to the decimals.
use mathlib.Core.Path.{refl}
use lib.Ieee.{of_bits, of_int, div, round}
use Rattle.filter.specs.Values.{decimal, quotient}
use Rattle.filter.specs.Epf.{scale_default}
use Rattle.filter.proofs.settings.scale_default.Goals as goal

pub returns : goal.returns
unfolding of_bits of_int div round decimal quotient scale_default
returns c = refl
