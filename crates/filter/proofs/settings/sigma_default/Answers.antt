-- `sigma_default`: the literals are the f32 nearest to the decimals, and 2 / 3 is one division.
use mathlib.Core.Path.{refl}
use lib.Ieee.{of_bits, of_int, div, round}
use Rattle.filter.specs.Values.{decimal, quotient}
use Rattle.filter.specs.Epf.{sigma_default}
use Rattle.filter.proofs.settings.sigma_default.Goals as goal

pub returns : goal.returns
unfolding of_bits of_int div round decimal quotient sigma_default
returns c = refl
