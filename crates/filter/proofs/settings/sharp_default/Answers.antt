-- `sharp_default`: each division's result is the definition's.
use mathlib.Core.Path.{refl}
use lib.Ieee.{of_bits, of_int, div, round}
use Rattle.filter.specs.Values.{decimal, quotient}
use Rattle.filter.specs.Epf.{sharp_default}
use Rattle.filter.proofs.settings.sharp_default.Goals as goal

pub returns : goal.returns
unfolding of_bits of_int div round decimal quotient sharp_default
returns c = refl
