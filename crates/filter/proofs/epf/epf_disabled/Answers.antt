-- `epf_disabled`: every value is +0.0.
use mathlib.Core.Path.{refl}
use lib.Ieee.{of_bits, of_int, div, round}
use Rattle.filter.specs.Values.{decimal, quotient}
use Rattle.filter.specs.Epf.{epf_disabled}
use Rattle.filter.proofs.epf.epf_disabled.Goals as goal

pub returns : goal.returns
unfolding of_bits of_int div round decimal quotient epf_disabled
returns c = refl
