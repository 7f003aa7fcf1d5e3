-- `gabor_disabled`: six times +0.0.
use mathlib.Core.Path.{refl}
use lib.Ieee.{of_bits, round}
use Rattle.filter.specs.Values.{decimal}
use Rattle.filter.specs.Gabor.{gabor_disabled}
use Rattle.filter.proofs.gabor.gabor_disabled.Goals as goal

pub returns : goal.returns
unfolding of_bits round decimal gabor_disabled
returns c = refl
