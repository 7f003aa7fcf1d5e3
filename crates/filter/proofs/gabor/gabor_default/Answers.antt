-- `gabor_default`: the literals are the f32 nearest to the decimals.
use mathlib.Core.Path.{refl}
use lib.Ieee.{of_bits, round}
use Rattle.filter.specs.Values.{decimal}
use Rattle.filter.specs.Gabor.{gabor_default}
use Rattle.filter.proofs.gabor.gabor_default.Goals as goal

pub returns : goal.returns
unfolding of_bits round decimal gabor_default
returns c = refl
