-- `epf_default`: each group of values is its default, and the literal 1.0 is one.
use mathlib.Core.Path.{◌≡◌, refl}
use lib.Ieee.{binary32, of_bits, round}
use Rattle.filter.specs.Values.{decimal}
use Rattle.filter.proofs.EpfLaws.{epf_default_is}
use Rattle.filter.proofs.epf.epf_default.Goals as goal

one : of_bits binary32 1065353216 ≡ decimal 1 1
unfolding of_bits round decimal
one = refl

pub returns : goal.returns
returns c = epf_default_is _ _ _ _ c.sharp_default-sharp_lut.ensures c.scale_default-channel_scale.ensures c.sigma_default-sigma.ensures one
