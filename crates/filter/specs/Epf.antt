-- `EdgePreservingFilter`, as src/filter.rs reads it: a flag and the iterations, and beside them its settings.
use Rattle.bits.specs.declared.Read.{Read}
use Rattle.std.specs.Prelude.{ℕ, Bool, true, false, not, ◌&&◌, List, [], ◌∷◌, eqb, Float}
use Rattle.bits.specs.Refusals.{pick}
use Rattle.bits.specs.Codec.{u, bool}
use Rattle.bits.specs.Table.{Table, ends, row, bind, within}
use Rattle.filter.specs.declared.settings.EpfSigma.{EpfSigma}
use Rattle.filter.specs.declared.settings.EpfParams.{EpfParams}
use Rattle.filter.specs.declared.epf.EdgePreservingFilter.{EdgePreservingFilter}
use Rattle.filter.specs.Values.{decimal, plus_zero, quotient, pattern, custom, float, floats}

-- 0.0, k / 7 for k from 1 to 6, 1.0
unfoldable pub sharp_default : List Float
sharp_default =
    decimal 0 1 ∷ quotient 1 7 ∷ quotient 2 7 ∷ quotient 3 7 ∷ quotient 4 7 ∷ quotient 5 7 ∷ quotient 6 7 ∷ decimal 1 1 ∷ []

-- 40.0, 5.0, 3.5
unfoldable pub scale_default : List Float
scale_default = decimal 40 1 ∷ decimal 5 1 ∷ decimal 35 10 ∷ []

-- 0.46, 0.9, 6.5, 2 / 3
unfoldable pub sigma_default : EpfSigma
sigma_default =
    record { quant_mul = decimal 46 100; pass0_sigma_scale = decimal 9 10; pass2_sigma_scale = decimal 65 10; border_sad_mul = quotient 2 3 }

-- eight sharpness values, three channel scales, four sigma values and the modular sigma
abbrev pub settings : List Float → List Float → EpfSigma → Float → EpfParams
settings lut scales four m = record {
  sharp_lut = lut;
  channel_scale = scales;
  quant_mul = four.quant_mul;
  pass0_sigma_scale = four.pass0_sigma_scale;
  pass2_sigma_scale = four.pass2_sigma_scale;
  border_sad_mul = four.border_sad_mul;
  sigma_for_modular = m;
}

-- the four sigma values of the settings
abbrev pub four_of : EpfParams → EpfSigma
four_of p = record {
  quant_mul = p.quant_mul;
  pass0_sigma_scale = p.pass0_sigma_scale;
  pass2_sigma_scale = p.pass2_sigma_scale;
  border_sad_mul = p.border_sad_mul;
}

-- two iterations, the default values, and 1.0 as the modular sigma
unfoldable pub epf_default : EdgePreservingFilter
epf_default =
    record {
      enabled = true;
      iters = 2;
      params = settings sharp_default scale_default sigma_default (decimal 1 1);
    }

-- a disabled filter's values are all +0.0, its iterations 0
unfoldable pub epf_disabled : EdgePreservingFilter
epf_disabled =
    record {
      enabled = false;
      iters = 0;
      params = record {
        sharp_lut = plus_zero ∷ plus_zero ∷ plus_zero ∷ plus_zero ∷ plus_zero ∷ plus_zero ∷ plus_zero ∷ plus_zero ∷ [];
        channel_scale = plus_zero ∷ plus_zero ∷ plus_zero ∷ [];
        quant_mul = plus_zero;
        pass0_sigma_scale = plus_zero;
        pass2_sigma_scale = plus_zero;
        border_sad_mul = plus_zero;
        sigma_for_modular = plus_zero;
      };
    }

-- eight sharpness values, if a Bool says so
unfoldable pub sharp : Bool → Table EpfParams (List Float)
sharp on =
    row on bool 0 (λ r. custom r.sharp_lut sharp_default) λ own.
    bind (floats (eqb own 1) 8 (λ r. r.sharp_lut)) λ values.
    ends (pick (eqb own 1) values sharp_default)

-- three channel scales, if a Bool says so, and then 32 bits that are ignored
unfoldable pub scale : Bool → Table EpfParams (List Float)
scale on =
    row on bool 0 (λ r. custom r.channel_scale scale_default) λ own.
    bind (floats (eqb own 1) 3 (λ r. r.channel_scale)) λ values.
    row (eqb own 1) (u 32) 0 (λ r. 0) λ ignored.
    ends (pick (eqb own 1) values scale_default)

abbrev pub sigmas : EpfSigma → List Float
sigmas r = r.quant_mul ∷ r.pass0_sigma_scale ∷ r.pass2_sigma_scale ∷ r.border_sad_mul ∷ []

-- the sigma values, if a Bool says so; in a Modular frame `quant_mul` isn't sent and stays 0.46
abbrev pub sigma_of : Bool → Bool → Float → Float → Float → Float → EpfSigma
sigma_of own modular q a b d =
    pick own
    (record { quant_mul = pick modular sigma_default.quant_mul q; pass0_sigma_scale = a; pass2_sigma_scale = b; border_sad_mul = d })
    sigma_default

unfoldable pub sigma : Bool → Bool → Table EpfSigma EpfSigma
sigma on modular =
    row on bool 0 (λ r. custom (sigmas r) (sigmas sigma_default)) λ own.
    bind (float (eqb own 1 && not modular) 0 λ r. pattern r.quant_mul) λ q.
    bind (float (eqb own 1) 0 λ r. pattern r.pass0_sigma_scale) λ a.
    bind (float (eqb own 1) 0 λ r. pattern r.pass2_sigma_scale) λ b.
    bind (float (eqb own 1) 0 λ r. pattern r.border_sad_mul) λ d.
    ends (sigma_of (eqb own 1) modular q a b d)

-- no iterations: disabled
abbrev pub epf_of : ℕ → EpfParams → EdgePreservingFilter
epf_of iters p = pick (eqb iters 0) epf_disabled (record { enabled = true; iters = iters; params = p })

-- The bundle. Where there are no iterations nothing more is read; sharpness is read in a VarDct frame alone, the modular sigma in a Modular
-- frame alone, and is 1.0 otherwise, whose f16 pattern is 15360.
unfoldable pub epf : Bool → Bool → Table EdgePreservingFilter EdgePreservingFilter
epf on modular =
    row on (u 2) 2 (λ r. r.iters) λ iters.
    let live : Bool = on && not (eqb iters 0) in
    bind (within (λ r. r.params) (sharp (live && not modular))) λ lut.
    bind (within (λ r. r.params) (scale live)) λ scales.
    bind (within (λ r. four_of r.params) (sigma live modular)) λ four.
    bind (float (live && modular) 15360 λ r. pattern r.params.sigma_for_modular) λ m.
    ends (epf_of iters (settings lut scales four m))
