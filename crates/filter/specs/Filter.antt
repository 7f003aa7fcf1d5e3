-- `RestorationFilter`, as the bundle of src/header.rs.
use Rattle.bits.specs.declared.Read.{Read}
use Rattle.std.specs.Prelude.{Bool, ◌&&◌, eqb}
use Rattle.bits.specs.Codec.{bool}
use Rattle.bits.specs.Table.{Table, ends, row, bind, within}
use Rattle.bits.specs.Extensions.{extensions}
use Rattle.filter.specs.declared.RestorationFilter.{RestorationFilter}
use Rattle.filter.specs.Gabor.{gabor, gabor_default, gabor_disabled}
use Rattle.filter.specs.Epf.{epf, epf_default, epf_disabled}

-- The all_default bit, which isn't kept and isn't written, both filters and the extensions. Where it is 1, or the bundle isn't asked
-- for, both filters are the default ones.
unfoldable pub restoration : Bool → Bool → Table RestorationFilter RestorationFilter
restoration on modular =
    row on bool 1 (λ r. 0) λ allDefault.
    let live : Bool = on && eqb allDefault 0 in
    bind (within (λ r. r.gab) (gabor live)) λ gab.
    bind (within (λ r. r.epf) (epf live modular)) λ epf.
    bind (within (λ r. tt) (extensions live)) λ skipped.
    ends (record { gab = gab; epf = epf })

-- both default ones
unfoldable pub filter_default : RestorationFilter
filter_default = record { gab = gabor_default; epf = epf_default }

-- both disabled
unfoldable pub filter_disabled : RestorationFilter
filter_disabled = record { gab = gabor_disabled; epf = epf_disabled }
