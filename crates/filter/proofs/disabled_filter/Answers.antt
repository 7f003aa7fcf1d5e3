-- Both are disabled.
use Rattle.filter.proofs.FilterLaws.{both_disabled}
use Rattle.filter.proofs.disabled_filter.Goals as goal

pub returns : goal.returns
returns c = both_disabled _ _ c.gabor_disabled-gab.ensures c.epf_disabled-epf.ensures
