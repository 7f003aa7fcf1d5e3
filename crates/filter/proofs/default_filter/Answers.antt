-- Both are the default ones.
use Rattle.filter.proofs.FilterLaws.{both_default}
use Rattle.filter.proofs.default_filter.Goals as goal

pub returns : goal.returns
returns c = both_default _ _ c.gabor_default-gab.ensures c.epf_default-epf.ensures
