-- `whole`: two numbers of the grid.
use Rattle.listing.proofs.Showing.{whole_is}
use Rattle.listing.proofs.rows.whole.Goals as goal

pub returns : goal.returns
returns c =
    whole_is c.args.f _ _ _ _ c.color_sample_width.ensures c.color_sample_height.ensures c.unwrap_or.ensures c.unwrap_or-2.ensures
