-- `rect_of`: a square's rectangle, or the empty one.
use Rattle.std.proofs.Common.{Some, sym, ap, ◌∙◌}
use Rattle.std.specs.Result.{result_unwrap_or}
use Rattle.grid.specs.Groups.{rect_for}
use Rattle.listing.specs.Listed.{rect_by}
use Rattle.listing.proofs.Showing.{rect_or}
use Rattle.listing.proofs.rows.rect_of.Goals as goal

pub returns-in-LfGroup : goal.returns-in-LfGroup
unfolding rect_by rect_for
returns-in-LfGroup c = rw (c.in-LfGroup.is, c.unwrap_or.ensures, c.lf_group_rect.ensures) (ap Some (rect_or _ _))

pub returns-in-GroupPass : goal.returns-in-GroupPass
unfolding rect_by rect_for
returns-in-GroupPass c = rw (c.in-GroupPass.is, c.unwrap_or-in-GroupPass.ensures, c.group_rect.ensures) (ap Some (rect_or _ _))
