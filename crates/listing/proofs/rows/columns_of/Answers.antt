-- `columns_of`: four of them by the rectangle.
use Rattle.listing.specs.Text.{columns_of}
use Rattle.listing.proofs.Walks.{sides_each}
use Rattle.listing.proofs.rows.columns_of.Goals as goal

pub returns : goal.returns
unfolding columns_of
returns c =
    let sides = sides_each c.args.r.rect c.sides_of.result c.sides_of.ensures in
    rw (c.pass_of.ensures, c.group_of.ensures, c.from.ensures, c.from-2.ensures, sides)
