-- `write_refused`: the line by its definition.
use Rattle.listing.specs.Text.{column, refused_text}
use Rattle.listing.proofs.write_refused.Goals as goal

pub returns : goal.returns
unfolding column refused_text
returns c = rw c.from.ensures at c.write_line.ensures
