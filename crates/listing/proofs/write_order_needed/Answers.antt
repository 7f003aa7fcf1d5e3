-- `write_order_needed`: the line by its definition.
use Rattle.listing.specs.Text.{column, order_text}
use Rattle.listing.proofs.write_order_needed.Goals as goal

pub returns : goal.returns
unfolding column order_text
returns c = c.write_line.ensures
