-- `put_heading`: the heading, byte by byte.
use Rattle.listing.specs.Text.{heading}
use Rattle.listing.proofs.put_heading.Goals as goal

pub returns : goal.returns
unfolding heading
returns c = c.put_bytes.ensures
