-- `put_line`: a word, and columns behind it.
use Rattle.listing.proofs.Putting.{then}
use Rattle.listing.proofs.put_line.Goals as goal

pub returns : goal.returns
returns c = then c.put_bytes-a.ensures c.put_columns.ensures.0
