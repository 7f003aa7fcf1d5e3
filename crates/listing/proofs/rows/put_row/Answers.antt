-- `put_row`: the number, the kind's name, and the columns.
use Rattle.listing.proofs.Walks.{row_put}
use Rattle.listing.proofs.rows.put_row.Goals as goal

pub returns : goal.returns
returns c = row_put c.args.r _ c.columns_of.ensures (rw c.from.ensures at c.put_number-a.ensures) c.put_name-b.ensures c.put_columns.ensures
