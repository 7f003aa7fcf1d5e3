-- `put_column`: a dash, or a tab and a number behind it.
use Rattle.listing.proofs.Columns.{column_dash, column_number}
use Rattle.listing.proofs.put.put_column.Goals as goal

pub returns-in-None : goal.returns-in-None
returns-in-None c = column_dash c.args.shown c.in-None.is c.put_bytes.ensures

pub returns-in-Some : goal.returns-in-Some
returns-in-Some c = column_number _ c.args.shown c.in-Some.n c.in-Some.is c.put.ensures c.put_number.ensures
