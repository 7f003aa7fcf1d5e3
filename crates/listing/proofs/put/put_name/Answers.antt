-- `put_name`: a tab, and a name behind it.
use Rattle.std.proofs.Common.{arith, ap, length}
use Rattle.listing.proofs.Columns.{kind_short, name_put}
use Rattle.listing.proofs.put.put_name.Goals as goal

pub put_bytes-requires-clause-text_len_bound : goal.put_bytes-requires-clause-text_len_bound
put_bytes-requires-clause-text_len_bound c = omega (arith, ap length c.name_of.ensures, kind_short c.args.kind)

pub returns : goal.returns
returns c = name_put _ c.args.kind _ c.name_of.ensures c.put.ensures c.put_bytes.ensures
