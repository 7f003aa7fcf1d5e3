-- `put_number`: the digits stand at the end of their bytes.
use Rattle.std.proofs.Common.{arith}
use Rattle.listing.proofs.Columns.{digits_text, number_small, number_put}
use Rattle.listing.proofs.put.put_number.Goals as goal

pub put_bytes-requires-clause-text_len_bound : goal.put_bytes-requires-clause-text_len_bound
put_bytes-requires-clause-text_len_bound c =
    omega (arith, number_small c.args.n _ (omega arith) (digits_text _ _ _ c.write_number.ensures c.text.ensures))

pub returns : goal.returns
returns c = number_put c.args.n _ (omega arith) (digits_text _ _ _ c.write_number.ensures c.text.ensures) c.put_bytes.ensures
