-- `write_line`: measured first.
use Rattle.std.proofs.Common.{map}
use Rattle.listing.specs.Text.{line, column}
use Rattle.listing.proofs.Texts.{line_short, line_fits}
use Rattle.listing.proofs.write_line.Goals as goal

pub returns-then-out-length : goal.returns-then-out-length
returns-then-out-length c =
    let a = c.args in
    line_short (line a.word.now (map column a.columns.now)) a.out.now c.put_line-length.ensures _ c.if-out-length.true c.refused.ensures

pub returns : goal.returns
returns c =
    let a = c.args in
    line_fits (line a.word.now (map column a.columns.now)) a.out.now c.put_line-length.ensures c.if-out-length.false c.put_line.ensures
