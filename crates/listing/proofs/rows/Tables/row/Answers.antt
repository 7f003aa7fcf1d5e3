-- `row`: the kind is told whole by its numbers.
use Rattle.std.proofs.Common.{◌∙◌}
use Rattle.listing.specs.Listed.{row_at}
use Rattle.listing.proofs.Showing.{kind_is}
use Rattle.listing.proofs.rows.Tables.row.Goals as goal

pub returns : goal.returns
unfolding row_at
returns c =
    let kind = c.unwrap_or-kind.ensures ∙ kind_is c.args.self.now.frame c.args.i c.kind_of.result c.kind_of.ensures in
    rw (c.rect_of.ensures, kind, c.word.ensures, c.word-2.ensures, c.word-3.ensures)
