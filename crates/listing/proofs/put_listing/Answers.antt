-- `put_listing`: the heading, the lines, the total.
use Rattle.listing.specs.Text.{column, total_text}
use Rattle.listing.proofs.Texts.{heading_small, listing_put}
use Rattle.listing.proofs.put_listing.Goals as goal

pub put_rows-b-requires : goal.put_rows-b-requires
put_rows-b-requires c = (heading_small c.put_heading-a.ensures, c.requires)

pub returns : goal.returns
unfolding column total_text
returns c =
    let a = c.args in
    listing_put a.count a.t.now.frame a.t.now.offsets.now a.t.now.sizes.now a.t.now.order.now _ c.put_heading-a.ensures c.put_rows-b.ensures c.sum_sizes.ensures c.put_line.ensures
