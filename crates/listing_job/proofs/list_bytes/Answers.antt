-- `list_bytes`: no more than there are.
use Rattle.listing_job.proofs.Jobs.{bytes_text, least_long}
use Rattle.listing_job.proofs.list_bytes.Goals as goal

pub slice_bounds-list_header-end : goal.slice_bounds-list_header-end
slice_bounds-list_header-end c = least_long 32768 _ c.args.rest.now c.min-n.ensures

pub returns : goal.returns
returns c = bytes_text c.args.rest.now _ c.args.facts c.args.out.now _ c.min-n.ensures c.list_header.ensures
