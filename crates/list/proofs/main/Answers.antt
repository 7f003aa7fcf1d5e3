-- `main`: what is written lies within its bytes.
use Rattle.listing.proofs.Texts.{texted_within, texted_part}
use Rattle.list.proofs.main.Goals as goal

pub slice_bounds-out-end : goal.slice_bounds-out-end
slice_bounds-out-end c = texted_within _ _ _ c.list_frame.ensures _ c.in-Ok.is

pub slice_bounds-write_all-end : goal.slice_bounds-write_all-end
slice_bounds-write_all-end c = texted_part _ _ _ c.list_frame.ensures _ c.in-Ok.is
