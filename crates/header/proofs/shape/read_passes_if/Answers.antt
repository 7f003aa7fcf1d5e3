-- Two counts, and three arrays on tables of just their size.
use mathlib.Core.Path.{refl, ap}
use Rattle.header.proofs.Bundles.{passes_law}
use Rattle.header.proofs.shape.read_passes_if.Goals as goal

pub returns : goal.returns
returns c =
    (passes_law c.args.s.now c.args.c c.args.on _ _ _ _ _ _ _ _ _ _ _ _
    c.read_u32_if-n.ensures
    c.read_u32_if-ds.ensures
    c.saturating_sub-shifts.ensures
    refl
    refl
    refl
    c.read_array-a.ensures
    c.read_array-b.ensures
    c.read_array-next.ensures)
