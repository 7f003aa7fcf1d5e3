-- One bundle after the other.
use mathlib.Core.Path.{◌≡◌, ◌∙◌}
use mathlib.Core.Bool.{◌&&◌, not}
use lib.Dec.{eqb}
use Rattle.std.proofs.Common.{rules}
use Rattle.header.proofs.Whole.{front_law}
use Rattle.header.proofs.parts.read_front.Goals as goal

pub returns : goal.returns
returns c =
    let several : c.if-opening-eq0.read_passes_if ≡ (eqb c.read_opening-a.result.value.all_default 0 && not (eqb c.read_opening-a.result.value.frame_type 2)) = search rules in
    front_law c.args.s.now c.args.f _ _ _ c.args.upsampling.now _ _ _ _
    c.begin.ensures
    c.read_opening-a.ensures
    (rw c.sent_upsampling.ensures at c.read_array-u.ensures)
    c.read_scales-q.ensures
    (c.read_passes_if-p.ensures ∙ rw several)
    c.read_placement-c.ensures
