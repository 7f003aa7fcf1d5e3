-- `read_back`: one call a part, by the law of the whole.
use mathlib.Core.Path.{◌≡◌, ◌∙◌}
use mathlib.Core.Bool.{◌&&◌}
use lib.Dec.{eqb}
use Rattle.std.proofs.Common.{rules}
use Rattle.header.proofs.Whole.{back_law}
use Rattle.header.proofs.parts.read_back.Goals as goal

pub shape_of-channels : goal.shape_of-channels
shape_of-channels c = c.read_extra_blending-x.auto.out

pub returns : goal.returns
returns c =
    let resets : c.if-mode-eq0.read_closing ≡ (eqb c.read_blending_if-b.result.value.mode 0 && c.covers_image-full.result) = search rules in
    rw c.kept-blending_at.ensures
    (back_law c.args.s.now c.args.c c.args.f c.args.o c.args.placement c.read_blending_if-b.result _ c.args.channels.now _ _ _ _ _
    (c.read_blending_if-b.ensures ∙ rw (c.sends_blending-sent.ensures, c.covers_image-full.ensures))
    (rw (c.sends_blending-sent.ensures, c.covers_image-full.ensures, c.kept-blending_at.ensures, c.source_decider.ensures) at c.read_extra_blending-x.ensures)
    (c.read_closing-e.ensures ∙ rw (resets, c.covers_image-full.ensures))
    c.pass_bytes-n.ensures
    c.read_restoration_filter_if-r.ensures
    c.read_extensions_if-next.ensures)
