-- One call a row.
use mathlib.Core.Path.{◌≡◌, ◌∙◌, ap}
use mathlib.Core.Bool.{◌&&◌}
use lib.Dec.{eqb}
use Rattle.std.proofs.Common.{rules}
use Rattle.bits.specs.Refusals.{pick}
use Rattle.header.proofs.Bundles.{scales_law}
use Rattle.header.proofs.shape.read_scales.Goals as goal

pub returns : goal.returns
returns c =
    let xyb : c.if-f.xyb ≡ (c.args.f.xyb && eqb c.args.o.encoding 0) = search rules in
    let scaled : c.if-o-eq0.scaled ≡ (eqb c.args.o.all_default 0 && c.if-f.xyb) = search rules in
    let x : c.if-xyb.read_bits_if ≡ pick c.if-f.xyb 3 2 = search rules in
    (scales_law c.args.s.now c.args.c c.args.f c.args.o _ _ _ _ _
    xyb
    x
    c.read_bits_if-shift.ensures
    (c.read_bits_if-x.ensures ∙ rw scaled)
    (c.read_bits_if-b.ensures ∙ rw scaled))
