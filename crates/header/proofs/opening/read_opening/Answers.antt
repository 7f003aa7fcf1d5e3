-- One call a row.
use mathlib.Core.Path.{◌≡◌, ◌∙◌, ap}
use mathlib.Core.Bool.{◌&&◌, not}
use lib.Dec.{eqb}
use Rattle.std.proofs.Common.{rules}
use Rattle.types.specs.Types.{use_lf_frame}
use Rattle.header.proofs.Bundles.{opening_law}
use Rattle.header.proofs.opening.read_opening.Goals as goal

pub returns : goal.returns
returns c =
    let ycbcr : c.if-on.read_bool_if ≡ (eqb c.read_bool_if-all.result.value 0 && not c.args.f.xyb) = search rules in
    let jpeg : c.if-ycbcr-eq1.jpeg ≡ (eqb c.read_bool_if-ycbcr.result.value 1 && not (use_lf_frame c.read_u64_if-flags.result.value)) = search rules in
    let up : c.if-on-2.read_u32_if ≡ (eqb c.read_bool_if-all.result.value 0 && not (use_lf_frame c.read_u64_if-flags.result.value)) = search rules in
    (opening_law c.args.s.now c.args.c c.args.f _ _ _ _ _ _ _ _ _
    c.read_bool_if-all.ensures
    c.read_bits_if-kind.ensures
    c.read_bits_if-encoding.ensures
    c.read_u64_if-flags.ensures
    (c.read_bool_if-ycbcr.ensures ∙ rw ycbcr)
    (c.read_bits_if-j0.ensures ∙ rw jpeg)
    (c.read_bits_if-j1.ensures ∙ rw jpeg)
    (c.read_bits_if-j2.ensures ∙ rw jpeg)
    (c.read_u32_if-up.ensures ∙ rw up))
