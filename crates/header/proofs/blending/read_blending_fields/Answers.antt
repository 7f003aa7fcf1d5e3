-- One call a row.
use mathlib.Core.Path.{◌≡◌, refl, ◌∙◌, ap}
use mathlib.Core.Bool.{◌&&◌, ◌||◌}
use lib.Dec.{eqb}
use Rattle.std.proofs.Common.{rules}
use Rattle.header.specs.Blending.{has_source}
use Rattle.header.proofs.Bundles.{blending_law}
use Rattle.header.proofs.blending.read_blending_fields.Goals as goal

pub returns : goal.returns
returns c =
    let alpha : c.if-extra.alpha ≡ (c.args.extra && (eqb c.read_enum_if-m.result.value 2 || eqb c.read_enum_if-m.result.value 3)) = search rules in
    let clamp : c.if-alpha.read_bool_if ≡ (c.if-extra.alpha || eqb c.read_enum_if-m.result.value 4) = search rules in
    let source : c.if-on.source ≡ (c.args.on && has_source c.args.d c.read_enum_if-m.result.value c.args.full) = search rules in
    (blending_law c.args.s.now c.args.c c.args.on c.args.extra c.args.full c.args.d _ _ _ _ _
    c.read_enum_if-m.ensures
    (c.read_u32_if-a.ensures ∙ rw alpha)
    (c.read_bool_if-k.ensures ∙ rw (clamp, alpha))
    refl
    (c.read_bits_if-x.ensures ∙ rw source))
