-- Read ℕ by field.
use mathlib.Core.Path.{◌≡◌, sym, ◌∙◌}
use mathlib.Core.Bool.{◌&&◌}
use lib.Dec.{eqb}
use Rattle.bits.specs.declared.Read.{Read}
use Rattle.std.proofs.Common.{rules}
use mir.Syntax.{w32}
use mir.ValLaws.{to_z-of_z}
use Rattle.types.proofs.Numbers.{frame_type_same, encoding_same}
use Rattle.header.proofs.Entering.{assembled}
use Rattle.header.proofs.entry.assemble.Goals as goal

pub returns : goal.returns
returns c =
    let resets : c.if-blending-eq0.resets_canvas ≡ (eqb c.args.b.blending.mode 0 && c.covers_image-full.result) = search rules in
    let type = frame_type_same _ _ (sym c.try_from.ensures ∙ c.unwrap-frame_type.ensures) in
    let encoding = encoding_same _ _ (sym c.try_from-2.ensures ∙ c.unwrap-encoding.ensures) in
    assembled c.args.f c.args.a c.args.b _ _ _ _ _ c.blending_info-info.result _ _ type encoding c.color_channels-encoded_color_channels.ensures
    (to_z-of_z w32 _ (record { sfits = c.unpack_signed-x0.type_inv }) ∙ c.unpack_signed-x0.ensures)
    (to_z-of_z w32 _ (record { sfits = c.unpack_signed-y0.type_inv }) ∙ c.unpack_signed-y0.ensures)
    c.blending_info-info.ensures c.covers_image-full.ensures resets
