-- One call a row; a level is at most 3 before one is added.
use native.Mathlib.Omega.{arith}
use Prim.Native.Nat.{◌+◌}
use mathlib.Core.Path.{◌≡◌, ◌∙◌, ap}
use mathlib.Core.Bool.{◌&&◌, not}
use lib.Dec.{eqb}
use Rattle.std.proofs.Common.{rules}
use Rattle.bits.specs.Refusals.{pick}
use Rattle.header.proofs.Bundles.{placement_law, bits_below}
use Rattle.header.proofs.shape.read_placement.Goals as goal

pub overflow_add-lf_level : goal.overflow_add-lf_level
overflow_add-lf_level c = omega (arith, bits_below c.args.s.now _ 2 _ _ c.read_bits_if-level.ensures)

pub returns : goal.returns
returns c =
    let level : c.if-is_lf.lf_level ≡ pick (eqb c.args.o.frame_type 1) (c.read_bits_if-level.result.value + 1) 0 = search rules in
    let cropped : c.if-o-eq0.read_bool_if ≡ (eqb c.args.o.all_default 0 && not (eqb c.args.o.frame_type 1)) = search rules in
    let placed : c.if-crop.placed ≡ (eqb c.read_bool_if-cropped.result.value 1 && not (eqb c.args.o.frame_type 2)) = search rules in
    (placement_law c.args.s.now c.args.c c.args.f c.args.o _ _ _ _ _ _ _
    c.read_bits_if-level.ensures
    level
    (c.read_bool_if-cropped.ensures ∙ rw cropped)
    (c.read_u32_if-x.ensures ∙ rw placed)
    (c.read_u32_if-y.ensures ∙ rw placed)
    c.read_u32_if-w.ensures
    c.read_u32_if-h.ensures)
