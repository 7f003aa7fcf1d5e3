-- One call a row.
use mathlib.Core.Path.{◌≡◌, ◌∙◌, ap}
use mathlib.Core.Bool.{◌&&◌, ◌||◌, not}
use lib.Dec.{eqb}
use Rattle.std.proofs.Common.{rules}
use Rattle.header.proofs.Bundles.{closing_law, one_if, one_unless}
use Rattle.header.proofs.closing.read_closing.Goals as goal

pub returns : goal.returns
returns c =
    let o = c.args.o in
    let normal : c.if-kind-eq0.normal ≡ (eqb o.frame_type 0 || eqb o.frame_type 3) = search rules in
    let shown : c.if-on.shown ≡ (eqb o.all_default 0 && c.if-kind-eq0.normal) = search rules in
    let duration : c.if-shown.read_u32_if ≡ (c.if-on.shown && c.args.f.animation) = search rules in
    let timed : c.if-f.timed ≡ (c.args.f.animation && c.args.f.timecodes) = search rules in
    let timecode : c.if-shown-2.read_bits_if ≡ (c.if-on.shown && c.if-f.timed) = search rules in
    let kept : c.if-kind-ne1.kept ≡ (not (eqb o.frame_type 1) && eqb c.read_bool_if-last.result.value 0) = search rules in
    let reference : c.if-on-2.read_bits_if ≡ (eqb o.all_default 0 && c.if-kind-ne1.kept) = search rules in
    let referable : c.if-kept.referable ≡ (c.if-kind-ne1.kept && (eqb c.read_u32_if-duration.result.value 0 || not (eqb c.read_bits_if-reference.result.value 0))) = search rules in
    let before : c.if-kind-eq2.before ≡ (eqb o.frame_type 2 || (c.args.resets && c.if-kept.referable)) = search rules in
    let ct : c.if-on-3.read_bool_if ≡ (eqb o.all_default 0 && c.if-kind-eq2.before) = search rules in
    (closing_law c.args.s.now c.args.c c.args.f o c.args.resets _ _ _ _ _ _ _ _
    (c.read_u32_if-duration.ensures ∙ rw (duration, shown, normal))
    (c.read_bits_if-timecode.ensures ∙ rw (timecode, shown, normal, timed))
    (c.from.ensures ∙ one_if _)
    (c.read_bool_if-last.ensures ∙ rw (shown, normal))
    (c.read_bits_if-reference.ensures ∙ rw (reference, kept))
    (c.from-2.ensures ∙ one_unless _ ∙ rw normal)
    (c.read_bool_if-ct.ensures ∙ rw (ct, before, referable, kept))
    c.read_u32_if-name.ensures)
