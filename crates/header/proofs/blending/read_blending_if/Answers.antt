-- Read of one look ahead, or field by field.
use mathlib.Core.Path.{◌≡◌, refl, ap}
use mathlib.Core.Bool.{◌&&◌, ◌||◌}
use lib.Dec.{eqb}
use Rattle.std.proofs.Common.{rules}
use Rattle.header.proofs.Bundles.{blending_seen}
use Rattle.std.proofs.lemmas.Bool.{not_from_false}
use Rattle.header.proofs.blending.read_blending_if.Goals as goal

pub returns-then-m-lt5 : goal.returns-then-m-lt5
returns-then-m-lt5 c =
    let alpha : c.if-extra.alpha ≡ (c.args.extra && (eqb c.see_small-m.result.value 2 || eqb c.see_small-m.result.value 3)) = search rules in
    let clamp : c.if-alpha.see ≡ (c.if-extra.alpha || eqb c.see_small-m.result.value 4) = search rules in
    (blending_seen c.args.s.now c.args.c.at c.look_ahead-ahead.result c.look_ahead-ahead.ensures c.if-ahead.true c.see_small-m.result c.see_small-m.ensures c.if-extra.alpha c.see_small-a.result c.see_small-a.ensures c.if-alpha.see c.see-k.result c.see-k.ensures
    c.args.c c.args.on c.args.extra c.args.full c.args.d c.idle.result c.idle.ensures (not_from_false _ c.if-not-idle.true) refl c.if-m-lt5.true
    _ refl alpha clamp
    c.has_source.result c.has_source.ensures c.see-x.result c.see-x.ensures c.begin-next.result c.begin-next.ensures)
