-- `read_gabor_if`: one call a row, by the law of its table.
use Rattle.std.proofs.Common.{◌≡◌, ◌&&◌, eqb, rules}
use Rattle.filter.proofs.GaborLaws.{gabor_is}
use Rattle.filter.proofs.gabor.read_gabor_if.Goals as goal

pub returns : goal.returns
returns c =
    let live : c.if-on.live ≡ (c.args.on && eqb c.read_bool_if-enabled.result.value 1) = search rules in
    gabor_is c.args.s.now _ _ _ _ _ _ _ _ _ c.read_bool_if-enabled.ensures live c.read_bool_if-own.ensures c.read_channel_if-x.ensures c.read_channel_if-y.ensures c.read_channel_if-z.ensures c.gabor_of.ensures
