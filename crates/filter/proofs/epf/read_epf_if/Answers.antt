-- `read_epf_if`: one call a row or a group, by the law of its table.
use Rattle.std.proofs.Common.{◌≡◌, ◌&&◌, not, eqb, rules}
use Rattle.filter.proofs.EpfLaws.{epf_is}
use Rattle.filter.proofs.epf.read_epf_if.Goals as goal

pub returns : goal.returns
returns c =
    let live : c.if-on.live ≡ (c.args.on && not (eqb c.read_bits_if-iters.result.value 0)) = search rules in
    let lut : c.if-live.read_sharp_if ≡ (c.if-on.live && not c.args.modular) = search rules in
    let own : c.if-live-2.read_float_if ≡ (c.if-on.live && c.args.modular) = search rules in
    epf_is c.args.s.now _ _ _ _ _ _ _ _ _ _ _ _ c.read_bits_if-iters.ensures live lut
    c.read_sharp_if-lut.ensures c.read_scale_if-scale.ensures c.read_sigma_if-four.ensures own c.read_float_if-own.ensures
    c.epf_of-value.ensures
