-- `read_sigma_if`: one call a row, by the law of its table.
use Rattle.std.proofs.Common.{◌≡◌, ◌&&◌, not, eqb, rules}
use Rattle.filter.proofs.EpfLaws.{sigma_is}
use Rattle.filter.proofs.settings.read_sigma_if.Goals as goal

pub returns : goal.returns
returns c =
    let quant : c.if-own.quant ≡ (eqb c.read_bool_if-flag.result.value 1 && not c.args.modular) = search rules in
    sigma_is c.args.s.now _ _ _ c.read_bool_if-flag.ensures _ _ _ _ _ _ _ quant
    c.read_float_if-q.ensures c.read_float_if-a.ensures c.read_float_if-b.ensures c.read_float_if-d.ensures
    c.sigma_of-value.ensures
