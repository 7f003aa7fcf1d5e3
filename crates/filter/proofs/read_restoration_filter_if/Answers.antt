-- `read_restoration_filter_if`: nothing is sent, or one call a row or a bundle, by the law of its table.
use Rattle.std.proofs.Common.{◌≡◌, ◌&&◌, eqb, rules}
use Rattle.filter.proofs.FilterLaws.{filter_is, filter_unread}
use Rattle.std.proofs.lemmas.Bool.{not_from_false}
use Rattle.filter.proofs.read_restoration_filter_if.Goals as goal

pub returns-then-not-live : goal.returns-then-not-live
returns-then-not-live c =
    let live : c.if-on.live ≡ (c.args.on && eqb c.read_bool_if-all_default.result.value 0) = search rules in
    filter_unread c.args.s.now _ _ _ _ _ _ c.read_bool_if-all_default.ensures live (not_from_false _ c.if-not-live.true) c.default_filter-value.ensures

pub returns : goal.returns
returns c =
    let live : c.if-on.live ≡ (c.args.on && eqb c.read_bool_if-all_default.result.value 0) = search rules in
    filter_is c.args.s.now _ _ _ _ _ _ _ _ c.read_bool_if-all_default.ensures live c.read_gabor_if-g.ensures c.read_epf_if-e.ensures c.read_extensions_if-next.ensures
