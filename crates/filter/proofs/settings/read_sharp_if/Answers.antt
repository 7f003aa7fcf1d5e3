-- `read_sharp_if`: one call a row, by the law of its table.
use Rattle.std.proofs.Common.{◌∙◌}
use Rattle.filter.proofs.EpfLaws.{sharp_is}
use Rattle.filter.proofs.settings.read_sharp_if.Goals as goal

pub returns : goal.returns
returns c =
    sharp_is c.args.s.now _ _ _ c.read_bool_if-flag.ensures _ _ _ _ _ _ _ _ _
    c.read_float_if-x0.ensures c.read_float_if-x1.ensures c.read_float_if-x2.ensures c.read_float_if-x3.ensures
    c.read_float_if-x4.ensures c.read_float_if-x5.ensures c.read_float_if-x6.ensures c.read_float_if-x7.ensures
    (c.chosen-value.ensures ∙ rw c.sharp_default.ensures)
