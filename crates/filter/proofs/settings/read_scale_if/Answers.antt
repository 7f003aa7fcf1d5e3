-- `read_scale_if`: one call a row, by the law of its table.
use Rattle.std.proofs.Common.{◌∙◌}
use Rattle.filter.proofs.EpfLaws.{scale_is}
use Rattle.filter.proofs.settings.read_scale_if.Goals as goal

pub returns : goal.returns
returns c =
    scale_is c.args.s.now _ _ _ c.read_bool_if-flag.ensures _ _ _ _ _
    c.read_float_if-x0.ensures c.read_float_if-x1.ensures c.read_float_if-x2.ensures c.read_bits_if-ignored.ensures
    (c.chosen-value.ensures ∙ rw c.scale_default.ensures)
