-- `give_default`: nothing of the arrays is sent, and the record is that of the defaults.
use Rattle.header.proofs.AllDefault.{default_given}
use Rattle.header.proofs.Entering.{default_named}
use Rattle.header.proofs.defaults.give_default.Goals as goal

pub shape_of-upsampling : goal.shape_of-upsampling
shape_of-upsampling c = c.read_array.auto.out

pub shape_of-blending : goal.shape_of-blending
shape_of-blending c = c.read_extra_blending.auto.out

pub assemble-header-requires : goal.assemble-header-requires
assemble-header-requires c = default_named c.args.f _ _ c.default_front-front.ensures c.default_back-back.ensures

pub returns : goal.returns
returns c =
    default_given c.args.f c.args.s.now c.args.at _ _ c.assemble-header.result _ _ _ _ _ _
    c.default_front-front.ensures
    c.default_back-back.ensures
    c.assemble-header.ensures
    c.read_array.ensures
    (rw c.source_decider.ensures at c.read_extra_blending.ensures)
