-- `give_channels`: the words that were kept, or each array where the walk that judged it began.
use native.Mathlib.Omega.{arith}
use mathlib.Core.Path.{sym}
use lib.Seq.{length-take-le}
use Rattle.header.proofs.Entering.{given_kept, given_read}
use Rattle.header.proofs.entry.give_channels.Goals as goal

pub slice_bounds-fill-end : goal.slice_bounds-fill-end
slice_bounds-fill-end c = sym (length-take-le _ c.args.ups.now (omega (arith, c.requires.room.0, c.if-f-le8.true)))

pub slice_bounds-fill-end-then-f-le8 : goal.slice_bounds-fill-end-then-f-le8
slice_bounds-fill-end-then-f-le8 c = sym (length-take-le _ c.args.channels.now (omega (arith, c.requires.room.1, c.if-f-le8.true)))

pub returns-then-f-le8 : goal.returns-then-f-le8
returns-then-f-le8 c = given_kept c.args.f c.args.s.now c.args.a c.args.b c.args.upsampling.now _ c.args.blending.now _ c.args.ups.now c.args.channels.now c.requires c.if-f-le8.true c.fill.ensures c.fill-then-f-le8.ensures

pub returns : goal.returns
returns c =
    given_read c.args.f c.args.s.now c.args.a c.args.b c.args.upsampling.now _ c.args.blending.now _ _ _
    (rw c.sent_upsampling.ensures at c.read_array.ensures)
    (rw (c.sends_blending.ensures, c.covers_image.ensures, c.source_decider.ensures) at c.read_extra_blending.ensures)
