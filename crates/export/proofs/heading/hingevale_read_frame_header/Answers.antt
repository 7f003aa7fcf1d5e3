-- `hingevale_read_frame_header`: no room for the record, or the entry of the crate below.
use borrow.Author.Tests.{not-true, not-false}
use Rattle.c_words.specs.Heading.{facts, buffers}
use Rattle.export.proofs.Entering.{head_short, head_read}
use Rattle.std.proofs.lemmas.Bool.{not_from_false, not_from_true}
use Rattle.export.proofs.heading.hingevale_read_frame_header.Goals as goal

pub returns-then-not-has_room : goal.returns-then-not-has_room
returns-then-not-has_room c = head_short (facts c.args.width c.args.height c.args.xyb c.args.grey c.args.extra c.args.animation c.args.timecodes) c.args.s.now (buffers c.args.name.now c.args.upsampling.now c.args.blending.now c.args.words.now c.args.signed.now c.args.floats.now) _ c.has_room.ensures (not-true _ (not_from_false _ c.if-not-has_room.true)) _ c.no_record.ensures _ c.status.ensures

pub returns : goal.returns
returns c = head_read (facts c.args.width c.args.height c.args.xyb c.args.grey c.args.extra c.args.animation c.args.timecodes) c.args.s.now (buffers c.args.name.now c.args.upsampling.now c.args.blending.now c.args.words.now c.args.signed.now c.args.floats.now) _ c.has_room.ensures (not-false _ (not_from_true _ c.if-not-has_room.false)) _ _ _ _ _ _ _ _ c.read_frame_header-a.ensures c.give_record.ensures
