-- `judge_place`: the refusals before reading, in their order.
use Rattle.std.proofs.Common.{sym, ◌∙◌, ap, not}
use Rattle.bits.proofs.Answered.{handed}
use Rattle.toc.proofs.Judging.{place_long, place_frame, place_room, place_past, place_good, room_of}
use Rattle.toc.proofs.reading.judge_place.Goals as goal

pub returns-then-s-gt16777216 : goal.returns-then-s-gt16777216
returns-then-s-gt16777216 c = rw c.refused.ensures (place_long c.args.s.now c.args.f c.args.place _ c.if-s-gt16777216.true)

pub returns-in_err-g : goal.returns-in_err-g
returns-in_err-g c = handed _ _ c.from_residual.ensures.1 ∙ place_frame c.args.s.now c.args.f c.args.place _ c.if-s-gt16777216.false _ c.in_err-g.ensures

pub returns-then-not-has_room : goal.returns-then-not-has_room
returns-then-not-has_room c =
    rw c.refused-then-not-has_room.ensures
    (place_room c.args.s.now c.args.f c.args.place _ c.if-s-gt16777216.false _ c.in_ok-g.ensures
    (ap not (sym (c.has_room.ensures ∙ room_of c.args.f _ c.in_ok-g.ensures _ _ _ _) ∙ c.if-not-has_room.true)))

pub returns-then-end-place : goal.returns-then-end-place
returns-then-end-place c =
    rw c.refused-then-end-place.ensures
    (place_past c.args.s.now c.args.f c.args.place _ c.if-s-gt16777216.false _ c.in_ok-g.ensures
    (ap not (sym (c.has_room.ensures ∙ room_of c.args.f _ c.in_ok-g.ensures _ _ _ _) ∙ c.if-not-has_room.false)) c.if-end-place.true)

pub returns : goal.returns
returns c =
    place_good c.args.s.now c.args.f c.args.place _ c.if-s-gt16777216.false _ c.in_ok-g.ensures
    (ap not (sym (c.has_room.ensures ∙ room_of c.args.f _ c.in_ok-g.ensures _ _ _ _) ∙ c.if-not-has_room.false)) c.if-end-place.false
