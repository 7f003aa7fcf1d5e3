-- `has_room`: four comparisons.
use Rattle.std.proofs.Common.{◌≡◌, ◌&&◌, leb, rules}
use Rattle.toc.proofs.Judging.{room_by}
use Rattle.toc.proofs.reading.has_room.Goals as goal

pub returns-then-words : goal.returns-then-words
returns-then-words c =
    let a = c.args in
    let words : c.if-n-offsets.words ≡ (leb a.count a.offsets && leb a.count a.sizes) = search rules in
    let orders : c.if-n-order.orders ≡ (leb a.count a.order && leb a.count a.inverse) = search rules in
    room_by a.count a.offsets a.sizes a.order a.inverse _ _ _ words orders (rw c.if-words.true)

pub returns-else-words : goal.returns-else-words
returns-else-words c =
    let a = c.args in
    let words : c.if-n-offsets.words ≡ (leb a.count a.offsets && leb a.count a.sizes) = search rules in
    let orders : c.if-n-order.orders ≡ (leb a.count a.order && leb a.count a.inverse) = search rules in
    room_by a.count a.offsets a.sizes a.order a.inverse _ _ _ words orders (rw c.if-words.false)
