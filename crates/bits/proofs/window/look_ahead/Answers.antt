-- `look_ahead`: the word that holds the bits, shifted down to them.
use Rattle.std.proofs.Common.{length, arith}
use lib.Bits.{and_mask, and_le_r}
use Rattle.bits.proofs.Windows.{ahead_by, from_word, whole_here, not_whole}
use Rattle.bits.proofs.window.look_ahead.Goals as goal

pub part-requires : goal.part-requires
part-requires c = omega (arith, and_le_r c.args.p 7)

pub part-requires-else-i-word_places : goal.part-requires-else-i-word_places
part-requires-else-i-word_places c = omega (arith, and_le_r c.args.p 7)

pub returns-then-i-word_places : goal.returns-then-i-word_places
returns-then-i-word_places c =
    let a = c.args in
    ahead_by a.s.now a.p _ _
    (from_word a.s.now a.p _ _ _ c.word-w.ensures (and_mask a.p 3) c.part.ensures)
    (whole_here a.p (length a.s.now) (omega (arith, c.word_places.ensures, c.if-i-word_places.true)))

pub returns-else-i-word_places : goal.returns-else-i-word_places
returns-else-i-word_places c =
    let a = c.args in
    ahead_by a.s.now a.p _ _
    (from_word a.s.now a.p _ _ _ c.word_at_end-w.ensures (and_mask a.p 3) c.part-else-i-word_places.ensures)
    (not_whole a.p (length a.s.now) (omega (arith, c.word_places.ensures, c.if-i-word_places.false)))
