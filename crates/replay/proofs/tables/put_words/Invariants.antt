-- `put_words`: what is left of the walk is what is left to put.
use Rattle.std.proofs.Common.{◌+◌, ◌*◌}
use Rattle.replay.specs.Words.{word_at}
use Rattle.replay.proofs.Walks.{Placing}
use Rattle.replay.proofs.tables.put_words.Given as goal

abbrev pub invariant-loop-i : goal.invariant-loop-i
invariant-loop-i l = Placing (λ j. word_at l.s (l.at + 4 * j)) l.n l.initial.out l.out l.i
