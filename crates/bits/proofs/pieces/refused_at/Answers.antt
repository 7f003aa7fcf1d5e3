-- `refused_at`: no value beside what `stop` answers.
use Rattle.std.proofs.Common.{ap, ℕ}
use Rattle.bits.specs.declared.Read.{Read}
use Rattle.bits.specs.declared.Cursor.{Cursor}
use Rattle.bits.proofs.pieces.refused_at.Goals as goal

pub returns : goal.returns
returns c = let no_value : Cursor → Read ℕ = λ k. record { value = 0; next = k } in ap no_value c.stop.ensures
