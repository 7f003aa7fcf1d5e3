-- The same, beside no value.
use Rattle.std.proofs.Common.{ap, zero-add}
use Rattle.bits.specs.declared.Cursor.{Cursor}
use Rattle.bits.proofs.pieces.cut_at.Goals as goal

pub returns : goal.returns
returns c = ap (λ (n : Cursor). record { value = 0; next = n }) (rw zero-add at c.stop_cut-next.ensures)
