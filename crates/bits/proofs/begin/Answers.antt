-- `begin`: a cursor whose fault is what `accepted` answers.
use Rattle.std.proofs.Common.{ap}
use Rattle.bits.specs.declared.Refusal.{Refusal}
use Rattle.bits.specs.declared.Cursor.{Cursor}
use Rattle.bits.proofs.begin.Goals as goal

pub returns : goal.returns
returns c = let at_place : Refusal → Cursor = λ f. record { at = c.args.place; fault = f } in ap at_place c.accepted-fault.ensures
