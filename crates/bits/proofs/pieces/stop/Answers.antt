-- A cursor with that refusal.
use Rattle.std.proofs.Common.{ap}
use Rattle.bits.specs.declared.Refusal.{Refusal}
use Rattle.bits.proofs.pieces.stop.Goals as goal

pub returns : goal.returns
returns c = ap (λ (r : Refusal). record { at = c.args.p; fault = r }) c.refused-fault.ensures
