-- `refuse_if`: passed by, or a fault at a place not before the start.
use Rattle.std.proofs.Common.{ap, ◌∙◌}
use Rattle.bits.specs.declared.Refusal.{Refusal}
use Rattle.bits.proofs.Tables.{failed_not, failed_at}
use Rattle.bits.proofs.refuse_if.Goals as goal

pub returns-then-idle : goal.returns-then-idle
returns-then-idle c = failed_not _ _ _ _ _ c.idle.ensures c.if-idle.true

pub returns : goal.returns
returns c =
    ap (λ (r : Refusal). record { at = c.args.c.at; fault = r }) c.refused-fault.ensures
    ∙ failed_at _ _ _ _ _ c.idle.ensures _ c.saturating_sub.ensures c.if-idle.false
