-- `list_header`: the header's sections, or its refusal.
use Rattle.header.proofs.Entering.{headed_number}
use Rattle.listing_job.proofs.Jobs.{header_refused, header_read}
use Rattle.listing_job.proofs.list_header.Goals as goal

pub returns-in-Ok : goal.returns-in-Ok
returns-in-Ok c = header_read c.args.s.now c.args.facts c.args.out.now _ c.in-Ok.h _ c.frame.ensures c.in-Ok.ensures.answer c.list_sections.ensures

pub returns-in-Err : goal.returns-in-Err
returns-in-Err c =
    header_refused c.args.s.now c.args.facts c.args.out.now _ c.in-Err.refusal c.in-Err.ensures.answer (headed_number _ _ _ _ _ _ _ _ _ c.in-Err.ensures) c.write_refused.ensures
