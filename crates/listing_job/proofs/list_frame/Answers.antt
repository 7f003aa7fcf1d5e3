-- `list_frame`: a bad line, or the frame behind it.
use Rattle.listing_job.proofs.Jobs.{job_bad, job_good}
use Rattle.listing_job.proofs.list_frame.Goals as goal

pub returns-in_default : goal.returns-in_default
returns-in_default c = job_bad c.args.input.now c.args.out.now _ c.in_default.ensures.bad _ c.refused.ensures c.write_refused.ensures

pub returns : goal.returns
returns c = job_good c.args.input.now c.args.out.now _ c.in-Some.line c.in-Some.ensures.good c.list_bytes.ensures
