-- `hingevale_list`: no word for the length is 3; else the job's text and its length.
use mathlib.Core.Path.{refl}
use borrow.Author.Tests.{lt-ltb, le-ltb}
use lib.ListN.{length}
use Rattle.listing_job.specs.Job.{job_text}
use Rattle.export.proofs.Tellings.{told_short, told_ok, told_err}
use Rattle.export.proofs.listed.hingevale_list.Goals as goal

pub returns-then-out-lt1 : goal.returns-then-out-lt1
returns-then-out-lt1 c =
    told_short (job_text c.args.input.now) c.args.text.now c.args.out.now _ _ _ (lt-ltb (length c.args.out.now) 1 c.if-out-lt1.true) c.refused.ensures c.status.ensures

pub returns-in-Ok : goal.returns-in-Ok
returns-in-Ok c =
    told_ok (job_text c.args.input.now) c.args.text.now c.args.out.now _ _ _ (le-ltb (length c.args.out.now) 1 c.if-out-lt1.false) c.list_frame.ensures
    _ _ c.in-Ok.is c.accepted.ensures c.status-in-Ok.ensures c.put.ensures

pub returns-in-Err : goal.returns-in-Err
returns-in-Err c =
    told_err (job_text c.args.input.now) c.args.text.now c.args.out.now _ _ _ (le-ltb (length c.args.out.now) 1 c.if-out-lt1.false) c.list_frame.ensures
    _ c.in-Err.is c.status-in-Err.ensures refl
