-- `give_record`: all three slices, or refused.
use mathlib.Core.Path.{refl, ◌∙◌, ap}
use Rattle.header.specs.Entry.{refused_header}
use Rattle.c_words.specs.Status.{status_of}
use Rattle.c_words.proofs.heads.give_record.Goals as goal

pub returns-in-Ok : goal.returns-in-Ok
returns-in-Ok c = rw c.in-Ok.is (record { status = c.status.ensures ∙ ap status_of c.accepted.ensures; numbers = c.give_words.ensures; signs = c.give_signed.ensures; reals = c.give_floats.ensures })

pub returns-in-Err : goal.returns-in-Err
unfolding refused_header
returns-in-Err c = rw c.in-Err.is (record { status = c.status-in-Err.ensures; numbers = refl; signs = refl; reals = refl })
