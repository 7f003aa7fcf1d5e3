-- `leads`: by the length.
use Rattle.std.proofs.Common.{arith}
use Rattle.decimal.proofs.Scanning.{leads_none, leads_one, leads_many}
use Rattle.decimal.proofs.leads.Goals as goal

pub returns-in-empty : goal.returns-in-empty
returns-in-empty c = leads_none c.args.s.now (omega arith)

pub returns-in-len1 : goal.returns-in-len1
returns-in-len1 c = leads_one c.args.s.now (omega arith)

pub returns-in-len1-up : goal.returns-in-len1-up
returns-in-len1-up c = leads_many c.args.s.now (omega arith)
