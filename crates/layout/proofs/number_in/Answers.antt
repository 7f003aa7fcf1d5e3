-- `number_in`: no product and no sum wraps.
use native.Mathlib.Omega.{arith}
use borrow.Author.Rules.{rules}
use Rattle.layout.proofs.Laid.{number_small, number_one, number_of}
use Rattle.layout.proofs.number_in.Goals as goal

pub returns-then-l-eq1 : goal.returns-then-l-eq1
returns-then-l-eq1 c = number_one c.args.l c.args.pass c.args.group c.if-l-eq1.true

pub overflow_mul-result : goal.overflow_mul-result
overflow_mul-result c = record { fits = omega (arith, number_small c.args.l.lf_groups c.args.pass c.args.l.passes c.args.l.groups c.args.group (search rules) (search rules) (search rules) c.requires.0 c.requires.1) }

pub overflow_add-result-3 : goal.overflow_add-result-3
overflow_add-result-3 c = record { fits = omega (arith, number_small c.args.l.lf_groups c.args.pass c.args.l.passes c.args.l.groups c.args.group (search rules) (search rules) (search rules) c.requires.0 c.requires.1) }

pub overflow_add-result-4 : goal.overflow_add-result-4
overflow_add-result-4 c = record { fits = number_small c.args.l.lf_groups c.args.pass c.args.l.passes c.args.l.groups c.args.group (search rules) (search rules) (search rules) c.requires.0 c.requires.1 }

pub returns : goal.returns
returns c = number_of c.args.l c.args.pass c.args.group c.if-l-eq1.false
