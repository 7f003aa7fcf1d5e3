-- Nothing, or the lowest bits, cut off.
use Rattle.std.proofs.Common.{refl}
use Rattle.bits.proofs.Views.{seen_none, seen_some}
use Rattle.std.proofs.lemmas.Bool.{not_from_false, not_from_true}
use Rattle.bits.proofs.view.see.Goals as goal

pub returns-then-not-on : goal.returns-then-not-on
returns-then-not-on c = seen_none c.args.w c.args.on c.args.n (not_from_false _ c.if-not-on.true)

pub returns : goal.returns
returns c =
    let a = c.args in
    seen_some a.w a.on a.n (not_from_true _ c.if-not-on.false) _ _ _ c.min-k.ensures c.low_bits.ensures refl
