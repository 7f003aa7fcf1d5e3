-- `read_pair`: not at once, or both out of one look ahead.
use Rattle.std.proofs.Common.{◌≡◌, ◌+◌, ◌-◌, ◌%◌, refl, arith}
use Rattle.toc.proofs.Sizing.{pair_two}
use borrow.Author.Tests.{not-false}
use Rattle.toc.proofs.reading.read_pair.Goals as goal

pub returns : goal.returns
returns c =
    let a = c.args in
    let back : ((c.see_size-y.result.rest.at + (18446744073709551616 - a.c.at)) % 18446744073709551616 + a.c.at) % 18446744073709551616 ≡ c.see_size-y.result.rest.at = omega arith in
    pair_two a.s.now a.c a.on _ c.idle.ensures c.if-idle.false _ c.look_ahead-a.ensures _ _ c.see_size-x.ensures c.see_size-y.ensures _ back (not-false _ c.if-not-a.false) c.if-end-at-gt56.false _ refl
