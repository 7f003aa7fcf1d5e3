-- `word_at_end`: after each turn the value is the bytes so far; behind the last there are zeros.
use Rattle.std.proofs.Common.{◌≡◌, ℕ, ◌+◌, ◌-◌, ◌*◌, ◌%◌, ◌^◌, get_or, refl, ap, ◌∙◌, arith}
use lib.Bits.{bit_or}
use Rattle.bits.specs.Bits.{bits_at}
use Rattle.bits.proofs.Windows.{byte_more, all_bytes, bytes_lt}
use Rattle.bits.proofs.window.word_at_end.Goals as goal

pub loop-k-init : goal.loop-k-init
unfolding bits_at
loop-k-init c =
    let none : c.args.i - c.args.i ≡ 0 = omega arith in
    (omega arith, rw none refl)

pub loop-k-preserved : goal.loop-k-preserved
loop-k-preserved c =
    let a = c.args in
    let l = c.loop-k in
    let n : ℕ = l.k - a.i in
    let at : c.from.result ≡ get_or a.s.now (a.i + n) 0 = c.from.ensures ∙ ap (λ (j : ℕ). get_or a.s.now j 0) (omega arith) in (
      omega arith,
      byte_more a.s.now a.i l.v _ n (omega arith) (bytes_lt a.s.now c.type_inv.s _ _ at) at l.invariant.1
          ∙ ap (λ (j : ℕ). bits_at a.s.now (8 * a.i) (8 * j)) (omega arith),
    )

pub returns : goal.returns
returns c =
    let a = c.args in
    let l = c.loop-k in
    l.invariant.1 ∙ all_bytes a.s.now a.i (l.k - a.i) _ c.min-end.ensures (omega arith) (omega arith)
