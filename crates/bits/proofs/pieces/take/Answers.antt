-- `take`: the bits that are there, or none.
use Rattle.std.proofs.Common.{sym, ap, ◌∙◌, arith}
use Rattle.bits.specs.declared.window.Ahead.{Ahead}
use Rattle.bits.proofs.Bits.{there_parts}
use Rattle.bits.proofs.Windows.{peeked}
use Rattle.bits.proofs.Steps.{piece_there, piece_cut}
use Rattle.bits.proofs.pieces.take.Goals as goal

pub is_there-requires : goal.is_there-requires
is_there-requires c = ap (λ (a : Ahead). a.whole) c.look_ahead-a.ensures

pub returns-then-not-is_there : goal.returns-then-not-is_there
returns-then-not-is_there c = piece_cut c.args.s.now _ _ (sym c.is_there.ensures ∙ c.if-not-is_there.true)

pub returns : goal.returns
returns c =
    let a = c.args in
    let there = sym c.is_there.ensures ∙ c.if-not-is_there.false in
    piece_there a.s.now _ _ _ there
    (peeked a.s.now a.p a.n _ _ (there_parts a.s.now a.p a.n there).0 (ap (λ (a : Ahead). a.bits) c.look_ahead-a.ensures) c.low_bits-value.ensures)
