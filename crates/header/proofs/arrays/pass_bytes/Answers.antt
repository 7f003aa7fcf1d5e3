-- `pass_bytes`: nothing to pass, or the bytes are there, or some aren't.
use Prim.Native.Nat.{ℕ}
use mathlib.Core.Path.{ap}
use Rattle.bits.specs.declared.Read.{Read}
use Rattle.header.proofs.Walks.{passed_idle, passed_past, passed_there, passed_cut}
use Rattle.header.proofs.arrays.pass_bytes.Goals as goal

pub returns-then-idle : goal.returns-then-idle
returns-then-idle c = passed_idle c.args.s.now c.args.count c.args.c _ c.idle.ensures c.if-idle.true

pub returns-then-end-at : goal.returns-then-end-at
returns-then-end-at c = passed_past c.args.s.now c.args.c c.args.count _ c.idle.ensures c.if-idle.false _ c.bit_count-end.ensures c.if-end-at.true _ (ap (λ (f : Read ℕ). f.next) c.cut_at-f.ensures)

pub returns-then-n-room : goal.returns-then-n-room
returns-then-n-room c = passed_there c.args.s.now c.args.c c.args.count _ c.idle.ensures c.if-idle.false _ c.bit_count-end.ensures c.if-end-at.false c.if-n-room.true _ c.begin.ensures

pub returns-else-n-room : goal.returns-else-n-room
returns-else-n-room c = passed_cut c.args.s.now c.args.c c.args.count _ c.idle.ensures c.if-idle.false _ c.bit_count-end.ensures c.if-n-room.false _ (ap (λ (f : Read ℕ). f.next) c.cut_at-f-else-n-room.ensures)
