-- Refused at once, all default, refused while reading, or accepted and filled.
use mathlib.Core.Path.{◌≡◌, refl, sym}
use Rattle.std.proofs.Common.{rules, Err}
use Rattle.header.proofs.Entering.{refused_first, default_all, refused_later, kept_by, accepted_all, header_named}
use Rattle.header.proofs.entry.read_frame_header.Goals as goal

pub returns-in_err-judge_header : goal.returns-in_err-judge_header
returns-in_err-judge_header c =
    let is : c.from_residual.result ≡ Err c.in_err-judge_header.field-0.0 = search rules in
    rw is (refused_first c.args.f c.args.s.now c.args.name.now c.args.upsampling.now c.args.blending.now _ _ (sym c.in_err-judge_header.ensures))

pub returns-then-all-eq1 : goal.returns-then-all-eq1
returns-then-all-eq1 c = default_all c.args.f c.args.s.now c.args.name.now c.args.upsampling.now c.args.blending.now _ _ (sym c.in_ok-judge_header.ensures) _ _ _ _ _ c.begin.ensures c.read_bool-all.ensures c.if-all-eq1.true c.give_default.ensures

pub returns-then-fault-ne0 : goal.returns-then-fault-ne0
returns-then-fault-ne0 c = refused_later c.args.f c.args.s.now c.args.name.now c.args.upsampling.now c.args.blending.now _ _ (sym c.in_ok-judge_header.ensures) c.read_front-a.result c.read_back-b.result _ _ _ _ c.read_front-a.ensures c.read_back-b.ensures c.if-fault-ne0.true

pub give_read-requires : goal.give_read-requires
give_read-requires c =
    let e = c.args in
    let a = c.read_front-a in
    let b = c.read_back-b in
    (kept_by e.f e.s.now a.result b.result _ _ _ _ refl refl a.ensures b.ensures, header_named e.f e.s.now a.result b.result _ _ _ _ a.ensures b.ensures)

pub returns : goal.returns
returns c = accepted_all c.args.f c.args.s.now c.args.name.now c.args.upsampling.now c.args.blending.now _ _ (sym c.in_ok-judge_header.ensures) c.read_front-a.result c.read_back-b.result _ _ _ _ c.read_front-a.ensures c.read_back-b.ensures c.if-fault-ne0.false _ _ _ _ c.give_read.ensures
