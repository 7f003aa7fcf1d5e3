-- `give_signed`: x0, then y0.
use mir.Syntax.{w32}
use mir.ValLaws.{to_z-of_z}
use Rattle.c_words.proofs.Recording.{signed_are}
use Rattle.c_words.proofs.heads.give_signed.Goals as goal

pub returns : goal.returns
returns c = signed_are c.args.h _ _ c.args.out.now _ _ (to_z-of_z w32 c.args.h.x0 (record { sfits = c.struct_told-1.given.1.1.1.1.1.1.1.1.1.1.1.1.1.0.1 })) (to_z-of_z w32 c.args.h.y0 (record { sfits = c.struct_told-2-1.given.1.1.1.1.1.1.1.1.1.1.1.1.1.1.0.1 })) c.put.ensures c.put-2.ensures
