-- `no_record`: what is refused of a name buffer of no bytes.
use mathlib.Core.Path.{sym, ◌∙◌}
use lib.ListN.{length}
use Rattle.c_words.proofs.Recording.{no_name, refused_is}
use Rattle.c_words.proofs.heads.no_record.Goals as goal

pub unwrap_err-requires : goal.unwrap_err-requires
unwrap_err-requires c = rw (c.judge_header.ensures, no_name (length c.args.s.now) c.args.f _)

pub returns : goal.returns
returns c = refused_is _ _ (sym c.unwrap_err.ensures ∙ c.judge_header.ensures ∙ no_name (length c.args.s.now) c.args.f _)
