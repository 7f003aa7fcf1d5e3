-- `clip`: each length within its end.
use Rattle.grid.proofs.Answers.{clip_made}
use Rattle.grid.proofs.tiles.clip.Goals as goal

pub returns : goal.returns
returns c = clip_made _ _ _ _ c.args.r c.within.ensures c.within-2.ensures
