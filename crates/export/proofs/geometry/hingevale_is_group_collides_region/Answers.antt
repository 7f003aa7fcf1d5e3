-- `hingevale_is_group_collides_region`: the crate below answers.
use Rattle.std.proofs.Common.{◌∙◌, ap}
use Rattle.grid.specs.declared.Rect.{Rect}
use Rattle.grid.specs.Measured.{grid_of}
use Rattle.grid.specs.Groups.{touch_for, touch_or_refused}
use Rattle.c_words.specs.Records.{touch_words, rect}
use Rattle.c_words.proofs.Plain.{plain_touch}
use Rattle.export.proofs.Asking.{asked}
use Rattle.export.proofs.geometry.hingevale_is_group_collides_region.Goals as goal

pub returns : goal.returns
returns c =
    let a = c.args in
    let region : Rect = rect a.left a.top a.across a.down in
    asked touch_words
    (λ f. (touch_for (grid_of f) (grid_of f).side a.group_idx region).refusal)
    (λ f. (touch_for (grid_of f) (grid_of f).side a.group_idx region).value)
    (plain_touch _ _ _ _) c.frame-f.ensures
    (c.is_group_collides_region.ensures
    ∙ ap (λ (r : Rect). touch_or_refused (touch_for (grid_of c.frame-f.result) (grid_of c.frame-f.result).side a.group_idx r)) c.region.ensures)
    c.give_touch.ensures
