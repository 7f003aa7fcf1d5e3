-- The one check on a frame's six numbers, and what an accepted frame's grid is.
use Rattle.std.specs.Prelude.{ℕ, Bool, ◌&&◌, ◌||◌, leb, ltb, eqb, Result}
use Rattle.bits.specs.declared.Refusal.{Refusal}
use Rattle.bits.specs.Refusals.{pick, refusal, none, answered}
use Rattle.grid.specs.declared.Frame.{Frame}
use Rattle.grid.specs.declared.Grid.{Grid}
use Rattle.grid.specs.Sizes.{up, color_width, color_height, group_side, lf_side, count, sections}

-- what a frame's check comes to: the numbers of a grid, and a refusal, beside which they are 0
pub record Measured : Type 0 where
  pub width : ℕ
  pub height : ℕ
  pub side : ℕ
  pub lf_side : ℕ
  pub columns : ℕ
  pub rows : ℕ
  pub lf_columns : ℕ
  pub lf_rows : ℕ
  pub groups : ℕ
  pub lf_groups : ℕ
  pub sections : ℕ
  pub refusal : Refusal

-- the grid alone
abbrev pub grid_in : Measured → Grid
grid_in m = record {
  width = m.width;
  height = m.height;
  side = m.side;
  lf_side = m.lf_side;
  columns = m.columns;
  rows = m.rows;
  lf_columns = m.lf_columns;
  lf_rows = m.lf_rows;
  groups = m.groups;
  lf_groups = m.lf_groups;
  sections = m.sections;
}

-- a grid with no refusal beside it
abbrev pub unrefused : Grid → Measured
unrefused g = record {
  width = g.width;
  height = g.height;
  side = g.side;
  lf_side = g.lf_side;
  columns = g.columns;
  rows = g.rows;
  lf_columns = g.lf_columns;
  lf_rows = g.lf_rows;
  groups = g.groups;
  lf_groups = g.lf_groups;
  sections = g.sections;
  refusal = none;
}

-- the grid, or why there is none
abbrev pub grid_or_refused : Measured → Result Grid Refusal
grid_or_refused m = answered m.refusal (grid_in m)

-- upsampling 1, 2, 4 or 8
abbrev pub upsamples : ℕ → Bool
upsamples u = (eqb u 1 || eqb u 2) || (eqb u 4 || eqb u 8)

-- what BadRecord (8) is not given for
unfoldable pub good_record : Frame → Bool
good_record f =
    (upsamples f.upsampling && (leb 1 f.num_passes && leb f.num_passes 11))
    && ((leb f.lf_level 4 && leb f.group_size_shift 3) && (leb f.width 1073760511 && leb f.height 1073760511))

-- width or height 0: ZeroSize (9)
abbrev pub zero_size : Frame → Bool
zero_size f = eqb f.width 0 || eqb f.height 0

-- over 65,536 sections: TooMany (10)
abbrev pub too_many : Frame → Bool
too_many f = ltb 65536 (sections f)

-- the numbers of a frame that nothing is wrong with
unfoldable pub laid : Frame → Measured
laid f = record {
  width = color_width f;
  height = color_height f;
  side = group_side f;
  lf_side = lf_side f;
  columns = up (color_width f) (group_side f);
  rows = up (color_height f) (group_side f);
  lf_columns = up (color_width f) (lf_side f);
  lf_rows = up (color_height f) (lf_side f);
  groups = count (color_width f) (color_height f) (group_side f);
  lf_groups = count (color_width f) (color_height f) (lf_side f);
  sections = sections f;
  refusal = none;
}

-- beside a refusal all numbers are 0
unfoldable pub refused_grid : ℕ → Measured
refused_grid number = record {
  width = 0;
  height = 0;
  side = 0;
  lf_side = 0;
  columns = 0;
  rows = 0;
  lf_columns = 0;
  lf_rows = 0;
  groups = 0;
  lf_groups = 0;
  sections = 0;
  refusal = refusal number 0;
}

-- geometry's refusals in their order: 8, 9, 10
unfoldable pub grid_of : Frame → Measured
grid_of f =
    pick (good_record f)
    (pick (zero_size f)
    (refused_grid 9)
    (pick (too_many f)
    (refused_grid 10)
    (laid f)))
    (refused_grid 8)
