-- A frame's layout, and the section of a sample by it.
use Rattle.std.specs.Prelude.{ℕ, ◌+◌, ◌*◌, ◌^◌, Bool, ◌&&◌, eqb, ltb, Result}
use Rattle.bits.specs.Refusals.{pick, none, refusal, answered}
use Rattle.bits.specs.declared.Refusal.{Refusal}
use Rattle.grid.specs.declared.Frame.{Frame}
use Rattle.grid.specs.Measured.{Measured, grid_of}
use Rattle.grid.specs.Groups.{index_at}
use Rattle.order.specs.Numbers.{SectionAnswer}
use Rattle.layout.specs.declared.Layout.{Layout}

-- what a look-up needs of a frame and its grid; a group's side is 2 ^ (7 + `group_size_shift`)
abbrev pub laid_out : Frame → Measured → Layout
laid_out f g = record {
  width = g.width;
  height = g.height;
  power = 7 + f.group_size_shift;
  columns = g.columns;
  groups = g.groups;
  lf_groups = g.lf_groups;
  sections = g.sections;
  passes = f.num_passes;
}

abbrev pub nowhere : Layout
nowhere = record { width = 0; height = 0; power = 0; columns = 0; groups = 0; lf_groups = 0; sections = 0; passes = 0 }

-- a layout and a refusal
pub record LayoutAnswer : Type 0 where
  pub layout : Layout
  pub refusal : Refusal

-- as the function gives it: the layout, or why there is none
abbrev pub layout_or_refused : LayoutAnswer → Result Layout Refusal
layout_or_refused a = answered a.refusal a.layout

-- 8, 9, 10 of the frame; beside a refusal all numbers are 0
unfoldable pub layout_of : Frame → LayoutAnswer
layout_of f = record { layout = pick (eqb (grid_of f).refusal.number 0) (laid_out f (grid_of f)) nowhere; refusal = (grid_of f).refusal }

-- the section of a group in a pass: the only one, or behind LfGlobal, the LF groups, HfGlobal and the passes before
unfoldable pub number_in : Layout → ℕ → ℕ → ℕ
number_in l pass group = pick (eqb l.sections 1) 0 (1 + l.lf_groups + 1 + pass * l.groups + group)

abbrev pub group_in : Layout → ℕ → ℕ → ℕ
group_in l x y = index_at l.columns (2 ^ l.power) x y

-- whether the layout has the sample and the pass. Of a frame's layout the last two tests hold where those before them do; any eight numbers
-- may be asked.
unfoldable pub has_in : Layout → ℕ → ℕ → ℕ → Bool
has_in l x y pass =
    ((ltb x l.width && ltb y l.height) && (ltb pass l.passes && ltb l.power 32))
    && (ltb (group_in l x y) l.groups && ltb (number_in l pass (group_in l x y)) l.sections)

abbrev pub not_in : SectionAnswer
not_in = record { section = record { 0 = 0 }; refusal = refusal 14 0 }

unfoldable pub section_in : Layout → ℕ → ℕ → ℕ → SectionAnswer
section_in l x y pass = pick (has_in l x y pass) (record { section = record { 0 = number_in l pass (group_in l x y) }; refusal = none }) not_in
