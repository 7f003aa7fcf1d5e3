-- Groups and LF groups: squares of one side that cover the picture row by row. They differ in the side alone.
use Rattle.std.specs.Prelude.{ℕ, ◌+◌, ◌-◌, ◌*◌, ◌/◌, ◌%◌, min, Bool, false, ◌&&◌, ltb, eqb, Result, Ok, Err}
use Rattle.bits.specs.Refusals.{pick, refusal, none, answered}
use Rattle.bits.specs.declared.Refusal.{Refusal}
use Rattle.grid.specs.declared.Frame.{Frame}
use Rattle.grid.specs.declared.Grid.{Grid}
use Rattle.grid.specs.declared.Rect.{Rect}
use Rattle.grid.specs.declared.Size.{Size}
use Rattle.grid.specs.Sizes.{up, sample, count}
use Rattle.grid.specs.Measured.{Measured, grid_of}

-- square i, unclipped
unfoldable pub cell_of : ℕ → ℕ → ℕ → Rect
cell_of w side i = record { left = i % up w side * side; top = i / up w side * side; width = side; height = side }

-- what of a rectangle lies in a width and a height
unfoldable pub clipped : ℕ → ℕ → Rect → Rect
clipped w h r = record { left = r.left; top = r.top; width = min r.width (w - r.left); height = min r.height (h - r.top) }

-- the rectangle of square i, clipped to the colour sample size
abbrev pub rect_of : ℕ → ℕ → ℕ → ℕ → Rect
rect_of w h side i = clipped w h (cell_of w side i)

-- the square that holds a point, by its number
abbrev pub index_at : ℕ → ℕ → ℕ → ℕ → ℕ
index_at columns side x y = y / side * columns + x / side

-- the four strict comparisons of `is_aabb_collides`, sums exact
unfoldable pub collides : Rect → Rect → Bool
collides a b =
    (ltb a.left (b.left + b.width) && ltb b.left (a.left + a.width))
    && (ltb a.top (b.top + b.height) && ltb b.top (a.top + a.height))

-- whether the frame has square i
unfoldable pub has : Measured → ℕ → ℕ → Bool
has g side i = ltb i (count g.width g.height side)

-- the frame's own refusal first; then BadIndex (14), where it doesn't have what is asked for
unfoldable pub judge : Measured → Bool → Refusal
judge g known = pick (eqb g.refusal.number 0) (pick known none (refusal 14 0)) g.refusal

-- the same of a check's answer, where the refusal of a frame is beside no grid
abbrev pub judge_answer : Result Grid Refusal → Bool → Result Unit Refusal
judge_answer (Ok g) known = pick known (Ok tt) (Err (refusal 14 0))
judge_answer (Err r) known = Err r

-- an answer: beside a refusal its value is 0, false or the empty rectangle
pub record Number : Type 0 where
  pub value : ℕ
  pub refusal : Refusal

pub record Touches : Type 0 where
  pub value : Bool
  pub refusal : Refusal

pub record Placed : Type 0 where
  pub rect : Rect
  pub refusal : Refusal

pub record Sized : Type 0 where
  pub width : ℕ
  pub height : ℕ
  pub refusal : Refusal

-- as the functions give it: the value, or why there is none
abbrev pub number_or_refused : Number → Result ℕ Refusal
number_or_refused n = answered n.refusal n.value

abbrev pub touch_or_refused : Touches → Result Bool Refusal
touch_or_refused t = answered t.refusal t.value

abbrev pub rect_or_refused : Placed → Result Rect Refusal
rect_or_refused p = answered p.refusal p.rect

abbrev pub size_or_refused : Sized → Result Size Refusal
size_or_refused s = answered s.refusal (record { width = s.width; height = s.height })

unfoldable pub numbered : Refusal → ℕ → Number
numbered r v = record { value = pick (eqb r.number 0) v 0; refusal = r }

unfoldable pub touching : Refusal → Bool → Touches
touching r b = record { value = pick (eqb r.number 0) b false; refusal = r }

unfoldable pub placed : Refusal → Rect → Placed
placed r a = record { rect = pick (eqb r.number 0) a (record { left = 0; top = 0; width = 0; height = 0 }); refusal = r }

-- `sample_width` and `sample_height`, with a size of the frame
unfoldable pub sampled : Frame → ℕ → ℕ → Number
sampled f n upsampling = numbered (grid_of f).refusal (sample n upsampling f.lf_level)

-- a number of the frame's grid
abbrev pub told : Measured → ℕ → Number
told g v = record { value = v; refusal = g.refusal }

-- the clipped rectangle of a group
unfoldable pub rect_for : Measured → ℕ → ℕ → Placed
rect_for g side i = placed (judge g (has g side i)) (rect_of g.width g.height side i)

-- its size alone
unfoldable pub size_of : Placed → Sized
size_of p = record { width = p.rect.width; height = p.rect.height; refusal = p.refusal }

-- the LF group that holds a group: eight columns and eight rows of groups to one of LF groups
unfoldable pub lf_index_of : Measured → ℕ → Number
lf_index_of g i = numbered (judge g (has g g.side i)) (i % g.columns / 8 + i / g.columns / 8 * g.lf_columns)

-- the group of a point, for any point inside an unclipped group
unfoldable pub index_for : Measured → ℕ → ℕ → Number
index_for g x y =
    numbered (judge g (ltb (x / g.side) g.columns && ltb (y / g.side) g.rows)) (index_at g.columns g.side x y)

-- whether a region and an unclipped group overlap
unfoldable pub touch_for : Measured → ℕ → ℕ → Rect → Touches
touch_for g side i region = touching (judge g (has g side i)) (collides region (cell_of g.width side i))
