-- Geometry: 8, 9, 10, then 14 where a group or a point is asked for; beside a refusal every number is 0.
use Prim.Native.Nat.{ℕ, ◌/◌}
use native.Mathlib.Omega.{arith}
use mathlib.Core.Path.{◌≡◌, refl, ◌∙◌, ap}
use mathlib.Core.List.{List, [], ◌∷◌}
use mathlib.Core.Bool.{Bool, true, false, ◌&&◌}
use lib.Dec.{eqb, ltb}
use Rattle.std.specs.Prelude.{Result, Ok, Err}
use Rattle.bits.specs.declared.Refusal.{Refusal}
use Rattle.bits.specs.Refusals.{pick, refusal, none}
use Rattle.bits.proofs.Reading.{of_both}
use Rattle.grid.specs.declared.Frame.{Frame}
use Rattle.grid.specs.declared.Grid.{Grid}
use Rattle.grid.specs.declared.Rect.{Rect}
use Rattle.grid.specs.Measured.{Measured, good_record, zero_size, too_many, laid, refused_grid, grid_of, grid_or_refused}
use Rattle.grid.specs.Groups.{has, judge, judge_answer, numbered, touching, placed, sampled, told, rect_of, rect_for, size_of, lf_index_of, index_for, touch_for}
use Rattle.grid.proofs.Answered.{judge_told}
use Rattle.theorems.specs.Refusing.{Refuses, Ends, refusal_in, Answers, NumberEnds, TouchEnds, RectEnds, SizeEnds, GridEnds, of_frame, of_index, of_found}
use Rattle.theorems.proofs.Refusing.{refuses_none, refuses_here, refuses_pick, refuses_more, answers_lem, beside}

abbrev Fine : Measured → Type 0
Fine g = Refuses of_frame 0 g.refusal

pub grid_refuses : (f : Frame) → Refuses of_frame 0 (grid_of f).refusal
unfolding grid_of laid refused_grid
grid_refuses f =
    let counted : Measured = pick (too_many f) (refused_grid 10) (laid f) in
    let sized : Measured = pick (zero_size f) (refused_grid 9) counted in
    of_both Fine (good_record f) sized (refused_grid 8)
    (of_both Fine (zero_size f) (refused_grid 9) counted (refuses_here of_frame 9 refl refl)
    (of_both Fine (too_many f) (refused_grid 10) (laid f) (refuses_here of_frame 10 refl refl) (refuses_none of_frame 0 refl)))
    (refuses_here of_frame 8 refl refl)

ways_out : (a z m : Bool) (l : Measured) → l.refusal ≡ none
    → ((pick a (pick z (refused_grid 9) (pick m (refused_grid 10) l)) (refused_grid 8)).refusal.number ≡ 0 → ⊥)
    → pick a (pick z (refused_grid 9) (pick m (refused_grid 10) l)) (refused_grid 8)
    ≡ refused_grid (pick a (pick z (refused_grid 9) (pick m (refused_grid 10) l)) (refused_grid 8)).refusal.number
unfolding refused_grid
ways_out true false false l e h = absurd (h (ap (λ (r : Refusal). r.number) e))
ways_out true false true l e h = refl
ways_out true true m l e h = refl
ways_out false z m l e h = refl

-- beside a refusal all numbers are 0
pub refused : (f : Frame) → ((grid_of f).refusal.number ≡ 0 → ⊥) → grid_of f ≡ refused_grid (grid_of f).refusal.number
unfolding grid_of laid
refused f h = ways_out (good_record f) (zero_size f) (too_many f) (laid f) refl h

-- a part of the grid that is zero beside a refusal
part : {A : Type 0} (f : Frame) (of : Measured → A) (zero : A) → ((n : ℕ) → of (refused_grid n) ≡ zero)
    → Ends of_frame 0 (grid_of f).refusal zero (of (grid_of f))
part f of zero h = record { refuses = grid_refuses f; either = λ some. ap of (refused f some) ∙ h (grid_of f).refusal.number }

pub measure : (f : Frame) → GridEnds of_frame (grid_of f)
unfolding refused_grid
measure f =
    part f
    (λ (g : Measured).
    g.width ∷ g.height ∷ g.side ∷ g.lf_side ∷ g.columns ∷ g.rows ∷ g.lf_columns ∷ g.lf_rows ∷ g.groups ∷ g.lf_groups ∷ g.sections ∷ []) _
    (λ n. refl)

pub sample_width_lem : (f : Frame) (by : ℕ) → NumberEnds of_frame (sampled f f.width by)
unfolding sampled numbered
sample_width_lem f by = record { refuses = grid_refuses f; either = λ some. beside (grid_of f).refusal _ 0 some }

pub sample_height_lem : (f : Frame) (by : ℕ) → NumberEnds of_frame (sampled f f.height by)
unfolding sampled numbered
sample_height_lem f by = record { refuses = grid_refuses f; either = λ some. beside (grid_of f).refusal _ 0 some }

pub color_sample_width : (f : Frame) → NumberEnds of_frame (told (grid_of f) (grid_of f).width)
unfolding refused_grid
color_sample_width f = part f (λ (g : Measured). g.width) 0 (λ n. refl)

pub color_sample_height : (f : Frame) → NumberEnds of_frame (told (grid_of f) (grid_of f).height)
unfolding refused_grid
color_sample_height f = part f (λ (g : Measured). g.height) 0 (λ n. refl)

pub group_dim : (f : Frame) → NumberEnds of_frame (told (grid_of f) (grid_of f).side)
unfolding refused_grid
group_dim f = part f (λ (g : Measured). g.side) 0 (λ n. refl)

pub lf_group_dim : (f : Frame) → NumberEnds of_frame (told (grid_of f) (grid_of f).lf_side)
unfolding refused_grid
lf_group_dim f = part f (λ (g : Measured). g.lf_side) 0 (λ n. refl)

pub groups_per_row : (f : Frame) → NumberEnds of_frame (told (grid_of f) (grid_of f).columns)
unfolding refused_grid
groups_per_row f = part f (λ (g : Measured). g.columns) 0 (λ n. refl)

pub lf_groups_per_row : (f : Frame) → NumberEnds of_frame (told (grid_of f) (grid_of f).lf_columns)
unfolding refused_grid
lf_groups_per_row f = part f (λ (g : Measured). g.lf_columns) 0 (λ n. refl)

pub num_groups : (f : Frame) → NumberEnds of_frame (told (grid_of f) (grid_of f).groups)
unfolding refused_grid
num_groups f = part f (λ (g : Measured). g.groups) 0 (λ n. refl)

pub num_lf_groups : (f : Frame) → NumberEnds of_frame (told (grid_of f) (grid_of f).lf_groups)
unfolding refused_grid
num_lf_groups f = part f (λ (g : Measured). g.lf_groups) 0 (λ n. refl)

pub section_count : (f : Frame) → NumberEnds of_frame (told (grid_of f) (grid_of f).sections)
unfolding refused_grid
section_count f = part f (λ (g : Measured). g.sections) 0 (λ n. refl)

-- then 14
pub judged : (f : Frame) (known : Bool) → Refuses of_index 0 (judge (grid_of f) known)
unfolding judge
judged f known =
    refuses_pick of_index 0 (eqb (grid_of f).refusal.number 0) (pick known none (refusal 14 0)) (grid_of f).refusal
    (refuses_pick of_index 0 known none (refusal 14 0) (refuses_none of_index 0 refl) (refuses_here of_index 14 refl refl))
    (refuses_more of_index of_frame 0 0 (grid_of f).refusal refl refl (omega arith) (grid_refuses f))

-- 14 by itself
pub found : (known : Bool) → Refuses of_found 0 (pick known none (refusal 14 0))
    × Answers (pick known (Ok (tt {0})) (Err (refusal 14 0))) (pick known none (refusal 14 0))
found true = (refuses_none of_found 0 refl, refl)
found false = (refuses_here of_found 14 refl refl, (λ z. omega arith, refl))

-- on any grid, the grid's own or 14
pub judge_any : (l : List ℕ) (g : Measured) (known : Bool) → Refuses l 0 g.refusal → Refuses l 0 (refusal 14 0) → Refuses l 0 (judge g known)
unfolding judge
judge_any l g known own bad =
    refuses_pick l 0 (eqb g.refusal.number 0) (pick known none (refusal 14 0)) g.refusal
    (refuses_pick l 0 known none (refusal 14 0) (refuses_none l 0 own.ruled) bad) own

-- the same of what `judge` answers, whatever grid or refusal it is given: that refusal is handed on; else there is none or 14
pub judge_any_answer : (l : List ℕ) (g : Result Grid Refusal) (known : Bool) → Refuses l 0 (refusal_in g) → Refuses l 0 (refusal 14 0)
    → Refuses l 0 (refusal_in (judge_answer g known))
judge_any_answer l (Ok g) true own bad = own
judge_any_answer l (Ok g) false own bad = bad
judge_any_answer l (Err r) known own bad = own

pub judge_given : (g : Grid) (known : Bool) → Answers (judge_answer (Ok g) known) (pick known none (refusal 14 0))
judge_given g known = (found known).1

pub judge_hands_on : (r : Refusal) (known : Bool) → judge_answer (Err r) known ≡ Err r
judge_hands_on r known = refl

-- and of what a frame's check answers
pub judged_answer : (f : Frame) (known : Bool) → Answers (judge_answer (grid_or_refused (grid_of f)) known) (judge (grid_of f) known)
judged_answer f known = rw (judge_told (grid_of f) known) (answers_lem (judge (grid_of f) known) tt)

rect_ends : (f : Frame) (side i : ℕ) → RectEnds of_index (rect_for (grid_of f) side i)
unfolding rect_for placed
rect_ends f side i =
    record {
      refuses = judged f (has (grid_of f) side i);
      either =
          λ some.
          ap (λ (r : Rect). r.left ∷ r.top ∷ r.width ∷ r.height ∷ [])
          (beside (judge (grid_of f) (has (grid_of f) side i)) (rect_of (grid_of f).width (grid_of f).height side i)
          (record { left = 0; top = 0; width = 0; height = 0 }) some);
    }

pub group_rect_lem : (f : Frame) (i : ℕ) → RectEnds of_index (rect_for (grid_of f) (grid_of f).side i)
group_rect_lem f i = rect_ends f (grid_of f).side i

pub lf_group_rect : (f : Frame) (i : ℕ) → RectEnds of_index (rect_for (grid_of f) (grid_of f).lf_side i)
lf_group_rect f i = rect_ends f (grid_of f).lf_side i

size_ends : (f : Frame) (side i : ℕ) → SizeEnds of_index (size_of (rect_for (grid_of f) side i))
unfolding rect_for placed size_of
size_ends f side i =
    record {
      refuses = judged f (has (grid_of f) side i);
      either =
          λ some.
          ap (λ (r : Rect). r.width ∷ r.height ∷ [])
          (beside (judge (grid_of f) (has (grid_of f) side i)) (rect_of (grid_of f).width (grid_of f).height side i)
          (record { left = 0; top = 0; width = 0; height = 0 }) some);
    }

pub group_size_for : (f : Frame) (i : ℕ) → SizeEnds of_index (size_of (rect_for (grid_of f) (grid_of f).side i))
group_size_for f i = size_ends f (grid_of f).side i

pub lf_group_size_for : (f : Frame) (i : ℕ) → SizeEnds of_index (size_of (rect_for (grid_of f) (grid_of f).lf_side i))
lf_group_size_for f i = size_ends f (grid_of f).lf_side i

pub lf_group_idx_from_group_idx : (f : Frame) (i : ℕ) → NumberEnds of_index (lf_index_of (grid_of f) i)
unfolding lf_index_of numbered
lf_group_idx_from_group_idx f i =
    record {
      refuses = judged f (has (grid_of f) (grid_of f).side i);
      either = λ some. beside
          (judge (grid_of f) (has (grid_of f) (grid_of f).side i)) _ 0 some;
    }

pub group_idx_from_coord : (f : Frame) (x y : ℕ) → NumberEnds of_index (index_for (grid_of f) x y)
unfolding index_for numbered
group_idx_from_coord f x y =
    let inside : Bool = ltb (x / (grid_of f).side) (grid_of f).columns && ltb (y / (grid_of f).side) (grid_of f).rows in
    record { refuses = judged f inside; either = λ some. beside (judge (grid_of f) inside) _ 0 some }

touch_ends : (f : Frame) (side i : ℕ) (region : Rect) → TouchEnds of_index (touch_for (grid_of f) side i region)
unfolding touch_for touching
touch_ends f side i region =
    record { refuses = judged f (has (grid_of f) side i); either = λ some. beside (judge (grid_of f) (has (grid_of f) side i)) _ false some }

pub is_group_collides_region : (f : Frame) (i : ℕ) (region : Rect) → TouchEnds of_index (touch_for (grid_of f) (grid_of f).side i region)
is_group_collides_region f i region = touch_ends f (grid_of f).side i region

pub is_lf_group_collides_region : (f : Frame) (i : ℕ) (region : Rect) → TouchEnds of_index (touch_for (grid_of f) (grid_of f).lf_side i region)
is_lf_group_collides_region f i region = touch_ends f (grid_of f).lf_side i region
