-- What an accepted check tells of a frame and its grid: bounds, sides and counts.
use Prim.Native.Nat.{ℕ, ◌+◌, ◌*◌, ◌%◌, ◌^◌, ◌≤◌, ◌<◌}
use native.Mathlib.Omega.{arith}
use native.Mathlib.Nat.{mul-le-mul, mul-pos, le-mul_of_pos_right, pow-le-pow_right, le_trans}
use mathlib.Core.Path.{◌≡◌, refl}
use mathlib.Core.Bool.{Bool, true, false, ◌&&◌, ◌||◌}
use mathlib.Core.Logic.{by_cases}
use native.Mathlib.Decide.{dec_le}
use borrow.Author.Tests.{le-leb, lt-leb, leb-true, eqb-true, eqb-false, ltb-false}
use lib.Dec.{leb, eqb}
use lib.Pow.{pow_mono, pow_pos}
use Rattle.bits.specs.Refusals.{pick}
use Rattle.grid.specs.declared.Frame.{Frame}
use Rattle.grid.specs.Sizes.{up, sample, color_width, color_height, group_side, lf_side, count, sections_of, sections}
use Rattle.grid.specs.Measured.{Measured, upsamples, good_record, zero_size, too_many, laid, refused_grid, grid_of}
use Rattle.grid.proofs.Rounding.{up_pos, up_le, up_fewer, up_small, below, side_exact}

pub and_parts : (a b : Bool) → (a && b) ≡ true → (a ≡ true) × (b ≡ true)
and_parts true b e = (refl, e)
and_parts false true e = (e, refl)
and_parts false false e = (e, e)

or_parts : (a b : Bool) → (a || b) ≡ false → (a ≡ false) × (b ≡ false)
or_parts false b e = (refl, e)
or_parts true true e = (e, e)
or_parts true false e = (e, refl)

-- the bounds of a good record
pub record Good (f : Frame) : Type 0 where
  pub level : f.lf_level ≤ 4
  pub shift : f.group_size_shift ≤ 3
  pub some_pass : 1 ≤ f.num_passes
  pub passes : f.num_passes ≤ 11
  pub width : f.width ≤ 1073760511
  pub height : f.height ≤ 1073760511

all_hold : (u a b l s x y : Bool) → ((u && (a && b)) && ((l && s) && (x && y))) ≡ true
    → ((a ≡ true) × (b ≡ true)) × ((l ≡ true) × (s ≡ true)) × ((x ≡ true) × (y ≡ true))
all_hold u a b l s x y e =
    let halves = and_parts (u && (a && b)) ((l && s) && (x && y)) e in
    let rest = and_parts (l && s) (x && y) halves.1 in
    (and_parts a b (and_parts u (a && b) halves.0).1, and_parts l s rest.0, and_parts x y rest.1)

pub good : (f : Frame) → good_record f ≡ true → Good f
unfolding good_record
good f e =
    let all = all_hold (upsamples f.upsampling) (leb 1 f.num_passes) (leb f.num_passes 11) (leb f.lf_level 4)
    (leb f.group_size_shift 3) (leb f.width 1073760511) (leb f.height 1073760511) e in
    record {
      level = leb-true _ _ all.1.0;
      shift = leb-true _ _ all.1.1;
      some_pass = leb-true _ _ all.0.0;
      passes = leb-true _ _ all.0.1;
      width = leb-true _ _ all.2.0;
      height = leb-true _ _ all.2.1;
    }

pub not_zero : (n : ℕ) → eqb n 0 ≡ false → 0 < n
not_zero n e = omega (arith, eqb-false n 0 e)

pub sized : (f : Frame) → zero_size f ≡ false → (0 < f.width) × (0 < f.height)
sized f e =
    let both = or_parts (eqb f.width 0) (eqb f.height 0) e in
    (not_zero f.width both.0, not_zero f.height both.1)

eight_pos : (l : ℕ) → 0 < 8 ^ l
eight_pos l = pow-le-pow_right {n = 8} (omega arith) {i = 0} {j = l} (omega arith)

-- a size in samples is no larger than the size, and not zero where that isn't
pub sample_le : (n u l : ℕ) → sample n u l ≤ n
unfolding sample
sample_le n u l =
    by_cases (dec_le u 1)
    (λ y. rw (le-leb u 1 y) (up_le n (8 ^ l) (eight_pos l)))
    (λ y. rw (lt-leb u 1 (omega (arith, y))) (le_trans (up_le (up n u) (8 ^ l) (eight_pos l)) (up_le n u (omega (arith, y)))))

pub sample_pos : (n u l : ℕ) → 0 < n → 0 < sample n u l
unfolding sample
sample_pos n u l h =
    by_cases (dec_le u 1)
    (λ y. rw (le-leb u 1 y) (up_pos n (8 ^ l) h (eight_pos l)))
    (λ y. rw (lt-leb u 1 (omega (arith, y))) (up_pos (up n u) (8 ^ l) (up_pos n u h (omega (arith, y))) (eight_pos l)))

-- both sides are from 128 to 8192
pub side_bounds : (s : ℕ) → s ≤ 3 → (128 ≤ 128 * 2 ^ s) × (128 * 2 ^ s ≤ 1024)
side_bounds s h = (omega (arith, pow_pos s), omega (arith, pow_mono {i = s} {j = 3} h))

-- a count of squares, before it is judged
pub count_small : (w h side : ℕ) → w ≤ 1073760511 → h ≤ 1073760511 → 128 ≤ side → side ≤ 8192 → count w h side < 2 ^ 48
count_small w h side hw hh a b = below 24 (up_small w side hw a b) (up_small h side hh a b)

at_least : (b : Bool) (g n : ℕ) → (b ≡ true → g ≤ 1) → g ≤ n → g ≤ pick b 1 n
at_least true g n e h = e refl
at_least false g n e h = h

-- there are no more groups than sections, and no more LF groups than groups
pub groups_le : (g l p : ℕ) → 1 ≤ p → g ≤ sections_of g l p
unfolding sections_of
groups_le g l p hp =
    at_least (eqb g 1 && eqb p 1) g (1 + l + 1 + g * p) (λ t. omega (arith, eqb-true g 1 (and_parts (eqb g 1) (eqb p 1) t).0))
    (omega (arith, le-mul_of_pos_right g hp))

pub lf_le : (w h side : ℕ) → 0 < side → count w h (side * 8) ≤ count w h side
lf_le w h side p = mul-le-mul (up_fewer w side (side * 8) p (omega arith)) (up_fewer h side (side * 8) p (omega arith))

-- what an accepted check tells
pub record Accepted (f : Frame) : Type 0 where
  pub grid : grid_of f ≡ laid f
  pub good : Good f
  pub width : 0 < color_width f
  pub height : 0 < color_height f
  pub wide : color_width f ≤ 1073760511
  pub high : color_height f ≤ 1073760511
  pub side : (128 ≤ group_side f) × (group_side f ≤ 1024)
  pub some_group : 1 ≤ count (color_width f) (color_height f) (group_side f)
  pub groups : count (color_width f) (color_height f) (group_side f) ≤ 65536
  pub some_lf : 1 ≤ count (color_width f) (color_height f) (lf_side f)
  pub lf_groups : count (color_width f) (color_height f) (lf_side f) ≤ count (color_width f) (color_height f) (group_side f)
  pub sections : sections f ≤ 65536

ways : (a z m : Bool) (l : Measured) → (pick a (pick z (refused_grid 9) (pick m (refused_grid 10) l)) (refused_grid 8)).refusal.number ≡ 0
    → (a ≡ true) × (z ≡ false) × (m ≡ false)
unfolding refused_grid
ways true false false l e = (refl, refl, refl)
ways true false true l e = absurd (omega arith)
ways true true m l e = absurd (omega arith)
ways false z m l e = absurd (omega arith)

pub accepted : (f : Frame) → (grid_of f).refusal.number ≡ 0 → Accepted f
unfolding grid_of laid
accepted f e =
    let way = ways (good_record f) (zero_size f) (too_many f) (laid f) e in
    let g = good f way.0 in
    let s = side_bounds f.group_size_shift g.shift in
    let w = sample_pos f.width f.upsampling f.lf_level (sized f way.1).0 in
    let h = sample_pos f.height f.upsampling f.lf_level (sized f way.1).1 in
    let n = ltb-false 65536 (sections f) way.2 in
    record {
      grid = rw (way.0, way.1, way.2);
      good = g;
      width = w;
      height = h;
      wide = le_trans (sample_le f.width f.upsampling f.lf_level) g.width;
      high = le_trans (sample_le f.height f.upsampling f.lf_level) g.height;
      side = s;
      some_group = mul-pos (up_pos _ _ w (omega (arith, s))) (up_pos _ _ h (omega (arith, s)));
      groups = le_trans (groups_le _ _ _ g.some_pass) n;
      some_lf = mul-pos (up_pos _ _ w (omega (arith, s))) (up_pos _ _ h (omega (arith, s)));
      lf_groups = lf_le (color_width f) (color_height f) (group_side f) (omega (arith, s));
      sections = n;
    }

-- the same, of the grid that the check answers
pub record Sound (f : Frame) (g : Measured) : Type 0 where
  pub width : 0 < g.width
  pub height : 0 < g.height
  pub side : 0 < g.side
  pub shift : f.group_size_shift ≤ 3
  pub side_is : 128 * 2 ^ f.group_size_shift % 4294967296 ≡ g.side
  pub lf_side_lem : g.lf_side ≡ g.side * 8
  pub columns : g.columns ≡ up g.width g.side
  pub rows : g.rows ≡ up g.height g.side
  pub some_column : 0 < g.columns
  pub lf_columns : g.lf_columns ≤ g.columns
  pub product : g.groups ≡ g.columns * g.rows
  pub groups_are : g.groups ≡ count g.width g.height g.side
  pub lf_groups_are : g.lf_groups ≡ count g.width g.height g.lf_side
  pub sections_are : g.sections ≡ sections_of g.groups g.lf_groups f.num_passes
  pub some_group : 1 ≤ g.groups
  pub groups : g.groups ≤ 65536
  pub some_lf : 1 ≤ g.lf_groups
  pub lf_groups : g.lf_groups ≤ 65536
  pub sections : g.sections ≤ 65536

laid_sound : (f : Frame) → Accepted f → Sound f (laid f)
unfolding laid
laid_sound f a = record {
  width = a.width;
  height = a.height;
  side = omega (arith, a.side);
  shift = a.good.shift;
  side_is = side_exact f.group_size_shift a.good.shift;
  lf_side_lem = refl;
  columns = refl;
  rows = refl;
  some_column = up_pos _ _ a.width (omega (arith, a.side));
  lf_columns = up_fewer (color_width f) (group_side f) (lf_side f) (omega (arith, a.side)) (omega arith);
  product = refl;
  groups_are = refl;
  lf_groups_are = refl;
  sections_are = refl;
  some_group = a.some_group;
  groups = a.groups;
  some_lf = a.some_lf;
  lf_groups = le_trans a.lf_groups a.groups;
  sections = a.sections;
}

pub sound : (f : Frame) (g : Measured) → g ≡ grid_of f → g.refusal.number ≡ 0 → Sound f g
sound f g m z =
    let a = accepted f (rw m at z) in
    rw (m, a.grid) (laid_sound f a)
