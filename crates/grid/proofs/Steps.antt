-- What each step of the check asks for at its return, over plain variables.
use Prim.Native.Nat.{ℕ, zero, suc, ◌*◌, ◌/◌, ◌%◌, ◌^◌, ◌≤◌, ◌<◌}
use native.Mathlib.Omega.{arith}
use native.Mathlib.Nat.{le_trans}
use mathlib.Core.Path.{◌≡◌, refl}
use mathlib.Core.Bool.{true, false, or-true}
use mathlib.Core.Logic.{◌⊎◌, inl, inr}
use borrow.Author.Tests.{eq-eqb, ne_eqb, le-leb, lt-leb, lt-ltb, le-ltb}
use lib.Dec.{eqb}
use lib.Bits.{bit_and}
use Rattle.std.specs.Prelude.{Result, Ok, Err}
use Rattle.bits.specs.Refusals.{pick, refusal}
use Rattle.bits.specs.declared.Refusal.{Refusal}
use Rattle.grid.specs.declared.Frame.{Frame}
use Rattle.grid.specs.declared.Grid.{Grid}
use Rattle.grid.specs.Sizes.{up, sample, color_width, color_height, group_side, count, sections_of, sections}
use Rattle.grid.specs.Measured.{upsamples, good_record, zero_size, too_many, laid, refused_grid, grid_of, grid_or_refused}
use Rattle.grid.proofs.Rounding.{eight}
use Rattle.grid.proofs.Accepted.{good, sample_le, side_bounds, count_small, groups_le, lf_le}

-- an upsampling is one of the four that have a bit in 278
pub by_bit : (n : ℕ) → n ≤ 8 → eqb (bit_and (278 / 2 ^ n) 1) 1 ≡ upsamples n
by_bit zero h = refl
by_bit (suc zero) h = refl
by_bit (suc (suc zero)) h = refl
by_bit (suc (suc (suc zero))) h = refl
by_bit (suc (suc (suc (suc zero)))) h = refl
by_bit (suc (suc (suc (suc (suc zero))))) h = refl
by_bit (suc (suc (suc (suc (suc (suc zero)))))) h = refl
by_bit (suc (suc (suc (suc (suc (suc (suc zero))))))) h = refl
by_bit (suc (suc (suc (suc (suc (suc (suc (suc zero)))))))) h = refl
by_bit (suc (suc (suc (suc (suc (suc (suc (suc (suc n))))))))) h = absurd (omega arith)

pub none_above : (n : ℕ) → 8 < n → false ≡ upsamples n
none_above n h =
    rw (ne_eqb n 1 (λ e. omega (arith, e)), ne_eqb n 2 (λ e. omega (arith, e)), ne_eqb n 4 (λ e. omega (arith, e)), ne_eqb n 8 (λ e. omega (arith, e))) refl

-- a size with no upsampling to divide by, and with one
module _ (n u l : ℕ) (h : l ≤ 4) where
  pub sample_plain : (r : ℕ) → u ≤ 1 → r ≡ up n (1 * 2 ^ (3 * l) % 4294967296) → r ≡ sample n u l
  unfolding sample
  sample_plain r t e = rw (le-leb u 1 t, ← eight l h) e

  pub sample_divided : (q r : ℕ) → 1 < u → q ≡ up n u → r ≡ up q (1 * 2 ^ (3 * l) % 4294967296) → r ≡ sample n u l
  unfolding sample
  sample_divided q r t eq e = rw (lt-leb u 1 t, ← eight l h, ← eq) e

-- what the check has counted, each number from those before it
pub record Counts (f : Frame) (w h s a b la lb g l : ℕ) : Type 0 where
  pub good : good_record f ≡ true
  pub some : zero_size f ≡ false
  pub width : w ≡ color_width f
  pub height : h ≡ color_height f
  pub side : s ≡ group_side f
  pub columns : a ≡ up w s
  pub rows : b ≡ up h s
  pub lf_columns : la ≡ up w (s * 8)
  pub lf_rows : lb ≡ up h (s * 8)
  pub groups : g ≡ a * b
  pub lf_groups : l ≡ la * lb

module _ {f : Frame} {w h s a b la lb g l : ℕ} (k : Counts f w h s a b la lb g l) where
  width_le : w ≤ 1073760511
  width_le = rw k.width (le_trans (sample_le f.width f.upsampling f.lf_level) (good f k.good).width)

  height_le : h ≤ 1073760511
  height_le = rw k.height (le_trans (sample_le f.height f.upsampling f.lf_level) (good f k.good).height)

  sides : (128 ≤ s) × (s ≤ 1024)
  sides = rw k.side (side_bounds f.group_size_shift (good f k.good).shift)

  groups_are : g ≡ count w h s
  groups_are = rw (k.groups, k.columns, k.rows)

  lf_groups_are : l ≡ count w h (s * 8)
  lf_groups_are = rw (k.lf_groups, k.lf_columns, k.lf_rows)

  -- the products fit
  pub counts_small : (g < 2 ^ 48) × (l < 2 ^ 48) × (f.num_passes ≤ 11)
  counts_small = (
    rw groups_are (count_small w h s width_le height_le sides.0 (omega (arith, sides))),
    rw lf_groups_are (count_small w h (s * 8) width_le height_le (omega (arith, sides)) (omega (arith, sides))),
    (good f k.good).passes,
  )

  module _ (n : ℕ) (e : n ≡ sections_of g l f.num_passes) where
    sections_are : n ≡ sections f
    sections_are = rw (← k.width, ← k.height, ← k.side, ← k.columns, ← k.rows, ← k.lf_columns, ← k.lf_rows, ← k.groups, ← k.lf_groups) e

    pub too_many_lem : (r : Refusal) → 65536 < n → r ≡ refusal 10 0 → Err r ≡ grid_or_refused (pick (too_many f) (refused_grid 10) (laid f))
    unfolding refused_grid
    too_many_lem r t er = rw (er, lt-ltb 65536 (sections f) (rw (← sections_are) t))

    -- the counts fit where the sections do
    pub counts_few : n ≤ 65536 → (g ≤ 65536) × (l ≤ 65536)
    counts_few t =
        let g-few : g ≤ 65536 = omega (arith, groups_le g l f.num_passes (good f k.good).some_pass) in
        let l_le : l ≤ g = rw (groups_are, lf_groups_are) (lf_le w h s (omega (arith, sides))) in
        (g-few, omega arith)

    pub all_laid : n ≤ 65536 → Ok (record {
      width = w;
      height = h;
      side = s;
      lf_side = s * 8;
      columns = a;
      rows = b;
      lf_columns = la;
      lf_rows = lb;
      groups = g;
      lf_groups = l;
      sections = n;
    }) ≡ grid_or_refused (pick (too_many f) (refused_grid 10) (laid f))
    unfolding laid
    all_laid t = rw (le-ltb 65536 (sections f) (rw (← sections_are) t), ← k.width, ← k.height, ← k.side, ← k.columns, ← k.rows, ← k.lf_columns, ← k.lf_rows, ← k.groups, ← k.lf_groups, ← e)

-- the check's four ways
module _ (f : Frame) where
  pub judged_bad : (r : Refusal) → good_record f ≡ false → r ≡ refusal 8 0 → Err r ≡ grid_or_refused (grid_of f)
  unfolding grid_of refused_grid
  judged_bad r t er = rw (er, t)

  pub judged_zero : (r : Refusal) → good_record f ≡ true → zero_size f ≡ true → r ≡ refusal 9 0 → Err r ≡ grid_or_refused (grid_of f)
  unfolding grid_of refused_grid
  judged_zero r t z er = rw (er, t, z)

  pub judged_counted : (r : Result Grid Refusal) → good_record f ≡ true → zero_size f ≡ false
      → r ≡ grid_or_refused (pick (too_many f) (refused_grid 10) (laid f)) → r ≡ grid_or_refused (grid_of f)
  unfolding grid_of
  judged_counted r t z er = rw (t, z) er

  pub zero_by : (f.width ≡ 0) ⊎ ((f.width ≡ 0 → ⊥) × (f.height ≡ 0)) → zero_size f ≡ true
  zero_by (inl e) = rw (eq-eqb f.width 0 e)
  zero_by (inr e) = rw (eq-eqb f.height 0 e.1) (or-true (eqb f.width 0))

  pub some_size : (f.width ≡ 0 → ⊥) → (f.height ≡ 0 → ⊥) → zero_size f ≡ false
  some_size a b = rw (ne_eqb f.width 0 a, ne_eqb f.height 0 b)
