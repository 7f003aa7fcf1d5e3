-- `counted`: each number from those before it, bounds that let no product wrap, and the laws of what was counted.
use Rattle.std.proofs.Common.{◌≡◌, ℕ, ◌*◌, ◌%◌, ◌^◌, true, false, arith}
use Rattle.grid.specs.declared.Frame.{Frame}
use Rattle.grid.specs.Measured.{good_record, zero_size}
use Rattle.grid.specs.Sizes.{up, color_width, color_height}
use Rattle.grid.proofs.Rounding.{side_exact}
use Rattle.grid.proofs.Accepted.{good, side_bounds}
use Rattle.grid.proofs.Steps.{Counts, counts_small, too_many_lem, counts_few, all_laid}
use Rattle.grid.proofs.counted.Goals as goal

-- the numbers in the order in which they are counted, each from those before it
counts : (f : Frame) (w h a b la lb g l : ℕ) → (good_record f ≡ true) × (zero_size f ≡ false) → w ≡ color_width f → h ≡ color_height f
    → a ≡ up w (128 * 2 ^ f.group_size_shift % 4294967296) → b ≡ up h (128 * 2 ^ f.group_size_shift % 4294967296)
    → la ≡ up w (128 * 2 ^ f.group_size_shift % 4294967296 * 8) → lb ≡ up h (128 * 2 ^ f.group_size_shift % 4294967296 * 8)
    → g ≡ a * b → l ≡ la * lb
    → Counts f w h (128 * 2 ^ f.group_size_shift % 4294967296) a b la lb g l
counts f w h a b la lb g l r ew eh ea eb ela elb eg el = record {
  good = r.0;
  some = r.1;
  width = ew;
  height = eh;
  side = side_exact _ (good _ r.0).shift;
  columns = ea;
  rows = eb;
  lf_columns = ela;
  lf_rows = elb;
  groups = eg;
  lf_groups = el;
}

pub sample-width-requires : goal.sample-width-requires
sample-width-requires c = (good _ c.requires.0).level

pub sample-height-requires : goal.sample-height-requires
sample-height-requires c = (good _ c.requires.0).level

pub overflow_shl-side : goal.overflow_shl-side
overflow_shl-side c = omega (arith, (good _ c.requires.0).shift)

pub overflow_mul-lf_side : goal.overflow_mul-lf_side
overflow_mul-lf_side c =
    let h = (good _ c.requires.0).shift in
    record { fits = omega (arith, side_exact _ h, side_bounds _ h) }

pub sections_of-sections-requires : goal.sections_of-sections-requires
sections_of-sections-requires c = counts_small (counts _ _ _ _ _ _ _ _ _ c.requires c.sample-width.ensures c.sample-height.ensures c.div_ceil-columns.ensures c.div_ceil-rows.ensures c.div_ceil-lf_columns.ensures c.div_ceil-lf_rows.ensures c.count-groups.ensures c.count-lf_groups.ensures)

pub returns-then-sections-gt65536 : goal.returns-then-sections-gt65536
returns-then-sections-gt65536 c = too_many_lem (counts _ _ _ _ _ _ _ _ _ c.requires c.sample-width.ensures c.sample-height.ensures c.div_ceil-columns.ensures c.div_ceil-rows.ensures c.div_ceil-lf_columns.ensures c.div_ceil-lf_rows.ensures c.count-groups.ensures c.count-lf_groups.ensures) _ c.sections_of-sections.ensures _ c.if-sections-gt65536.true c.refused.ensures

pub overflow_cast-result : goal.overflow_cast-result
overflow_cast-result c = record { fits = omega (arith, counts_few (counts _ _ _ _ _ _ _ _ _ c.requires c.sample-width.ensures c.sample-height.ensures c.div_ceil-columns.ensures c.div_ceil-rows.ensures c.div_ceil-lf_columns.ensures c.div_ceil-lf_rows.ensures c.count-groups.ensures c.count-lf_groups.ensures) _ c.sections_of-sections.ensures c.if-sections-gt65536.false) }

pub overflow_cast-result-2 : goal.overflow_cast-result-2
overflow_cast-result-2 c = record { fits = omega (arith, counts_few (counts _ _ _ _ _ _ _ _ _ c.requires c.sample-width.ensures c.sample-height.ensures c.div_ceil-columns.ensures c.div_ceil-rows.ensures c.div_ceil-lf_columns.ensures c.div_ceil-lf_rows.ensures c.count-groups.ensures c.count-lf_groups.ensures) _ c.sections_of-sections.ensures c.if-sections-gt65536.false) }

pub returns : goal.returns
returns c = all_laid (counts _ _ _ _ _ _ _ _ _ c.requires c.sample-width.ensures c.sample-height.ensures c.div_ceil-columns.ensures c.div_ceil-rows.ensures c.div_ceil-lf_columns.ensures c.div_ceil-lf_rows.ensures c.count-groups.ensures c.count-lf_groups.ensures) _ c.sections_of-sections.ensures c.if-sections-gt65536.false
