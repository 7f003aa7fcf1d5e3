-- Sample sizes, sides and counts of a frame, as exact numbers: nothing is judged here.
use Rattle.std.specs.Prelude.{ℕ, ◌+◌, ◌-◌, ◌*◌, ◌/◌, ◌^◌, ◌&&◌, leb, eqb}
use Rattle.bits.specs.Refusals.{pick}
use Rattle.grid.specs.declared.Frame.{Frame}

-- a / b, rounded up
unfoldable pub up : ℕ → ℕ → ℕ
up a b = (a + b - 1) / b

-- a size in samples: divided by the upsampling rounding up (0 and 1 change nothing), then by 8^lf_level rounding up
unfoldable pub sample : ℕ → ℕ → ℕ → ℕ
sample n upsampling level = up (pick (leb upsampling 1) n (up n upsampling)) (8 ^ level)

abbrev pub sample_width : Frame → ℕ → ℕ
sample_width f upsampling = sample f.width upsampling f.lf_level

abbrev pub sample_height : Frame → ℕ → ℕ
sample_height f upsampling = sample f.height upsampling f.lf_level

abbrev pub color_width : Frame → ℕ
color_width f = sample_width f f.upsampling

abbrev pub color_height : Frame → ℕ
color_height f = sample_height f f.upsampling

-- the group side is 128 * 2^shift, the LF side eight times that
abbrev pub group_side : Frame → ℕ
group_side f = 128 * 2 ^ f.group_size_shift

abbrev pub lf_side : Frame → ℕ
lf_side f = group_side f * 8

-- how many squares of a side cover a width and a height: an exact product of columns and rows
abbrev pub count : ℕ → ℕ → ℕ → ℕ
count w h side = up w side * up h side

-- one group and one pass give a single section; otherwise LfGlobal, LF groups, HfGlobal, and the groups of each pass
unfoldable pub sections_of : ℕ → ℕ → ℕ → ℕ
sections_of groups lf passes = pick (eqb groups 1 && eqb passes 1) 1 (1 + lf + 1 + groups * passes)

abbrev pub sections : Frame → ℕ
sections f =
    sections_of (count (color_width f) (color_height f) (group_side f)) (count (color_width f) (color_height f) (lf_side f)) f.num_passes
