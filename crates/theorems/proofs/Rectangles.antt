-- The theorem: each colour sample lies in exactly one clipped rectangle, the group that `group_idx_from_coord` answers is that one, and the
-- rectangles' areas sum to the picture's. Over the side once, then for the groups and the LF groups of every accepted frame.
use Prim.Native.Nat.{ℕ, zero, suc, ◌+◌, ◌-◌, ◌*◌, ◌/◌, ◌%◌, min, ◌≤◌, ◌<◌}
use native.Mathlib.Omega.{arith}
use native.Mathlib.Nat.{add_comm, div-div-eq-div-mul, div-eq_of_lt-le, div-add-mod', div-mul-le_self, lt-div-mul-add, suc-mul, zero-mul, zero-min, add-mul, mul-add, mul-zero, mul_comm, add-suc, add-zero, min-eq_right}
use native.Mathlib.Numerals.{add-one}
use mathlib.Core.Path.{◌≡◌, sym, ◌∙◌}
use borrow.Author.Tests.{lt-ltb}
use lib.Arith.{digits_div, digits_mod}
use Rattle.bits.specs.Refusals.{none}
use Rattle.grid.specs.declared.Frame.{Frame}
use Rattle.grid.specs.declared.Rect.{Rect}
use Rattle.grid.specs.Sizes.{up, color_width, color_height, group_side, lf_side, count}
use Rattle.grid.specs.Measured.{grid_of, laid}
use Rattle.grid.specs.Groups.{cell_of, clipped, has, judge, numbered, placed, rect_of, index_at, rect_for, index_for, lf_index_of}
use Rattle.grid.proofs.Rounding.{up_covers}
use Rattle.grid.proofs.Accepted.{Accepted, accepted}
use Rattle.grid.proofs.Cover.{part_lt, number_lt}

-- a sample lies in a rectangle
pub record In (r : Rect) (x y : ℕ) : Type 0 where
  pub left : r.left ≤ x
  pub right : x < r.left + r.width
  pub top : r.top ≤ y
  pub bottom : y < r.top + r.height

-- the areas of the first n rectangles, summed
unfoldable pub areas : ℕ → ℕ → ℕ → ℕ → ℕ
areas w h side zero = 0
areas w h side (suc n) = areas w h side n + (rect_of w h side n).width * (rect_of w h side n).height

-- one part more of a length
more : (a side n : ℕ) → min (suc n * side) a ≡ min (n * side) a + min side (a - n * side)
more a side n = rw (suc-mul n side) (omega arith)

-- the part of a length that holds a place, by its number
part_is : (side k x : ℕ) → k * side ≤ x → x < k * side + side → x / side ≡ k
part_is side k x low high = div-eq_of_lt-le side low (rw (add-one k, suc-mul k side) high)

module _ (w h side : ℕ) (p : 0 < side) where
  -- that square's rectangle holds the sample
  pub is_in : (x y : ℕ) → x < w → y < h → In (rect_of w h side (index_at (up w side) side x y)) x y
  unfolding cell_of clipped
  is_in x y hx hy =
      rw (digits_mod (y / side) (part_lt w side x p hx), digits_div (y / side) (part_lt w side x p hx)) (record {
        left = div-mul-le_self x side;
        right = omega (arith, div-mul-le_self x side, lt-div-mul-add {a = x} p);
        top = div-mul-le_self y side;
        bottom = omega (arith, div-mul-le_self y side, lt-div-mul-add {a = y} p);
      })

  -- and no other's does
  pub only_in : (x y i : ℕ) → In (rect_of w h side i) x y → i ≡ index_at (up w side) side x y
  unfolding cell_of clipped
  only_in x y i at =
      rw (
        part_is side (i % up w side) x at.left (omega (arith, at.right)),
        part_is side (i / up w side) y at.top (omega (arith, at.bottom)),
      )
      (sym (div-add-mod' i (up w side)))

  across : (r n : ℕ) → areas w h side (r * up w side) ≡ min (r * side) h * w → n ≤ up w side
      → areas w h side (r * up w side + n) ≡ min (r * side) h * w + min side (h - r * side) * min (n * side) w
  unfolding areas cell_of clipped
  across r zero e le = rw (add-zero (r * up w side), zero-mul side, zero-min w, mul-zero, add-zero) e
  across r (suc n) e le =
      rw (
        add-suc (r * up w side) n,
        digits_mod r le,
        digits_div r le,
        across r n e (omega arith),
        more w side n,
        mul-add (min side (h - r * side)) (min (n * side) w) (min side (w - n * side)),
      )
      (omega (arith, mul_comm (min side (w - n * side)) (min side (h - r * side))))

  down : (r : ℕ) → areas w h side (r * up w side) ≡ min (r * side) h * w
  unfolding areas
  down zero = rw (zero-mul (up w side), zero-mul side, zero-min h, zero-mul w)
  down (suc r) =
      rw (
        suc-mul r (up w side),
        across r (up w side) (down r) (omega arith),
        min-eq_right (up_covers w side p),
        more h side r,
        add-mul (min (r * side) h) (min side (h - r * side)) w,
      )

  -- the rectangles' areas sum to the picture's
  pub areas_sum : areas w h side (count w h side) ≡ w * h
  areas_sum = rw (mul_comm (up w side) (up h side), down (up h side), min-eq_right (up_covers h side p), mul_comm h w)

-- every sample of a picture is in the rectangle of one square, which there is, and in no other's; their areas sum to the picture's
pub record Exactly (w h side : ℕ) : Type 0 where
  pub there : (x y : ℕ) → x < w → y < h → index_at (up w side) side x y < count w h side
  pub inside : (x y : ℕ) → x < w → y < h → In (rect_of w h side (index_at (up w side) side x y)) x y
  pub only : (x y i j : ℕ) → In (rect_of w h side i) x y → In (rect_of w h side j) x y → i ≡ j
  pub whole : areas w h side (count w h side) ≡ w * h

pub exactly : (w h side : ℕ) → 0 < side → Exactly w h side
exactly w h side p = record {
  there = number_lt w h side p;
  inside = is_in w h side p;
  only = λ x y i j at_i at_j. only_in w h side p x y i at_i ∙ sym (only_in w h side p x y j at_j);
  whole = areas_sum w h side p;
}

module _ (f : Frame) (ok : (grid_of f).refusal.number ≡ 0) where
  a : Accepted f
  a = accepted f ok

  some_side : 0 < group_side f
  some_side = omega (arith, a.side)

  pub groups_exactly : Exactly (color_width f) (color_height f) (group_side f)
  groups_exactly = exactly _ _ _ some_side

  pub lf_groups_exactly : Exactly (color_width f) (color_height f) (lf_side f)
  lf_groups_exactly = exactly _ _ _ (omega (arith, a.side))

  -- the rectangles of the theorem are those that are answered
  pub rect_answer : (side i : ℕ) → i < count (color_width f) (color_height f) side
      → rect_for (grid_of f) side i ≡ record { rect = rect_of (color_width f) (color_height f) side i; refusal = none }
  unfolding rect_for placed has judge laid
  rect_answer side i lt = rw (a.grid, lt-ltb i (count (color_width f) (color_height f) side) lt)

  -- the group that is answered for a sample is the one that holds it
  pub index_answer : (x y : ℕ) → x < color_width f → y < color_height f
      → index_for (grid_of f) x y ≡ record { value = index_at (up (color_width f) (group_side f)) (group_side f) x y; refusal = none }
  unfolding index_for numbered judge laid
  index_answer x y hx hy =
      rw (
        a.grid,
        lt-ltb (x / group_side f) (up (color_width f) (group_side f)) (part_lt (color_width f) (group_side f) x some_side hx),
        lt-ltb (y / group_side f) (up (color_height f) (group_side f)) (part_lt (color_height f) (group_side f) y some_side hy),
      )

  -- and the LF group that is answered for that group holds the sample too
  pub lf_answer : (x y : ℕ) → x < color_width f → y < color_height f
      → lf_index_of (grid_of f) (index_at (up (color_width f) (group_side f)) (group_side f) x y)
      ≡ record { value = index_at (up (color_width f) (lf_side f)) (lf_side f) x y; refusal = none }
  unfolding lf_index_of numbered has judge laid
  lf_answer x y hx hy =
      let column = part_lt (color_width f) (group_side f) x some_side hx in
      rw (
        a.grid,
        lt-ltb (index_at (up (color_width f) (group_side f)) (group_side f) x y) (count (color_width f) (color_height f) (group_side f))
            (groups_exactly.there x y hx hy),
        digits_mod (y / group_side f) column,
        digits_div (y / group_side f) column,
        div-div-eq-div-mul x (group_side f) 8,
        div-div-eq-div-mul y (group_side f) 8,
        add_comm (x / lf_side f) (y / lf_side f * up (color_width f) (lf_side f)),
      )
