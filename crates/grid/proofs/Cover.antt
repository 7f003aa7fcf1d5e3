-- Squares of a side that cover a picture row by row: the number of the one that holds a sample.
use Prim.Native.Nat.{ℕ, ◌/◌, ◌<◌}
use native.Mathlib.Omega.{arith}
use native.Mathlib.Nat.{div-mul-le_self, mul_comm}
use lib.Arith.{digits_lt}
use Rattle.grid.specs.Sizes.{up, count}
use Rattle.grid.specs.Groups.{index_at}
use Rattle.grid.proofs.Rounding.{holds}

pub part_lt : (a side x : ℕ) → 0 < side → x < a → x / side < up a side
part_lt a side x p hx = holds a side (x / side) p (omega (arith, div-mul-le_self x side))

module _ (w h side : ℕ) (p : 0 < side) where
  -- the number of a sample's square is below the count
  pub number_lt : (x y : ℕ) → x < w → y < h → index_at (up w side) side x y < count w h side
  number_lt x y hx hy = rw (mul_comm (up w side) (up h side)) (digits_lt (part_lt h side y p hy) (part_lt w side x p hx))
