-- What an accepted frame's counts are: one section, or as many as LfGlobal, LF groups, HfGlobal and the groups of each pass come to.
use Prim.Native.Nat.{ℕ, ◌+◌, ◌*◌, ◌≤◌, ◌<◌}
use native.Mathlib.Omega.{arith}
use mathlib.Core.Path.{◌≡◌, refl}
use mathlib.Core.Bool.{Bool, true, false, ◌&&◌}
use lib.Dec.{eqb}
use borrow.Author.Tests.{eqb-true}
use Rattle.bits.specs.Refusals.{pick}
use Rattle.grid.specs.declared.Frame.{Frame}
use Rattle.grid.specs.Sizes.{color_width, color_height, group_side, lf_side, count, sections_of}
use Rattle.grid.specs.Measured.{Measured, laid, grid_of}
use Rattle.grid.specs.Groups.{index_at}
use Rattle.grid.proofs.Accepted.{Accepted, accepted, and_parts}
use Rattle.grid.proofs.Cover.{number_lt}

pub record Counts (f : Frame) (g : Measured) : Type 0 where
  pub some_group : 0 < g.groups
  pub some_lf : 0 < g.lf_groups
  pub some_pass : 0 < f.num_passes
  pub some_section : 0 < g.sections
  pub small : g.sections ≤ 65536
  pub few : g.groups ≤ 65536
  pub one : g.sections ≡ 1 → (g.groups ≡ 1) × (f.num_passes ≡ 1)
  pub several : (g.sections ≡ 1 → ⊥) → g.sections ≡ 1 + g.lf_groups + 1 + g.groups * f.num_passes
  pub side : 0 < g.side
  pub sample : (x y : ℕ) → x < g.width → y < g.height → index_at g.columns g.side x y < g.groups

-- the section count by its two ways
module _ (groups lf passes : ℕ) where
  some_by : (b : Bool) → 0 < pick b 1 (1 + lf + 1 + groups * passes)
  some_by true = omega arith
  some_by false = omega arith

  one_by : (b : Bool) → (eqb groups 1 && eqb passes 1) ≡ b → pick b 1 (1 + lf + 1 + groups * passes) ≡ 1 → (groups ≡ 1) × (passes ≡ 1)
  one_by true e h =
      let both = and_parts (eqb groups 1) (eqb passes 1) e in
      (eqb-true groups 1 both.0, eqb-true passes 1 both.1)
  one_by false e h = absurd (omega arith)

  several_by : (b : Bool) → (pick b 1 (1 + lf + 1 + groups * passes) ≡ 1 → ⊥) → pick b 1 (1 + lf + 1 + groups * passes) ≡ 1 + lf + 1 + groups * passes
  several_by true h = absurd (h refl)
  several_by false h = refl

  some_of : 0 < sections_of groups lf passes
  unfolding sections_of
  some_of = some_by (eqb groups 1 && eqb passes 1)

  one_of : sections_of groups lf passes ≡ 1 → (groups ≡ 1) × (passes ≡ 1)
  unfolding sections_of
  one_of = one_by (eqb groups 1 && eqb passes 1) refl

  several_of : (sections_of groups lf passes ≡ 1 → ⊥) → sections_of groups lf passes ≡ 1 + lf + 1 + groups * passes
  unfolding sections_of
  several_of = several_by (eqb groups 1 && eqb passes 1)

laid_counts : (f : Frame) → Accepted f → Counts f (laid f)
unfolding laid
laid_counts f a =
    let groups = count (color_width f) (color_height f) (group_side f) in
    let lf = count (color_width f) (color_height f) (lf_side f) in
    record {
      some_group = a.some_group;
      some_lf = a.some_lf;
      some_pass = a.good.some_pass;
      some_section = some_of groups lf f.num_passes;
      small = a.sections;
      few = a.groups;
      one = one_of groups lf f.num_passes;
      several = several_of groups lf f.num_passes;
      side = omega (arith, a.side);
      sample = λ x y hx hy. number_lt (color_width f) (color_height f) (group_side f) (omega (arith, a.side)) x y hx hy;
    }

pub counts : (f : Frame) (g : Measured) → g ≡ grid_of f → g.refusal.number ≡ 0 → Counts f g
counts f g m z =
    let a = accepted f (rw m at z) in
    rw (m, a.grid) (laid_counts f a)
