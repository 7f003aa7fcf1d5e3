-- Laws of a layout: each way of a look-up, and that nothing wraps.
use Prim.Native.Nat.{ℕ, ◌+◌, ◌*◌, ◌/◌, ◌≤◌, ◌<◌}
use native.Mathlib.Omega.{arith}
use native.Mathlib.Nat.{mul-le-mul, div-le_self}
use mathlib.Core.Path.{◌≡◌, sym, ◌∙◌}
use mathlib.Core.Bool.{Bool, true, false, not, ◌&&◌}
use lib.Dec.{ltb}
use borrow.Author.Tests.{eq-eqb, ne_eqb, lt-ltb, not-true, not-false}
use Rattle.bits.specs.declared.Refusal.{Refusal}
use Rattle.bits.specs.Refusals.{none}
use Rattle.grid.specs.declared.Frame.{Frame}
use Rattle.std.specs.Prelude.{Ok, Err}
use Rattle.grid.specs.declared.Grid.{Grid}
use Rattle.grid.specs.Measured.{unrefused, grid_of, grid_or_refused}
use Rattle.grid.proofs.Answered.{measured_ok, own}
use Rattle.order.specs.Numbers.{SectionAnswer}
use Rattle.layout.specs.declared.Layout.{Layout}
use Rattle.layout.specs.Layouts.{laid_out, layout_of, layout_or_refused, number_in, group_in, has_in, not_in, section_in}

-- the layout of a frame, or its refusal
pub layout_own : (f : Frame) (r : Refusal) → Err r ≡ grid_or_refused (grid_of f) → Err r ≡ layout_or_refused (layout_of f)
unfolding layout_of
layout_own f r e = own f r _ e

pub layout_told : (f : Frame) (g : Grid) → Ok g ≡ grid_or_refused (grid_of f) → Ok (laid_out f (unrefused g)) ≡ layout_or_refused (layout_of f)
unfolding layout_of
layout_told f g e = rw (← measured_ok f g e)

-- nothing wraps
pub index_small : (x y columns side : ℕ) → x < 4294967296 → y < 4294967296 → columns < 4294967296 → y / side * columns + x / side < 18446744073709551616
index_small x y columns side hx hy hc =
    let row : y / side ≤ 4294967295 = omega (arith, div-le_self y side) in
    let wide : columns ≤ 4294967295 = omega arith in
    let product : y / side * columns ≤ 4294967295 * 4294967295 = mul-le-mul row wide in
    omega (arith, product, div-le_self x side)

pub number_small : (lf pass passes groups group : ℕ) → lf < 4294967296 → passes < 4294967296 → groups < 4294967296 → pass < passes → group < groups
    → 1 + lf + 1 + pass * groups + group < 18446744073709551616
number_small lf pass passes groups group hl hp hg a b =
    let last : pass ≤ 4294967294 = omega arith in
    let many : groups ≤ 4294967295 = omega arith in
    let product : pass * groups ≤ 4294967294 * 4294967295 = mul-le-mul last many in
    omega (arith, product)

-- the number of a section
pub number_one : (l : Layout) (pass group : ℕ) → l.sections ≡ 1 → 0 ≡ number_in l pass group
unfolding number_in
number_one l pass group h = rw (eq-eqb l.sections 1 h)

pub number_of : (l : Layout) (pass group : ℕ) → (l.sections ≡ 1 → ⊥) → 1 + l.lf_groups + 1 + pass * l.groups + group ≡ number_in l pass group
unfolding number_in
number_of l pass group h = rw (ne_eqb l.sections 1 h)

-- the ways of a look-up
module _ (l : Layout) (x y pass : ℕ) (inside early all : Bool) (ei : inside ≡ (ltb x l.width && ltb y l.height)) (ee : early ≡ (ltb pass l.passes && ltb l.power 32))
    (ea : all ≡ (inside && early)) where
  tests : ((ltb x l.width && ltb y l.height) && (ltb pass l.passes && ltb l.power 32)) ≡ all
  tests = sym (ea ∙ rw (ei, ee))

  pub outside : not all ≡ true → (r : SectionAnswer) → r ≡ not_in → r ≡ section_in l x y pass
  unfolding section_in has_in
  outside h r er = er ∙ rw (tests, not-true all h)

  module _ (h : not all ≡ false) where
    module _ (group : ℕ) (eg : group ≡ group_in l x y) where
      module _ (low : group < l.groups) (number : ℕ) (en : number ≡ number_in l pass group) where
        pub found : number < l.sections → (acc : Refusal) → acc ≡ none → ◌≡◌ {A = SectionAnswer} (record { section = record { 0 = number }; refusal = acc }) (section_in l x y pass)
        unfolding section_in has_in
        found under acc e = rw (tests, not-false all h, ← eg, lt-ltb group l.groups low, ← en, lt-ltb number l.sections under, e)
