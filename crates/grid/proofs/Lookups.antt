-- Laws of the look-ups: the LF group of a group, and the group of a point.
use Prim.Native.Nat.{ℕ, ◌+◌, ◌*◌, ◌/◌, ◌%◌, ◌≤◌, ◌<◌}
use native.Mathlib.Omega.{arith}
use native.Mathlib.Nat.{div-add-mod', div-le_self, mul-le-mul, mul_comm}
use mathlib.Core.Path.{◌≡◌, refl, sym, ◌∙◌}
use mathlib.Core.Bool.{Bool, true, ◌&&◌}
use borrow.Author.Tests.{ltb-true}
use lib.Dec.{ltb}
use lib.Arith.{digits_lt}
use Rattle.std.specs.Prelude.{Result, Ok, Err}
use Rattle.bits.specs.declared.Refusal.{Refusal}
use Rattle.bits.specs.Refusals.{pick, refusal, none}
use Rattle.grid.specs.declared.Frame.{Frame}
use Rattle.grid.specs.declared.Grid.{Grid}
use Rattle.grid.specs.declared.Rect.{Rect}
use Rattle.grid.specs.Sizes.{sample}
use Rattle.grid.specs.Measured.{unrefused, grid_of, grid_or_refused}
use Rattle.grid.specs.Groups.{has, cell_of, clipped, collides, index_at, sampled, rect_for, touch_for, lf_index_of, index_for, number_or_refused, rect_or_refused, touch_or_refused}
use Rattle.grid.proofs.Accepted.{Sound, sound, and_parts}
use Rattle.grid.proofs.Answered.{measured_ok, own, judged_own, number_given, rect_given, touch_given, known_yes, known_no, known_true}

-- an eighth of a row and of a column: no larger than the number itself
pub lf_index_le : (i columns lf : ℕ) → lf ≤ columns → i % columns / 8 + i / columns / 8 * lf ≤ i
lf_index_le i columns lf h =
    omega (arith, div-add-mod' i columns, div-le_self (i % columns) 8, mul-le-mul (div-le_self (i / columns) 8) h)

-- an accepted frame's grid
pub measured_sound : (f : Frame) (g : Grid) → Ok g ≡ grid_or_refused (grid_of f) → Sound f (unrefused g)
measured_sound f g e = sound f (unrefused g) (measured_ok f g e) refl

-- a refused frame has none of the answers
module _ (f : Frame) (r : Refusal) (e : Err r ≡ grid_or_refused (grid_of f)) where
  pub sampled_own : (n u : ℕ) → Err r ≡ number_or_refused (sampled f n u)
  unfolding sampled
  sampled_own n u = own f r _ e ∙ number_given _ _

  pub rect_own : (side i : ℕ) → Err r ≡ rect_or_refused (rect_for (grid_of f) side i)
  unfolding rect_for
  rect_own side i = judged_own f r _ _ e ∙ rect_given _ _

  pub touch_own : (side i : ℕ) (region : Rect) → Err r ≡ touch_or_refused (touch_for (grid_of f) side i region)
  unfolding touch_for
  touch_own side i region = judged_own f r _ _ e ∙ touch_given _ _

  pub lf_own : (i : ℕ) → Err r ≡ number_or_refused (lf_index_of (grid_of f) i)
  unfolding lf_index_of
  lf_own i = judged_own f r _ _ e ∙ number_given _ _

  pub index_own : (x y : ℕ) → Err r ≡ number_or_refused (index_for (grid_of f) x y)
  unfolding index_for
  index_own x y = judged_own f r _ _ e ∙ number_given _ _

pub sampled_yes : (f : Frame) (g : Grid) → Ok g ≡ grid_or_refused (grid_of f) → (n u v : ℕ) → v ≡ sample n u f.lf_level → Ok v ≡ number_or_refused (sampled f n u)
unfolding sampled
sampled_yes f g e n u v ev = rw (ev, ← measured_ok f g e) (number_given none _)

-- a square that the grid has, or hasn't
module _ (g : Grid) (side i : ℕ) (known : Bool) (ek : known ≡ has (unrefused g) side i) where
  pub rect_no : (r : Refusal) → ◌≡◌ {A = Result (Unit {0}) Refusal} (Err r) (pick known (Ok tt) (Err (refusal 14 0))) → Err r ≡ rect_or_refused (rect_for (unrefused g) side i)
  unfolding rect_for
  rect_no r h = rw (← ek) (known_no g _ known r h ∙ rect_given _ _)

  pub touch_no : (region : Rect) (r : Refusal) → ◌≡◌ {A = Result (Unit {0}) Refusal} (Err r) (pick known (Ok tt) (Err (refusal 14 0)))
      → Err r ≡ touch_or_refused (touch_for (unrefused g) side i region)
  unfolding touch_for
  touch_no region r h = rw (← ek) (known_no g _ known r h ∙ touch_given _ _)

  module _ (u : Unit {0}) (h : Ok u ≡ pick known (Ok tt) (Err (refusal 14 0))) where
    pub there : has (unrefused g) side i ≡ true
    there = sym ek ∙ known_true known u h

    pub rect_yes : (a b : Rect) → a ≡ cell_of g.width side i → b ≡ clipped g.width g.height a → Ok b ≡ rect_or_refused (rect_for (unrefused g) side i)
    unfolding rect_for
    rect_yes a b ea eb = rw (← ek, ← ea, ← eb) (known_yes g b known u h ∙ rect_given _ _)

    pub touch_yes : (region a : Rect) (b : Bool) → a ≡ cell_of g.width side i → b ≡ collides region a → Ok b ≡ touch_or_refused (touch_for (unrefused g) side i region)
    unfolding touch_for
    touch_yes region a b ea eb = rw (← ek, ← ea, ← eb) (known_yes g b known u h ∙ touch_given _ _)

module _ (f : Frame) (g : Grid) (e : Ok g ≡ grid_or_refused (grid_of f)) (known : Bool) where
  module _ (i : ℕ) (ek : known ≡ has (unrefused g) g.side i) where
    pub lf_no : (r : Refusal) → ◌≡◌ {A = Result (Unit {0}) Refusal} (Err r) (pick known (Ok tt) (Err (refusal 14 0))) → Err r ≡ number_or_refused (lf_index_of (grid_of f) i)
    unfolding lf_index_of
    lf_no r h = rw (← measured_ok f g e, ← ek) (known_no g _ known r h ∙ number_given _ _)

    pub lf_yes : (u : Unit {0}) → Ok u ≡ pick known (Ok tt) (Err (refusal 14 0))
        → Ok (i % g.columns / 8 + i / g.columns / 8 * g.lf_columns) ≡ number_or_refused (lf_index_of (grid_of f) i)
    unfolding lf_index_of
    lf_yes u h = rw (← measured_ok f g e, ← ek) (known_yes g _ known u h ∙ number_given _ _)

  -- the side may be written as another number that is the same
  module _ (d : ℕ) (ed : d ≡ g.side) (x y : ℕ) (ek : known ≡ (ltb (x / d) g.columns && ltb (y / d) g.rows)) where
    side_own : known ≡ (ltb (x / g.side) g.columns && ltb (y / g.side) g.rows)
    side_own = rw ed at ek

    pub index_no : (r : Refusal) → ◌≡◌ {A = Result (Unit {0}) Refusal} (Err r) (pick known (Ok tt) (Err (refusal 14 0))) → Err r ≡ number_or_refused (index_for (grid_of f) x y)
    unfolding index_for
    index_no r h = rw (← measured_ok f g e, ← side_own) (known_no g _ known r h ∙ number_given _ _)

    module _ (u : Unit {0}) (h : Ok u ≡ pick known (Ok tt) (Err (refusal 14 0))) where
      pub index_yes : Ok (index_at g.columns d x y) ≡ number_or_refused (index_for (grid_of f) x y)
      unfolding index_for
      index_yes = rw (ed, ← measured_ok f g e, ← side_own) (known_yes g _ known u h ∙ number_given _ _)

      -- the number of a point's group is below the count
      pub index_lt : index_at g.columns d x y < 65536
      index_lt =
          let s = measured_sound f g e in
          let tests = and_parts _ _ (sym ek ∙ known_true known u h) in
          let column = ltb-true (x / d) g.columns tests.0 in
          let row = ltb-true (y / d) g.rows tests.1 in
          omega (arith, digits_lt row column, mul_comm g.columns g.rows, s.product, s.groups)
