-- Laws of what is refused before a table is read: which refusal when, and what it says that there was none.
use Rattle.std.proofs.Common.{◌≡◌, ℕ, ◌*◌, ◌<◌, ◌≤◌, Bool, true, false, not, ◌&&◌, eqb, ltb, leb, List, length, refl, sym, ap, ◌∙◌, arith, ltb-false, le-ltb, lt-ltb, eq-eqb, ne_eqb, eqb-true, le-leb, leb-true}
use borrow.Author.Tests.{eqb-false, lt-leb, not-true, not-false}
use Rattle.bits.specs.declared.Refusal.{Refusal}
use Rattle.grid.specs.Measured.{Measured, unrefused, grid_in, grid_of, grid_or_refused}
use Rattle.std.specs.Prelude.{Ok, Err}
use Rattle.bits.specs.Refusals.{pick, refusal, none, answered}
use Rattle.bits.proofs.Answered.{answered_ok}
use Rattle.grid.specs.declared.Frame.{Frame}
use Rattle.grid.specs.declared.Grid.{Grid}
use Rattle.grid.proofs.Answered.{own, measured_from, measured_ok, measured_err}
use Rattle.grid.proofs.Accepted.{and_parts}
use Rattle.toc.specs.Private.{Room}
use Rattle.toc.specs.Reading.{Tables, roomy, room_for, judged_by}

pub room_by : (count o s p i : ℕ) (a b r : Bool) → a ≡ (leb count o && leb count s) → b ≡ (leb count p && leb count i) → r ≡ (a && b) → r ≡ room_for count o s p i
unfolding room_for
room_by count o s p i a b r ea eb e = rw (← ea, ← eb) e

pub room_parts : (count o s p i : ℕ) → room_for count o s p i ≡ true → Room count o s p i
unfolding room_for
room_parts count o s p i e =
    let halves = and_parts (leb count o && leb count s) (leb count p && leb count i) e in
    let words = and_parts (leb count o) (leb count s) halves.0 in
    let orders = and_parts (leb count p) (leb count i) halves.1 in
    record {
      offsets = leb-true count o words.0;
      sizes = leb-true count s words.1;
      order = leb-true count p orders.0;
      inverse = leb-true count i orders.1;
    }

-- nothing is refused before the table is read
pub record Fair (s : List ℕ) (g : Measured) (place : ℕ) (room : Bool) : Type 0 where
  pub short : length s ≤ 16777216
  pub frame : g.refusal.number ≡ 0
  pub roomy : room ≡ true
  pub inside : place ≤ 8 * length s

ways : (a b d e : Bool) (own : Refusal) → (b ≡ false → own.number ≡ 0 → ⊥)
    → (pick a (refusal 2 0) (pick b (pick d (pick e none (refusal 11 0)) (refusal 3 0)) own)).number ≡ 0 → (a ≡ false) × (b ≡ true) × (d ≡ true) × (e ≡ true)
ways true b d e own h z = absurd (omega arith)
ways false true true true own h z = (refl, refl, refl, refl)
ways false true true false own h z = absurd (omega arith)
ways false true false e own h z = absurd (omega arith)
ways false false d e own h z = absurd (h refl z)

module _ (s : List ℕ) (g : Measured) (place : ℕ) (room : Bool) where
  pub judged_fair : (judged_by s g place room).number ≡ 0 → Fair s g place room
  unfolding judged_by
  judged_fair z =
      let way = ways (ltb 16777216 (length s)) (eqb g.refusal.number 0) room (leb place (8 * length s)) g.refusal
      (λ t. eqb-false g.refusal.number 0 t) z in
      record {
        short = ltb-false 16777216 (length s) way.0;
        frame = eqb-true g.refusal.number 0 way.1;
        roomy = way.2;
        inside = leb-true place (8 * length s) way.3;
      }

  pub judged_long : (r : Refusal) → 16777216 < length s → r ≡ refusal 2 0 → r ≡ judged_by s g place room
  unfolding judged_by
  judged_long r h e = rw (lt-ltb 16777216 (length s) h) e

  module _ (short : length s ≤ 16777216) where
    pub judged_frame : (g.refusal.number ≡ 0 → ⊥) → g.refusal ≡ judged_by s g place room
    unfolding judged_by
    judged_frame h = rw (le-ltb 16777216 (length s) short, ne_eqb g.refusal.number 0 h)

    module _ (z : g.refusal.number ≡ 0) where
      pub judged_room : (r : Refusal) → not room ≡ true → r ≡ refusal 3 0 → r ≡ judged_by s g place room
      unfolding judged_by
      judged_room r t e = rw (le-ltb 16777216 (length s) short, eq-eqb g.refusal.number 0 z, not-true room t) e

      module _ (t : not room ≡ false) where
        pub judged_past : (r : Refusal) → 8 * length s < place → r ≡ refusal 11 0 → r ≡ judged_by s g place room
        unfolding judged_by
        judged_past r h e =
            rw (le-ltb 16777216 (length s) short, eq-eqb g.refusal.number 0 z, not-false room t, lt-leb place (8 * length s) h) e

        pub judged_good : (r : Refusal) → place ≤ 8 * length s → r ≡ none → r ≡ judged_by s g place room
        unfolding judged_by
        judged_good r h e =
            rw (le-ltb 16777216 (length s) short, eq-eqb g.refusal.number 0 z, not-false room t, le-leb place (8 * length s) h) e

-- the same as `judge_place` gives it: each refusal, or the frame's grid
module _ (s : List ℕ) (f : Frame) (place : ℕ) (room : Bool) where
  pub place_long : 16777216 < length s → Err (refusal 2 0) ≡ answered (judged_by s (grid_of f) place room) (grid_of f).sections
  place_long h = rw (← judged_long s (grid_of f) place room (refusal 2 0) h refl)

  module _ (short : length s ≤ 16777216) where
    pub place_frame : (r : Refusal) → Err r ≡ grid_or_refused (grid_of f) → Err r ≡ answered (judged_by s (grid_of f) place room) (grid_of f).sections
    place_frame r e = rw (← judged_frame s (grid_of f) place room short (measured_err f r e).0) (own f r (grid_of f).sections e)

    module _ (g : Grid) (e : Ok g ≡ grid_or_refused (grid_of f)) where
      fine : (grid_of f).refusal.number ≡ 0
      fine = rw (← measured_ok f g e) refl

      pub place_room : not room ≡ true → Err (refusal 3 0) ≡ answered (judged_by s (grid_of f) place room) (grid_of f).sections
      place_room t = rw (← judged_room s (grid_of f) place room short fine (refusal 3 0) t refl)

      module _ (t : not room ≡ false) where
        pub place_past : 8 * length s < place → Err (refusal 11 0) ≡ answered (judged_by s (grid_of f) place room) (grid_of f).sections
        place_past h = rw (← judged_past s (grid_of f) place room short fine t (refusal 11 0) h refl)

        pub place_good : place ≤ 8 * length s → Ok g.sections ≡ answered (judged_by s (grid_of f) place room) (grid_of f).sections
        place_good h = rw (← judged_good s (grid_of f) place room short fine t none h refl, ← measured_ok f g e)

-- the room is judged by the grid's count
pub room_of : (f : Frame) (g : Grid) → Ok g ≡ grid_or_refused (grid_of f) → (o s p i : ℕ) → room_for g.sections o s p i ≡ room_for (grid_of f).sections o s p i
room_of f g e o s p i = rw (← measured_ok f g e)

-- and what it says that there was a count
pub place_ok : (s : List ℕ) (f : Frame) (place : ℕ) (t : Tables) (n : ℕ) → Ok n ≡ answered (judged_by s (grid_of f) place (roomy (grid_of f).sections t)) (grid_of f).sections
    → (n ≡ (grid_of f).sections) × ((judged_by s (grid_of f) place (roomy (grid_of f).sections t)).number ≡ 0)
place_ok s f place t n e =
    let w = answered_ok (judged_by s (grid_of f) place (roomy (grid_of f).sections t)) (grid_of f).sections n (sym e) in
    (sym w.1, w.0)
