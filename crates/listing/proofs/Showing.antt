-- Laws of what a line shows: a section's rectangle, its numbers, and the sum of the sizes.
use Prim.Native.Nat.{ℕ, ◌+◌, ◌*◌, ◌≤◌, ◌<◌}
use native.Mathlib.Omega.{arith}
use native.Mathlib.Numerals.{add-one}
use mathlib.Core.Path.{◌≡◌, refl, sym, ◌∙◌, ap}
use mathlib.Core.Bool.{Bool, true, false}
use Rattle.std.specs.Prelude.{Result, Ok, Err}
use Rattle.std.specs.Result.{result_unwrap_or}
use borrow.Author.Tests.{ne_eqb, eqb-false}
use mathlib.Core.List.{List}
use lib.ListN.{get_or}
use lib.Dec.{eqb, ltb}
use Rattle.bits.specs.declared.Refusal.{Refusal}
use Rattle.bits.specs.Refusals.{pick}
use Rattle.bits.proofs.Answered.{answered_ok, answered_err}
use Rattle.grid.specs.Groups.{judge, told, placed, number_or_refused, rect_or_refused}
use Rattle.grid.specs.Measured.{Measured, good_record, zero_size, too_many, laid, refused_grid, grid_of}
use Rattle.sections.specs.Kinds.{numbers_of, numbers_in, kind_at, kind_of, kind_or_refused, KindTold}
use Rattle.grid.specs.declared.Frame.{Frame}
use Rattle.grid.specs.declared.Rect.{Rect}
use Rattle.order.specs.Sums.{sum_to}
use Rattle.sections.specs.declared.TocGroupKind.{TocGroupKind}
use Rattle.sections.specs.declared.TocGroupKind.TheVariants.{All, LfGlobal, LfGroup, HfGlobal, GroupPass}
use Rattle.sections.specs.declared.KindNumbers.{KindNumbers}
use Rattle.listing.specs.Listed.{kind_in}

-- an answer, or what stands for it beside a refusal
or_by : {A : Type 0} (t : Bool) (r : Refusal) (a d : A) → result_unwrap_or (pick t (Ok (pick t a d)) (Err r)) d ≡ pick t a d
or_by true r a d = refl
or_by false r a d = refl

pub rect_or : (r : Refusal) (a : Rect) → result_unwrap_or (rect_or_refused (placed r a)) (record { left = 0; top = 0; width = 0; height = 0 }) ≡ (placed r a).rect
unfolding placed
rect_or r a = or_by (eqb r.number 0) r a (record { left = 0; top = 0; width = 0; height = 0 })

number_by : (t : Bool) (r : Refusal) (a : ℕ) → (t ≡ false → a ≡ 0) → result_unwrap_or (pick t (Ok a) (Err r)) 0 ≡ a
number_by true r a h = refl
number_by false r a h = sym (h refl)

-- the numbers of a refused grid are 0
zero_by : (of : Measured → ℕ) → ((n : ℕ) → of (refused_grid n) ≡ 0) → (a z m : Bool) (l : Measured) → l.refusal.number ≡ 0
    → ((pick a (pick z (refused_grid 9) (pick m (refused_grid 10) l)) (refused_grid 8)).refusal.number ≡ 0 → ⊥)
    → of (pick a (pick z (refused_grid 9) (pick m (refused_grid 10) l)) (refused_grid 8)) ≡ 0
zero_by of h true true m l e n = h 9
zero_by of h true false true l e n = h 10
zero_by of h true false false l e n = absurd (n e)
zero_by of h false z m l e n = h 8

pub number_or : (f : Frame) (of : Measured → ℕ) → ((n : ℕ) → of (refused_grid n) ≡ 0) → result_unwrap_or (number_or_refused (told (grid_of f) (of (grid_of f)))) 0 ≡ of (grid_of f)
unfolding grid_of laid
number_or f of h =
    number_by (eqb (grid_of f).refusal.number 0) (grid_of f).refusal (of (grid_of f))
    (λ e. zero_by of h (good_record f) (zero_size f) (too_many f) (laid f) refl (eqb-false (grid_of f).refusal.number 0 e))

pub whole_is : (f : Frame) (a b : Result ℕ Refusal) (w h : ℕ) → a ≡ number_or_refused (told (grid_of f) (grid_of f).width) → b ≡ number_or_refused (told (grid_of f) (grid_of f).height)
    → w ≡ result_unwrap_or a 0 → h ≡ result_unwrap_or b 0
    → ◌≡◌ {A = Rect} (record { left = 0; top = 0; width = w; height = h }) (record { left = 0; top = 0; width = (grid_of f).width; height = (grid_of f).height })
unfolding refused_grid
whole_is f a b w h p q u v =
    let wide : w ≡ (grid_of f).width = u ∙ ap (λ (r : Result ℕ Refusal). result_unwrap_or r 0) p ∙ number_or f (λ g. g.width) (λ n. refl) in
    let high : h ≡ (grid_of f).height = v ∙ ap (λ (r : Result ℕ Refusal). result_unwrap_or r 0) q ∙ number_or f (λ g. g.height) (λ n. refl) in
    rw (wide, high)

-- a kind is told whole by its numbers
abbrev back : KindNumbers → TocGroupKind
back k =
    pick (eqb k.kind 1) LfGlobal
    (pick (eqb k.kind 2) (LfGroup k.group_idx) (pick (eqb k.kind 3) HfGlobal (pick (eqb k.kind 4) (GroupPass k.pass_idx k.group_idx) All)))

by_numbers : (k : TocGroupKind) → back (numbers_of k) ≡ k
by_numbers All = refl
by_numbers LfGlobal = refl
by_numbers (LfGroup i) = refl
by_numbers HfGlobal = refl
by_numbers (GroupPass p i) = refl

same_kind : (a b : TocGroupKind) → numbers_of a ≡ numbers_of b → a ≡ b
same_kind a b e = sym (by_numbers a) ∙ ap back e ∙ by_numbers b

-- a section's kind; where the frame has no such section, All
kind_from : (t : KindTold) (a : Result TocGroupKind Refusal) → numbers_in a ≡ kind_or_refused t → ((t.refusal.number ≡ 0 → ⊥) → t.numbers ≡ numbers_of All)
    → numbers_of (result_unwrap_or a All) ≡ t.numbers
kind_from t (Ok k) e none = sym (answered_ok t.refusal t.numbers (numbers_of k) (sym e)).1
kind_from t (Err r) e none = sym (none (answered_err t.refusal r t.numbers (sym e)).0)

pub kind_is : (f : Frame) (i : ℕ) (a : Result TocGroupKind Refusal) → numbers_in a ≡ kind_or_refused (kind_of f (record { 0 = i })) → result_unwrap_or a All ≡ kind_in f i
unfolding kind_of kind_in
kind_is f i a e =
    same_kind (result_unwrap_or a All) (kind_in f i)
    (kind_from (kind_of f (record { 0 = i })) a e
    (λ h. ap (λ (t : Bool). numbers_of (pick t (kind_at (grid_of f) i) All)) (ne_eqb (judge (grid_of f) (ltb i (grid_of f).sections)).number 0 h)))

-- ---- the sum of the sizes

pub record Sums (sizes : List ℕ) (count total i : ℕ) : Type 0 where
  pub within : i ≤ count
  pub is : total ≡ sum_to i (λ k. get_or sizes k 0)
  pub small : total ≤ i * 4294967295

pub sums_none : (sizes : List ℕ) (count : ℕ) → Sums sizes count 0 0
unfolding sum_to
sums_none sizes count = record { within = omega arith; is = refl; small = omega arith }

module _ (sizes : List ℕ) (count total i : ℕ) (w : Sums sizes count total i) where
  pub sums_more : (v : ℕ) → v ≡ get_or sizes i 0 → v < 4294967296 → i < count → Sums sizes count (total + v) (i + 1)
  unfolding sum_to
  sums_more v e b h =
      record {
        within = omega arith;
        is = ap (λ (x : ℕ). total + x) e ∙ ap (λ (x : ℕ). x + get_or sizes i 0) w.is ∙ ap (λ (n : ℕ). sum_to n (λ k. get_or sizes k 0)) (sym (add-one i));
        small = omega (arith, w.small);
      }

  pub sums_all : count ≤ i → total ≡ sum_to count (λ k. get_or sizes k 0)
  sums_all h =
      let end : i ≡ count = omega (arith, w.within) in
      w.is ∙ ap (λ (n : ℕ). sum_to n (λ k. get_or sizes k 0)) end
