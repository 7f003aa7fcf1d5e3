-- Values put one after another: what is left to put makes of the slice as it is what all make of the slice as it was. For slices of any type, and
-- wherever the values come from.
use Prim.Native.Nat.{ℕ, suc, ◌+◌, ◌-◌, ◌≤◌, ◌<◌, min}
use native.Mathlib.Omega.{arith}
use native.Mathlib.Nat.{add-zero}
use native.Mathlib.Numerals.{add-one}
use mathlib.Core.Path.{◌≡◌, refl, sym, ◌∙◌, ap}
use mathlib.Core.Logic.{by_cases, ◌⊎◌, inl, inr}
use mathlib.Core.List.{List, [], ◌∷◌}
use native.Mathlib.Decide.{dec_le, ℕ_discrete}
use lib.ListN.{length, set, get_or, drop, length-set}
use lib.Seq.{sets, set_out, get_or-set_same, get_or-set_other, drop-cons, drop-length}

-- places behind the end are passed over
pub sets_past : {A : Type 0} (l vs : List A) (k : ℕ) → length l ≤ k → sets l k vs ≡ l
sets_past l [] k h = refl
sets_past l (v ∷ vs) k h =
    let same : set l k v ≡ l = set_out l k v h in
    rw same (sets_past l vs (suc k) (omega arith))

-- a place outside those that are put keeps its value, and one inside has the new one
pub sets_outside : {A : Type 0} (d : A) (vs l : List A) (i k : ℕ) → (k < i) ⊎ (i + length vs ≤ k) → get_or (sets l i vs) k d ≡ get_or l k d
sets_outside d [] l i k h = refl
sets_outside d (v ∷ vs) l i k (inl h) = sets_outside d vs (set l i v) (suc i) k (inl (omega arith)) ∙ get_or-set_other l i k v d (λ e. omega arith)
sets_outside d (v ∷ vs) l i k (inr h) = sets_outside d vs (set l i v) (suc i) k (inr (omega arith)) ∙ get_or-set_other l i k v d (λ e. omega arith)

pub sets_inside : {A : Type 0} (d : A) (vs l : List A) (i k : ℕ) → i ≤ k → k < i + length vs → k < length l → get_or (sets l i vs) k d ≡ get_or vs (k - i) d
sets_inside d [] l i k low high room = absurd (omega arith)
sets_inside d (v ∷ vs) l i k low high room =
    by_cases (ℕ_discrete k i)
    (λ e.
    let here : get_or (set l i v) k d ≡ v = ap (λ (j : ℕ). get_or (set l i v) j d) e ∙ get_or-set_same l i v d (omega (arith, e)) in
    let first : k - i ≡ 0 = omega (arith, e) in
    sets_outside d vs (set l i v) (suc i) k (inl (omega (arith, e))) ∙ here ∙ ap (λ (j : ℕ). get_or (v ∷ vs) j d) (sym first))
    (λ e.
    let later : k - i ≡ suc (k - suc i) = omega (arith, e) in
    sets_inside d vs (set l i v) (suc i) k (omega (arith, e)) (omega arith) (omega (arith, length-set l i v)) ∙ ap (λ (j : ℕ). get_or (v ∷ vs) j d) (sym later))

-- rest is still to be put into out, from k on
pub record Filling {A : Type 0} (before : List A) (at : ℕ) (all out : List A) (k : ℕ) (rest : List A) : Type 0 where
  pub left : sets before at all ≡ sets out k rest
  pub size : length out ≡ length before

module _ {A : Type 0} (before : List A) (at : ℕ) (all : List A) where
  pub filling_none : Filling before at all before at all
  filling_none = record { left = refl; size = refl }

  module _ (out : List A) (k : ℕ) where
    pub filling_more : (v : A) (rest after : List A) → Filling before at all out k (v ∷ rest) → after ≡ set out k v → Filling before at all after (k + 1) rest
    filling_more v rest after f e = record { left = f.left ∙ rw (e, add-one); size = ap length e ∙ length-set out k v ∙ f.size }

    pub filling_all : Filling before at all out k [] → out ≡ sets before at all
    filling_all f = sym f.left

    -- the slice is full
    pub filling_full : (rest : List A) → Filling before at all out k rest → length out ≤ k → out ≡ sets before at all
    filling_full rest f h = sym (f.left ∙ sets_past out rest k h)

-- the values of a slice, one after another: i of them are put, and end is how many have room
pub record Values {A : Type 0} (before : List A) (at : ℕ) (values : List A) (end : ℕ) (out : List A) (i : ℕ) : Type 0 where
  pub filling : Filling before at values out (at + i) (drop i values)
  pub end_is : end ≡ min (length values) (length before - at)
  pub low : i ≤ end
  pub size : length out ≡ length before

module _ {A : Type 0} (before : List A) (at : ℕ) (values : List A) (end : ℕ) where
  module _ (out : List A) (i : ℕ) (f : Values before at values end out i) where
    -- all are put, or the slice is full
    pub values_whole : end ≤ i → out ≡ sets before at values
    values_whole h =
        by_cases (dec_le (length values) i)
        (λ y.
        let all : i ≡ length values = omega (arith, y, f.end_is, f.low) in
        let none : drop i values ≡ [] = rw (all, drop-length) in
        filling_all before at values out (at + i) (rw none at f.filling))
        (λ y. filling_full before at values out (at + i) (drop i values) f.filling (omega (arith, y, f.end_is, f.low, f.size)))

module _ {A : Type 0} (d : A) (before : List A) (at : ℕ) (values : List A) (end : ℕ) where
  pub values_none : end ≡ min (length values) (length before - at) → Values before at values end before 0
  values_none e = record { filling = rw add-zero (filling_none before at values); end_is = e; low = omega arith; size = refl }

  module _ (out : List A) (i : ℕ) (f : Values before at values end out i) where
    pub values_more : i < end → (v : A) → v ≡ get_or values i d → Values before at values end (set out (at + i) v) (i + 1)
    values_more h v ev =
        let below : i < length values = omega (arith, f.end_is) in
        let one : drop i values ≡ v ∷ drop (i + 1) values = drop-cons values i d below ∙ rw (ev, add-one) in
        let next : at + i + 1 ≡ at + (i + 1) = omega arith in
        let more = filling_more before at values out (at + i) v (drop (i + 1) values) (set out (at + i) v) (rw one at f.filling) refl in
        record { filling = rw next at more; end_is = f.end_is; low = omega arith; size = more.size }

    -- the same, by the law that needs no value for a place outside
    pub values_all : end ≤ i → out ≡ sets before at values
    values_all h = values_whole before at values end out i f h
