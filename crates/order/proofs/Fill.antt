-- Laws of the walks that fill a lent table: the identity word by word, and an order's first entries.
use Prim.Native.Nat.{ℕ, ◌+◌, ◌≤◌, ◌<◌, min}
use native.Mathlib.Omega.{arith}
use native.Mathlib.Nat.{zero-add}
use native.Mathlib.Decide.{dec_le}
use mathlib.Core.Path.{◌≡◌, sym, ◌∙◌, ap}
use mathlib.Core.Logic.{by_cases}
use mathlib.Core.List.{List}
use lib.ListN.{length, set, take}
use lib.Seq.{sets, take_all}
use Rattle.fill.proofs.Filling.{Values, values_none, values_more, values_all}
use Rattle.order.specs.Tables.{identity, filled}
use Rattle.order.proofs.Tables.{filled_sets}
use Rattle.order.proofs.Inverse.{identity_length, identity_at}

-- the identity, word by word
module _ (count end : ℕ) (before : List ℕ) where
  pub counted_none : end ≡ min count (length before) → Values before 0 (identity count) end before 0
  counted_none e = values_none 0 before 0 (identity count) end (omega (arith, e, identity_length count))

  module _ (table : List ℕ) (j : ℕ) (w : Values before 0 (identity count) end table j) where
    pub counted_more : j < end → Values before 0 (identity count) end (set table j j) (j + 1)
    counted_more h =
        let below : j < count = omega (arith, w.end_is, identity_length count) in
        rw zero-add at (values_more 0 before 0 (identity count) end table j w h j (sym (identity_at count j below)))

    pub counted_all : end ≤ j → table ≡ filled (identity count) before
    counted_all h = values_all 0 before 0 (identity count) end table j w h ∙ filled_sets (identity count) before

-- an order's first entries, as many as there are
pub copied : (order : List ℕ) (count end : ℕ) (before table : List ℕ) → end ≡ min count (length order) → table ≡ sets before 0 (take end order) → table ≡ filled (take count order) before
copied order count end before table e et =
    let same : take end order ≡ take count order =
    by_cases (dec_le count (length order))
    (λ y. let all : end ≡ count = omega (arith, y) in ap (λ (n : ℕ). take n order) all)
    (λ y. take_all end order (omega (arith, y)) ∙ sym (take_all count order (omega (arith, y)))) in
    et ∙ ap (sets before 0) same ∙ filled_sets (take count order) before
