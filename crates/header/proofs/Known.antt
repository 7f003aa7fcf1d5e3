-- Laws of a U32 of small choices out of bits that are known.
use Prim.Native.Nat.{ℕ, zero, suc, ◌+◌, ◌≤◌, ◌<◌}
use native.Mathlib.Omega.{arith}
use native.Mathlib.Nat.{mod-lt}
use mathlib.Core.Path.{◌≡◌, refl, ◌∙◌, ap}
use mathlib.Core.List.{List}
use mathlib.Core.Bool.{Bool, true, false}
use lib.Dec.{eqb, lit<}
use Rattle.bits.specs.declared.Choice.{Choice}
use Rattle.bits.specs.declared.view.View.{View}
use Rattle.bits.specs.declared.view.Seen.{Seen}
use Rattle.bits.specs.Refusals.{pick, start}
use Rattle.bits.specs.View.{seen, seen_choice}
use Rattle.bits.specs.Codec.{u32, field, val, plus, chosen}
use Rattle.bits.proofs.Reading.{of_both}
use Rattle.bits.proofs.Views.{Held, held_less, field_of, see_choice}
use Rattle.header.specs.Private.{small, seen_small}

small_chosen : (n k : ℕ) → k < 4 → pick (eqb k 3) (plus 3 n) (val k) ≡ chosen (small n) k
small_chosen n zero h = refl
small_chosen n (suc zero) h = refl
small_chosen n (suc (suc zero)) h = refl
small_chosen n (suc (suc (suc zero))) h = refl
small_chosen n (suc (suc (suc (suc k)))) h = absurd (omega (arith, h))

selector_lt : (w : View) (on : Bool) → (seen w on 2).value < 4
unfolding seen
selector_lt w true = mod-lt w.bits (lit< tt)
selector_lt w false = lit< tt

-- as the code has it
pub small_is : (w : View) (on : Bool) (n : ℕ) (k : Seen) (ch : Choice) (r : Seen) → k ≡ seen w on 2 → ch ≡ pick (eqb k.value 3) (plus 3 n) (val k.value) → r ≡ seen_choice k ch → r ≡ seen_small w on n
unfolding seen_small
small_is w on n k ch r ek ech er = er ∙ rw (ech, ek) (ap (seen_choice (seen w on 2)) (small_chosen n (seen w on 2).value (selector_lt w on)))

small_narrow : (n k : ℕ) → (chosen (small n) k).bits ≤ n
small_narrow n k =
    let narrow : Choice → Type 0 = λ c. c.bits ≤ n in
    of_both narrow (eqb k 0) _ _ (omega arith) (of_both narrow (eqb k 1) _ _ (omega arith) (of_both narrow (eqb k 2) _ _ (omega arith) (omega arith)))

-- what is seen is what the field reads, and so many bits behind it are still known
pub see_small : (s : List ℕ) (w : View) (on : Bool) (n m : ℕ) → n ≤ 8 → Held s w (2 + (n + m)) → (r : Seen) → r ≡ seen_small w on n
    → (field_of r ≡ field s on (u32 (small n)) 0 (start w.at)) × Held s r.rest m
unfolding seen_small
see_small s w on n m low held r er =
    let ch = chosen (small n) (seen w on 2).value in
    let narrow = small_narrow n (seen w on 2).value in
    see_choice s w on (small n) m (λ off. refl) (seen w on 2) refl ch refl (omega (arith, narrow, low)) (held_less s w (2 + (n + m)) (2 + (ch.bits + m)) (omega (arith, narrow)) held) r er
