-- What stands in the tables of an accepted call: the offset, size, sent number and section at each place, and how large they get. For both entries.
use Prim.Native.Nat.{ℕ, zero, suc, ◌+◌, ◌*◌, ◌^◌, ◌≤◌, ◌<◌}
use native.Mathlib.Omega.{arith}
use mathlib.Core.Path.{◌≡◌, refl, sym, ◌∙◌, ap}
use mathlib.Core.List.{List}
use lib.ListN.{get_or}
use lib.Dec.{eqb}
use borrow.Author.Tests.{eqb-true, eqb-false}
use Rattle.bits.specs.declared.Refusal.{Refusal}
use Rattle.bits.specs.Refusals.{start}
use Rattle.grid.specs.declared.Frame.{Frame}
use Rattle.grid.specs.Measured.{Measured, grid_of}
use Rattle.order.specs.Order.{checked}
use Rattle.order.specs.Tables.{inverse_of}
use Rattle.order.specs.Sums.{sum_to}
use Rattle.order.proofs.Entries.{split}
use Rattle.order.proofs.Sums.{sum_ext}
use Rattle.order.proofs.Reach.{order_length, order_below}
use Rattle.order.proofs.Inverse.{inverse_length}
use Rattle.order.proofs.Tables.{length_tabulate, get_d_tabulate, filled_at}
use Rattle.toc.specs.declared.Toc.{Toc}
use Rattle.toc.specs.Sizes.{sent_before, offsets_by, sizes_by}
use Rattle.toc.specs.Reading.{Table, Tables, roomy, judged, Reading, second_reading, tables_of, after}
use Rattle.toc.proofs.Entering.{sized_reading_lem, fair, roomed, second_refused, second_bad, second_is, lent_order}
use Rattle.toc.proofs.Accepted.{Accepted, not_refused, accepted_by, place_within}
use Rattle.theorems.proofs.Orders.{order_sum}

-- the second entry: the order is the lent one
pub second_accepted : (s : List ℕ) (f : Frame) (place : ℕ) (lent : List ℕ) (t : Tables) (toc : Toc) → (second_reading s f place lent t).answer ≡ Table toc
    → Accepted s f t toc (second_reading s f place lent t) × ((second_reading s f place lent t).order ≡ lent)
second_accepted s f place lent t toc e =
    let g : Measured = grid_of f in
    let r : Refusal = judged s g place t in
    let bad : Refusal = checked g.sections lent in
    split (eqb r.number 0)
    (λ z'.
    let z : r.number ≡ 0 = eqb-true r.number 0 z' in
    let ok = fair s f place t g refl (roomy g.sections t) refl r refl z in
    split (eqb bad.number 0)
    (λ b'.
    let b : bad.number ≡ 0 = eqb-true bad.number 0 b' in
    let is =
    sym (second_is s f place t g refl (roomy g.sections t) refl r refl z lent bad refl b (start place) refl)
    ∙ sized_reading_lem s (start place) g.sections lent in
    let a =
    accepted_by s f t toc (second_reading s f place lent t) lent (start place) is e
    (lent_order s f place t g refl (roomy g.sections t) refl r refl z lent bad refl b) place (roomy g.sections t) ok
    (roomed s f place t g refl (roomy g.sections t) refl r refl z) (place_within s place ok.short ok.inside) in
    (a, ap (λ (x : Reading). x.order) is))
    (λ b'. absurd (not_refused bad toc _ (eqb-false bad.number 0 b') (second_bad s f place t g refl (roomy g.sections t) refl r refl z lent bad refl (eqb-false bad.number 0 b')).answer e)))
    (λ z'. absurd (not_refused r toc _ (eqb-false r.number 0 z') (second_refused s f place t g refl (roomy g.sections t) refl r refl lent (eqb-false r.number 0 z')).answer e))

-- ---- what stands at each section

sum_bound : (n : ℕ) (f : ℕ → ℕ) → ((k : ℕ) → k < n → f k < 1077953536) → sum_to n f ≤ n * 1077953535
unfolding sum_to
sum_bound zero f h = omega arith
sum_bound (suc n) f h = omega (arith, sum_bound n f (λ k l. h k (omega arith)), h n (omega arith))

module _ (s : List ℕ) (f : Frame) (t : Tables) (toc : Toc) (q : Reading) (a : Accepted s f t toc q) where
  -- the sizes sent before any of count numbers come to less than 2^47
  pub before_small : (k : ℕ) → k ≤ toc.count → sent_before q.sizes k ≤ k * 1077953535
  unfolding sent_before
  before_small k h = sum_bound k (λ i. get_or q.sizes i 0) (λ i l. a.small i (omega arith))

  module _ (j : ℕ) (l : j < toc.count) where
    -- offset[section] = data start + the sizes sent before order[section]
    pub offset_at_lem : get_or (after q t).offsets j 0 ≡ toc.bookmark + sent_before q.sizes (get_or q.order j 0)
    unfolding tables_of offsets_by
    offset_at_lem =
        ap (λ (x : Tables). get_or x.offsets j 0) a.filled
        ∙ filled_at (offsets_by toc.count toc.bookmark q.sizes q.order) t.offsets j
        (omega (arith, length_tabulate toc.count (λ i. toc.bookmark + sent_before q.sizes (get_or q.order i 0)))) (omega (arith, a.room.offsets))
        ∙ get_d_tabulate toc.count (λ i. toc.bookmark + sent_before q.sizes (get_or q.order i 0)) j l

    -- size[section] = the size sent as order[section]
    pub size_at_lem : get_or (after q t).sizes j 0 ≡ get_or q.sizes (get_or q.order j 0) 0
    unfolding tables_of sizes_by
    size_at_lem =
        ap (λ (x : Tables). get_or x.sizes j 0) a.filled
        ∙ filled_at (sizes_by toc.count q.sizes q.order) t.sizes j
        (omega (arith, length_tabulate toc.count (λ i. get_or q.sizes (get_or q.order i 0) 0))) (omega (arith, a.room.sizes))
        ∙ get_d_tabulate toc.count (λ i. get_or q.sizes (get_or q.order i 0) 0) j l

    pub order_at : get_or (after q t).order j 0 ≡ get_or q.order j 0
    unfolding tables_of
    order_at =
        ap (λ (x : Tables). get_or x.order j 0) a.filled
        ∙ filled_at q.order t.order j (omega (arith, order_length toc.count q.order a.order)) (omega (arith, a.room.order))

    pub inverse_at : get_or (after q t).inverse j 0 ≡ get_or (inverse_of toc.count q.order) j 0
    unfolding tables_of
    inverse_at =
        ap (λ (x : Tables). get_or x.inverse j 0) a.filled
        ∙ filled_at (inverse_of toc.count q.order) t.inverse j (omega (arith, inverse_length toc.count q.order)) (omega (arith, a.room.inverse))

    -- all offsets are below 2^47
    pub offset_below : get_or (after q t).offsets j 0 < 2 ^ 47
    offset_below =
        let low : get_or q.order j 0 < toc.count = order_below toc.count q.order a.order j l in
        omega (arith, offset_at_lem, before_small (get_or q.order j 0) (omega arith), a.few, a.begins, a.short)

  -- the total is the sum of the sizes, by section as it is as sent
  pub total_by_section : sum_to toc.count (λ j. get_or (after q t).sizes j 0) ≡ toc.total_byte_size
  unfolding sent_before
  total_by_section =
      sum_ext toc.count (λ j. get_or (after q t).sizes j 0) (λ j. get_or q.sizes (get_or q.order j 0) 0) (λ j l. size_at_lem j l)
      ∙ order_sum toc.count q.order a.order (λ k. get_or q.sizes k 0)
      ∙ sym a.total

  -- where the data ends
  pub end_below : toc.bookmark + toc.total_byte_size < 2 ^ 47
  end_below = omega (arith, a.total, before_small toc.count (omega arith), a.few, a.begins, a.short)
