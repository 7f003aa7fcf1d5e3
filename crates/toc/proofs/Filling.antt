-- Laws of the filled tables: what the walk writes, by section, is what the definitions say of offsets and sizes.
use Rattle.std.proofs.Common.{◌≡◌, ℕ, ◌+◌, ◌≤◌, true, List, length, get_or, take, drop, sym, ap, ◌∙◌, arith, take_all, take_at}
use Rattle.bits.specs.declared.Cursor.{Cursor}
use Rattle.order.specs.Order.{is_order}
use Rattle.order.specs.Tables.{tabulate, inverse_of, filled}
use Rattle.order.specs.Private.{placed_by}
use Rattle.order.specs.Sums.{sum_to}
use Rattle.order.proofs.Sums.{sum_ext}
use Rattle.order.proofs.Reach.{order_below}
use Rattle.order.proofs.Inverse.{inverse_length}
use Rattle.order.proofs.Tables.{get_d_tabulate, tabulate_ext}
use Rattle.order.proofs.Placed.{placed_through}
use Rattle.toc.specs.Sizes.{sent_before, offsets_by, sizes_by}
use Rattle.toc.specs.Private.{size_at, offset_at}

-- the first words of a filled table are the new ones
pub take_filled : (new table : List ℕ) (count : ℕ) → length new ≡ count → count ≤ length table → take count (filled new table) ≡ new
unfolding filled
take_filled new table count e h = rw (take_all (length table) new (omega arith)) (take_at new (drop (length new) table) count e)

-- the sums of the sizes as they were read
pub sent_before_lem : (count : ℕ) (f : ℕ → ℕ) (k : ℕ) → k ≤ count → sent_before (tabulate count f) k ≡ sum_to k f
unfolding sent_before
sent_before_lem count f k h = sum_ext k (λ i. get_or (tabulate count f) i 0) f (λ i l. get_d_tabulate count f i (omega arith))

module _ (count : ℕ) (l : List ℕ) (o : is_order count l ≡ true) where
  -- words as sent, written at the sections that the inverse names
  pub placed_by_section : (f : ℕ → ℕ) (before inverse table : List ℕ) → inverse ≡ filled (inverse_of count l) before → count ≤ length before → count ≤ length table
      → placed_by f 0 (take count inverse) table ≡ filled (tabulate count (λ j. f (get_or l j 0))) table
  placed_by_section f before inverse table e h k =
      let new : List ℕ = inverse_of count l in
      let front : take count inverse ≡ take count new =
      ap (take count) e ∙ take_filled new before count (inverse_length count l) h ∙ sym (take_all count new (omega (arith, inverse_length count l))) in
      ap (λ (places : List ℕ). placed_by f 0 places table) front ∙ placed_through f count l table o k

  module _ (s : List ℕ) (first : Cursor) where
    pub offsets_by_lem : (start : ℕ) → tabulate count (λ j. offset_at s first start (get_or l j 0)) ≡ offsets_by count start (tabulate count (size_at s first)) l
    unfolding offsets_by offset_at
    offsets_by_lem start =
        tabulate_ext count _ _ (λ j h.
        ap (λ (x : ℕ). start + x) (sym (sent_before_lem count (size_at s first) (get_or l j 0) (omega (arith, order_below count l o j h)))))

    pub sizes_by_lem : tabulate count (λ j. size_at s first (get_or l j 0)) ≡ sizes_by count (tabulate count (size_at s first)) l
    unfolding sizes_by
    sizes_by_lem = tabulate_ext count _ _ (λ j h. sym (get_d_tabulate count (size_at s first) (get_or l j 0) (order_below count l o j h)))
