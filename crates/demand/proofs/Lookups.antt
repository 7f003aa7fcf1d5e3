-- What the look-ups answer over the tables that an accepted call left: a section's sent number and back, its place, and a group's rectangle.
use Rattle.order.specs.Numbers.{SectionAnswer, SentAnswer}
use Prim.Native.Nat.{ℕ, ◌+◌, ◌≤◌, ◌<◌}
use native.Mathlib.Omega.{arith}
use mathlib.Core.Path.{◌≡◌, refl, sym, ◌∙◌, ap}
use mathlib.Core.List.{List}
use mathlib.Core.Bool.{true, ◌&&◌}
use lib.Dec.{leb, ltb}
use lib.ListN.{length, get_or, take, drop}
use lib.Seq.{take_all, take_at}
use borrow.Author.Tests.{le-leb, lt-ltb, ltb-true}
use Rattle.bits.specs.declared.Refusal.{Refusal}
use Rattle.bits.specs.Refusals.{pick, none}
use Rattle.grid.specs.declared.Frame.{Frame}
use Rattle.grid.specs.Sizes.{color_width, color_height, group_side, count}
use Rattle.grid.specs.Measured.{Measured, grid_of, laid}
use Rattle.grid.specs.Groups.{Placed, Number, told, has, placed, clipped, cell_of, rect_of, rect_for}
use Rattle.grid.proofs.Accepted.{accepted}
use Rattle.grid.proofs.Answers.{judge_known, judged}
use Rattle.order.specs.declared.SectionNumber.{SectionNumber}
use Rattle.order.specs.declared.SentNumber.{SentNumber}
use Rattle.order.specs.Numbers.{SentAnswer, SectionAnswer}
use Rattle.order.specs.Order.{is_order}
use Rattle.order.specs.Tables.{inverse_of, filled}
use Rattle.order.proofs.Entries.{and_both}
use Rattle.order.proofs.Sums.{sum_ext}
use Rattle.order.proofs.Reach.{order_length, order_below}
use Rattle.order.proofs.Inverse.{inverse_length, inverse_order}
use Rattle.order.proofs.Tables.{filled_length}
use Rattle.order.proofs.Numbers.{sent_answer_lem, section_answer_lem}
use Rattle.sections.specs.Lookups.{PlaceAnswer, sent_of_section, section_of_sent}
use Rattle.sections.proofs.Asking.{place_judged, place_yes, sent_yes, back_yes}
use Rattle.toc.specs.declared.Toc.{Toc}
use Rattle.toc.specs.Sizes.{sent_before}
use Rattle.toc.specs.Reading.{Table, Tables, tables, Reading, tables_of, Done}
use Rattle.toc.proofs.Accepted.{Accepted}
use Rattle.theorems.proofs.Orders.{order_sum}
use Rattle.theorems.proofs.Spots.{sum_cut}
use Rattle.theorems.proofs.Rectangles.{In, rect_answer}
use Rattle.theorems.proofs.Demand.{written_words}
use Rattle.demand.specs.Whole.{colour_width, colour_height, group_rect, place_in, sent_in, section_in, numbered, sizes_before, Inside, Covers, Starts}

-- what the look-ups need of a frame, its table and the four lent tables
pub record Ready (f : Frame) (toc : Toc) (due sent : List ℕ) (t : Tables) : Type 0 where
  pub frame : (grid_of f).refusal.number ≡ 0
  pub count : toc.count ≡ (grid_of f).sections
  pub few : toc.count ≤ 65536
  pub order : is_order toc.count due ≡ true
  pub offsets_room : toc.count ≤ length t.offsets
  pub sizes_room : toc.count ≤ length t.sizes
  pub order_words : take toc.count t.order ≡ due
  pub inverse_words : take toc.count t.inverse ≡ inverse_of toc.count due
  pub offset : (j : ℕ) → j < toc.count → get_or t.offsets j 0 ≡ toc.bookmark + sent_before sent (get_or due j 0)
  pub size : (j : ℕ) → j < toc.count → get_or t.sizes j 0 ≡ get_or sent (get_or due j 0) 0

-- the first words of a table that was filled
pub take_filled : (new table : List ℕ) (n : ℕ) → length new ≡ n → n ≤ length table → take n (filled new table) ≡ new
unfolding filled
take_filled new table n e h = rw (take_all (length table) new (omega arith)) (take_at new (drop (length new) table) n e)

-- as an accepted call leaves them
module _ (s : List ℕ) (f : Frame) (t : Tables) (toc : Toc) (q : Reading) (a : Accepted s f t toc q) (o z p i : List ℕ)
    (d : Done q t (Table toc) o z p i) where
  offsets_length : length o ≡ length t.offsets
  unfolding tables_of
  offsets_length = ap length d.offsets ∙ ap (λ (x : Tables). length x.offsets) a.filled ∙ filled_length _ t.offsets

  sizes_length : length z ≡ length t.sizes
  unfolding tables_of
  sizes_length = ap length d.sizes ∙ ap (λ (x : Tables). length x.sizes) a.filled ∙ filled_length _ t.sizes

  order_taken : take toc.count p ≡ q.order
  unfolding tables_of
  order_taken =
      ap (take toc.count) (d.order ∙ ap (λ (x : Tables). x.order) a.filled)
      ∙ take_filled q.order t.order toc.count (order_length toc.count q.order a.order) a.room.order

  inverse_taken : take toc.count i ≡ inverse_of toc.count q.order
  unfolding tables_of
  inverse_taken =
      ap (take toc.count) (d.inverse ∙ ap (λ (x : Tables). x.inverse) a.filled)
      ∙ take_filled (inverse_of toc.count q.order) t.inverse toc.count (inverse_length toc.count q.order) a.room.inverse

  pub ready : Ready f toc q.order q.sizes (tables o z p i)
  ready =
      let w = written_words s f t toc q a o z p i d in
      record {
        frame = a.frame;
        count = a.count;
        few = a.few;
        order = a.order;
        offsets_room = omega (arith, offsets_length, a.room.offsets);
        sizes_room = omega (arith, sizes_length, a.room.sizes);
        order_words = order_taken;
        inverse_words = inverse_taken;
        offset = w.offsets;
        size = w.sizes;
      }

module _ (f : Frame) (toc : Toc) (due sent : List ℕ) (t : Tables) (r : Ready f toc due sent t) where
  -- a section's sent number
  pub sent_is : (j : SectionNumber) → j.0 < toc.count
      → ◌≡◌ {A = SentAnswer} (sent_in f toc t j) (record { sent = record { 0 = get_or due j.0 0 }; refusal = none })
  sent_is j l =
      ap (λ (l : List ℕ). sent_of_section f l j) r.order_words
      ∙ sym (sent_yes f due (grid_of f) refl j _ r.frame (sym (rw (← r.count) (sent_answer_lem toc.count due r.few r.order j l))))

  -- a sent number's section
  pub section_is : (k : SentNumber) → k.0 < toc.count
      → ◌≡◌ {A = SectionAnswer} (section_in f toc t k) (record { section = record { 0 = get_or (inverse_of toc.count due) k.0 0 }; refusal = none })
  section_is k l =
      ap (λ (l : List ℕ). section_of_sent f l k) r.inverse_words
      ∙ sym (back_yes f (inverse_of toc.count due) (grid_of f) refl k _ r.frame
      (sym (rw (← r.count) (section_answer_lem toc.count (inverse_of toc.count due) r.few (inverse_order toc.count due r.order) k l))))

  -- a section's place
  pub place_is : (j : SectionNumber) → j.0 < toc.count
      → ◌≡◌ {A = PlaceAnswer} (place_in f t j) (record { offset = get_or t.offsets j.0 0; size = get_or t.sizes j.0 0; refusal = none })
  place_is j l =
      let g : Measured = grid_of f in
      let o : ℕ = length t.offsets in
      let z : ℕ = length t.sizes in
      let low : ltb j.0 g.sections ≡ true = lt-ltb j.0 g.sections (omega (arith, r.count)) in
      let room : (leb g.sections o && leb g.sections z) ≡ true =
      and_both (le-leb g.sections o (omega (arith, r.count, r.offsets_room)))
      (le-leb g.sections z (omega (arith, r.count, r.sizes_room))) in
      let e = place_judged g o z j.0 r.frame true (sym room) none refl (judge_known g (ltb j.0 g.sections) none r.frame low refl) in
      sym (place_yes f t.offsets t.sizes j g refl none e refl)

  sent_number_lem : (j : SectionNumber) → j.0 < toc.count → (sent_in f toc t j).sent.0 ≡ get_or due j.0 0
  sent_number_lem j l = ap (λ (a : SentAnswer). a.sent.0) (sent_is j l)

  size_is : (j : SectionNumber) → j.0 < toc.count → (place_in f t j).size ≡ get_or sent (get_or due j.0 0) 0
  size_is j l = ap (λ (a : PlaceAnswer). a.size) (place_is j l) ∙ r.size j.0 l

  offset_is : (j : SectionNumber) → j.0 < toc.count → (place_in f t j).offset ≡ toc.bookmark + sent_before sent (get_or due j.0 0)
  offset_is j l = ap (λ (a : PlaceAnswer). a.offset) (place_is j l) ∙ r.offset j.0 l

  -- the sizes of all sections sent before one: by section, and as they were sent
  before_is : (j : SectionNumber) → j.0 < toc.count → sizes_before f toc t j ≡ sent_before sent (get_or due j.0 0)
  unfolding sent_before
  before_is j l =
      let m : ℕ = get_or due j.0 0 in
      let below : m < toc.count = order_below toc.count due r.order j.0 l in
      sum_ext toc.count
      (λ i. pick (ltb (sent_in f toc t (numbered i)).sent.0 (sent_in f toc t j).sent.0) (place_in f t (numbered i)).size 0)
      (λ i. pick (ltb (get_or due i 0) m) (get_or sent (get_or due i 0) 0) 0)
      (λ i h. rw (sent_number_lem (numbered i) h, sent_number_lem j l, size_is (numbered i) h))
      ∙ order_sum toc.count due r.order (λ k. pick (ltb k m) (get_or sent k 0) 0)
      ∙ sum_cut toc.count m (λ k. get_or sent k 0) (omega arith)

  -- a section starts where it is due
  pub starts : (j : SectionNumber) → j.0 < toc.count → Starts f toc sent t j
  starts j l = record {
    answered = ap (λ (a : PlaceAnswer). a.refusal) (place_is j l);
    offset = offset_is j l ∙ ap (λ (k : ℕ). toc.bookmark + k) (sym (before_is j l));
    offset_as_sent = offset_is j l ∙ ap (λ (k : ℕ). toc.bookmark + sent_before sent k) (sym (sent_number_lem j l));
    size = size_is j l ∙ ap (λ (k : ℕ). get_or sent k 0) (sym (sent_number_lem j l));
  }

-- ---- rectangles, of a frame that is not refused
module _ (f : Frame) (ok : (grid_of f).refusal.number ≡ 0) where
  pub width_answer : ◌≡◌ {A = Number} (colour_width f) (record { value = color_width f; refusal = none })
  unfolding laid
  width_answer = ap (λ (g : Measured). told g g.width) (accepted f ok).grid

  pub height_answer : ◌≡◌ {A = Number} (colour_height f) (record { value = color_height f; refusal = none })
  unfolding laid
  height_answer = ap (λ (g : Measured). told g g.height) (accepted f ok).grid

  pub width_is : (colour_width f).value ≡ color_width f
  width_is = ap (λ (n : Number). n.value) width_answer

  pub height_is : (colour_height f).value ≡ color_height f
  height_is = ap (λ (n : Number). n.value) height_answer

  pub some_sample : (0 < color_width f) × (0 < color_height f)
  some_sample = ((accepted f ok).width, (accepted f ok).height)

  side_is : (grid_of f).side ≡ group_side f
  unfolding laid
  side_is = ap (λ (g : Measured). g.side) (accepted f ok).grid

  -- `group_rect` answers for the groups below the count
  pub rect_is : (i : ℕ) → i < count (color_width f) (color_height f) (group_side f)
      → ◌≡◌ {A = Placed} (group_rect f i) (record { rect = rect_of (color_width f) (color_height f) (group_side f) i; refusal = none })
  rect_is i l = ap (λ (d : ℕ). rect_for (grid_of f) d i) side_is ∙ rect_answer f ok (group_side f) i l

  pub has_group_lem : (i : ℕ) → (group_rect f i).refusal ≡ none → i < count (color_width f) (color_height f) (group_side f)
  unfolding rect_for placed has laid
  has_group_lem i e =
      let g : Measured = grid_of f in
      let known = (judged g (has g g.side i) (ap (λ (r : Refusal). r.number) e)).1 in
      ltb-true i (count (color_width f) (color_height f) (group_side f)) (rw (accepted f ok).grid at known)

  -- a sample in the rectangle that is answered for a group lies in the rectangle of the definition, and the other way round
  pub covered : (x y i : ℕ) → Covers f x y i → In (rect_of (color_width f) (color_height f) (group_side f) i) x y
  covered x y i c =
      let at : Inside (rect_of (color_width f) (color_height f) (group_side f) i) x y = rw (rect_is i (has_group_lem i c.answered)) at c.inside in
      record { left = at.left; right = at.right; top = at.top; bottom = at.bottom }

  pub covers : (x y i : ℕ) → i < count (color_width f) (color_height f) (group_side f) → In (rect_of (color_width f) (color_height f) (group_side f) i) x y
      → Covers f x y i
  covers x y i l at = record {
    answered = ap (λ (p : Placed). p.refusal) (rect_is i l);
    inside = rw (rect_is i l) (record { left = at.left; right = at.right; top = at.top; bottom = at.bottom });
  }

  -- a clipped rectangle holds no sample outside the picture
  pub clipped_in : (w h side i x y : ℕ) → In (rect_of w h side i) x y → (x < w) × (y < h)
  unfolding clipped cell_of
  clipped_in w h side i x y at = (omega (arith, at.left, at.right), omega (arith, at.top, at.bottom))
