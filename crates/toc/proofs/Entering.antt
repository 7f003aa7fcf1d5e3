-- Laws of the two entries: what each way out promises of the answer and of the four tables.
use Rattle.std.proofs.Common.{◌≡◌, ℕ, ◌/◌, ◌≤◌, Bool, true, false, eqb, List, [], length, take, sym, refl, ap, ◌∙◌, le_refl, arith, take_all, eq-eqb, ne_eqb}
use Rattle.bits.specs.declared.Read.{Read}
use Rattle.bits.specs.declared.Refusal.{Refusal}
use Rattle.bits.specs.declared.Cursor.{Cursor}
use Rattle.std.specs.Prelude.{Err}
use Rattle.bits.specs.Refusals.{pick, start, answered}
use Rattle.bits.proofs.Answered.{answered_err}
use Rattle.bits.specs.Codec.{bool, field}
use Rattle.bits.specs.Table.{Table as Rows, ends, read, bind, within}
use Rattle.bits.proofs.Tables.{read_bind, read_within}
use Rattle.grid.specs.declared.Frame.{Frame}
use Rattle.grid.specs.Measured.{Measured, grid_in, grid_of}
use Rattle.order.specs.Order.{is_order, checked}
use Rattle.order.specs.Tables.{tabulate, identity, inverse_of, filled}
use Rattle.order.specs.Private.{placed, placed_by}
use Rattle.order.proofs.Checked.{number, accepted}
use Rattle.order.proofs.Reach.{order_length}
use Rattle.order.proofs.Inverse.{identity_inverse}
use Rattle.order.proofs.Placed.{placed_inverse}
use Rattle.toc.specs.declared.reading.Walk.{Walk}
use Rattle.toc.specs.declared.Toc.{Toc}
use Rattle.toc.specs.Sizes.{Sent, size_rows, toc_rows}
use Rattle.toc.specs.Private.{size_at, offset_at, padded, walked, Room, order_by, sized_reading}
use Rattle.toc.specs.Reading.{TocAnswer, Table, OrderNeeded, Refused, toc_numbers, Tables, roomy, judged_by, judged, judged_order, Reading, toc_of, sized_answer, first_read, second_read, refused_read, first_reading, second_reading, tables_of, written, after, Done}
use Rattle.toc.proofs.Walking.{rows_read}
use Rattle.toc.proofs.Judging.{room_parts, Fair, judged_fair}
use Rattle.toc.proofs.Filling.{sent_before_lem, placed_by_section, offsets_by_lem, sizes_by_lem}

-- ---- the reading of the rows

-- the rows after the flag
plain : ℕ → ℕ → Rows Sent Sent
plain count flag = bind (within (λ r. r.sizes) (size_rows count)) λ sizes. ends (record { permuted = flag; sizes = sizes })

module _ (s : List ℕ) (c : Cursor) (count : ℕ) (flag : Read ℕ) (e : flag ≡ field s true bool 0 c) where
  rows_after : read (toc_rows count) s c ≡ read (pick (eqb flag.value 0) (plain count flag.value) (ends (record { permuted = flag.value; sizes = [] }))) s flag.next
  unfolding read toc_rows plain
  rows_after =
      ap (λ (x : Read ℕ). read (pick (eqb x.value 0) (plain count x.value) (ends (record { permuted = x.value; sizes = [] }))) s x.next) (sym e)

  pub rows_permuted : (flag.value ≡ 0 → ⊥)
      → ◌≡◌ {A = Read Sent} (read (toc_rows count) s c) (record { value = record { permuted = flag.value; sizes = [] }; next = flag.next })
  unfolding read
  rows_permuted h =
      rows_after
      ∙ ap (λ (b : Bool). read (pick b (plain count flag.value) (ends (record { permuted = flag.value; sizes = [] }))) s flag.next) (ne_eqb flag.value 0 h)

  pub rows_plain : flag.value ≡ 0
      → ◌≡◌ {A = Read Sent} (read (toc_rows count) s c)
      (record { value = record { permuted = flag.value; sizes = tabulate count (size_at s (padded s flag.next)) }; next = (walked s flag.next count).last })
  unfolding read plain
  rows_plain h =
      let end : List ℕ → Rows Sent Sent = λ sizes. ends (record { permuted = flag.value; sizes = sizes }) in
      rows_after
      ∙ ap (λ (b : Bool). read (pick b (plain count flag.value) (ends (record { permuted = flag.value; sizes = [] }))) s flag.next) (eq-eqb flag.value 0 h)
      ∙ read_bind (within (λ (r : Sent). r.sizes) (size_rows count)) end s flag.next
      ∙ ap (λ (o : Read (List ℕ)). read (end o.value) s o.next) (read_within (λ (r : Sent). r.sizes) (size_rows count) s flag.next ∙ rows_read s flag.next count)

-- ---- what an entry promises, by its answer

pub done_kept : (q : Reading) (t : Tables) (a : TocAnswer) → q.answer ≡ a → ((z l : List ℕ) → written a z l t ≡ t)
    → Done q t a t.offsets t.sizes t.order t.inverse
done_kept q t a e same =
    let stays : after q t ≡ t = ap (λ (x : TocAnswer). written x q.sizes q.order t) e ∙ same q.sizes q.order in
    record {
      answer = ap toc_numbers (sym e);
      offsets = sym (ap (λ (x : Tables). x.offsets) stays);
      sizes = sym (ap (λ (x : Tables). x.sizes) stays);
      order = sym (ap (λ (x : Tables). x.order) stays);
      inverse = sym (ap (λ (x : Tables). x.inverse) stays);
    }

kept_refused : (t : Tables) (r : Refusal) (z l : List ℕ) → written (Refused r) z l t ≡ t
unfolding written
kept_refused t r z l = refl

kept_needed : (t : Tables) (p : ℕ) (z l : List ℕ) → written (OrderNeeded p) z l t ≡ t
unfolding written
kept_needed t p z l = refl

-- a reading with an order l, from the padding at c on
pub sized_reading_lem : (s : List ℕ) (c : Cursor) (count : ℕ) (l : List ℕ) → sized_reading s c count l
    ≡ record { answer = sized_answer count (tabulate count (size_at s (padded s c))) (walked s c count).last; order = l; sizes = tabulate count (size_at s (padded s c)) }
unfolding sized_reading second_read
sized_reading_lem s c count l = rw (rows_read s c count)

module _ (s : List ℕ) (c : Cursor) (count : ℕ) (l : List ℕ) (w : Walk) (ew : w ≡ walked s c count) (t : Tables) where
  abbrev q : Reading
  q = sized_reading s c count l

  answer_is : q.answer ≡ sized_answer count (tabulate count (size_at s (padded s c))) w.last
  answer_is = ap (λ (x : Reading). x.answer) (sized_reading_lem s c count l) ∙ rw ew

  pub done_fault : (w.last.fault.number ≡ 0 → ⊥) → Done q t (Refused w.last.fault) t.offsets t.sizes t.order t.inverse
  unfolding sized_answer
  done_fault h = done_kept q t (Refused w.last.fault) (answer_is ∙ rw (ne_eqb w.last.fault.number 0 h)) (kept_refused t w.last.fault)

  toc_is : w.last.fault.number ≡ 0
      → sized_answer count (tabulate count (size_at s (padded s c))) w.last ≡ Table (record { count = count; bookmark = w.last.at / 8; total_byte_size = w.total })
  unfolding sized_answer toc_of walked
  toc_is h = rw (eq-eqb w.last.fault.number 0 h, sent_before_lem count (size_at s (padded s c)) count (le_refl count), ew)

  toc_at : w.last.fault.number ≡ 0
      → sized_answer count (tabulate count (size_at s (padded s c))) (walked s c count).last ≡ Table (record { count = count; bookmark = w.last.at / 8; total_byte_size = w.total })
  toc_at h = rw (← ew) (toc_is h)

  walk_first : w.first ≡ padded s c
  unfolding walked
  walk_first = ap (λ (x : Walk). x.first) ew

  pub done_table : is_order count l ≡ true → Room count (length t.offsets) (length t.sizes) (length t.order) (length t.inverse) → w.last.fault.number ≡ 0
      → (o' s' p' i' : List ℕ) → p' ≡ filled l t.order → i' ≡ filled (inverse_of count l) t.inverse
      → o' ≡ placed_by (offset_at s w.first (w.last.at / 8)) 0 (take count i') t.offsets
      → s' ≡ placed_by (size_at s w.first) 0 (take count i') t.sizes
      → Done q t (Table (record { count = count; bookmark = w.last.at / 8; total_byte_size = w.total })) o' s' p' i'
  unfolding written tables_of
  done_table o room h o' s' p' i' ep ei eo es =
      let z : List ℕ = tabulate count (size_at s (padded s c)) in
      let toc : Toc = record { count = count; bookmark = w.last.at / 8; total_byte_size = w.total } in
      let is : after q t ≡ tables_of toc z l t =
      ap (λ (x : Reading). after x t) (sized_reading_lem s c count l) ∙ ap (λ (a : TocAnswer). written a z l t) (toc_at h) in
      let eo' : o' ≡ placed_by (offset_at s (padded s c) (w.last.at / 8)) 0 (take count i') t.offsets = rw walk_first at eo in
      let es' : s' ≡ placed_by (size_at s (padded s c)) 0 (take count i') t.sizes = rw walk_first at es in
      record {
        answer = ap toc_numbers (sym (answer_is ∙ toc_is h));
        offsets =
            eo'
            ∙ placed_by_section count l o (offset_at s (padded s c) (w.last.at / 8)) t.inverse i' t.offsets ei room.inverse room.offsets
            ∙ ap (λ (m : List ℕ). filled m t.offsets) (offsets_by_lem count l o s (padded s c) (w.last.at / 8))
            ∙ sym (ap (λ (x : Tables). x.offsets) is);
        sizes =
            es'
            ∙ placed_by_section count l o (size_at s (padded s c)) t.inverse i' t.sizes ei room.inverse room.sizes
            ∙ ap (λ (m : List ℕ). filled m t.sizes) (sizes_by_lem count l o s (padded s c))
            ∙ sym (ap (λ (x : Tables). x.sizes) is);
        order = ep ∙ sym (ap (λ (x : Tables). x.order) is);
        inverse = ei ∙ sym (ap (λ (x : Tables). x.inverse) is);
      }

-- ---- the entries

module _ (s : List ℕ) (f : Frame) (place : ℕ) (t : Tables) (g : Measured) (m : g ≡ grid_of f) (room : Bool) (eroom : room ≡ roomy g.sections t) (r : Refusal)
    (er : r ≡ judged_by s g place room)
  where
    judged_is : r ≡ judged s (grid_of f) place t
    judged_is = rw (← m, ← eroom) er

    -- what an acceptance of the first checks says
    pub fair : r.number ≡ 0 → Fair s g place room
    fair z = judged_fair s g place room (rw er at z)

    pub roomed : r.number ≡ 0 → Room g.sections (length t.offsets) (length t.sizes) (length t.order) (length t.inverse)
    roomed z = room_parts g.sections (length t.offsets) (length t.sizes) (length t.order) (length t.inverse) (sym eroom ∙ (fair z).roomy)

    -- the first entry
    pub first_refused : (r.number ≡ 0 → ⊥) → Done (first_reading s f place t) t (Refused r) t.offsets t.sizes t.order t.inverse
    unfolding first_reading refused_read
    first_refused h =
        done_kept (first_reading s f place t) t (Refused r) (rw (← judged_is, ne_eqb r.number 0 h)) (kept_refused t r)

    module _ (z : r.number ≡ 0) (b : Cursor) (eb : b ≡ start place) (flag : Read ℕ) (ef : flag ≡ field s true bool 0 b) where
      first_goes : (out : Read Sent) → read (toc_rows g.sections) s b ≡ out → first_reading s f place t ≡ first_read g.sections out
      unfolding first_reading
      first_goes out eo = rw (← judged_is, eq-eqb r.number 0 z, ← m, ← eb, eo)

      pub first_needed : (flag.value ≡ 0 → ⊥) → Done (first_reading s f place t) t (OrderNeeded flag.next.at) t.offsets t.sizes t.order t.inverse
      unfolding first_read
      first_needed h =
          done_kept (first_reading s f place t) t (OrderNeeded flag.next.at)
          (ap (λ (x : Reading). x.answer) (first_goes _ (rows_permuted s b g.sections flag ef h)) ∙ rw (ne_eqb flag.value 0 h))
          (kept_needed t flag.next.at)

      pub first_is : flag.value ≡ 0
          → sized_reading s flag.next g.sections (identity g.sections) ≡ first_reading s f place t
      unfolding first_read sized_reading second_read
      first_is h = rw (rows_read s flag.next g.sections) (sym (first_goes _ (rows_plain s b g.sections flag ef h) ∙ rw (eq-eqb flag.value 0 h)))

    -- the second entry
    second_judged : (lent : List ℕ) (bad : Refusal) → bad ≡ checked g.sections lent → r.number ≡ 0 → bad ≡ judged_order s (grid_of f) place lent t
    unfolding judged_order
    second_judged lent bad e z = rw (← judged_is, eq-eqb r.number 0 z, ← m) e

    pub second_refused : (lent : List ℕ) → (r.number ≡ 0 → ⊥) → Done (second_reading s f place lent t) t (Refused r) t.offsets t.sizes t.order t.inverse
    unfolding second_reading refused_read judged_order
    second_refused lent h =
        done_kept (second_reading s f place lent t) t (Refused r) (rw (← judged_is, ne_eqb r.number 0 h) (rw (ne_eqb r.number 0 h))) (kept_refused t r)

    module _ (z : r.number ≡ 0) (lent : List ℕ) (bad : Refusal) (e : bad ≡ checked g.sections lent) where
      pub second_bad : (bad.number ≡ 0 → ⊥) → Done (second_reading s f place lent t) t (Refused bad) t.offsets t.sizes t.order t.inverse
      unfolding second_reading refused_read
      second_bad h =
          done_kept (second_reading s f place lent t) t (Refused bad) (rw (← second_judged lent bad e z, ne_eqb bad.number 0 h)) (kept_refused t bad)

      pub lent_order : bad.number ≡ 0 → is_order g.sections lent ≡ true
      lent_order h = (accepted g.sections lent (sym (ap number e) ∙ h)).1

      pub second_is : bad.number ≡ 0 → (b : Cursor) → b ≡ start place
          → sized_reading s b g.sections lent ≡ second_reading s f place lent t
      unfolding second_reading sized_reading
      second_is h b eb = rw (← second_judged lent bad e z, eq-eqb bad.number 0 h, ← m, ← eb)

-- an entry that is refused before it reads
module _ (s : List ℕ) (f : Frame) (place : ℕ) (t : Tables) (r : Refusal) (e : Err r ≡ answered (judged s (grid_of f) place t) (grid_of f).sections) where
  pub first_err : Done (first_reading s f place t) t (Refused r) t.offsets t.sizes t.order t.inverse
  first_err =
      let w = answered_err (judged s (grid_of f) place t) r (grid_of f).sections (sym e) in
      rw (← w.1) (first_refused s f place t (grid_of f) refl _ refl (judged s (grid_of f) place t) refl w.0)

  pub second_err : (lent : List ℕ) → Done (second_reading s f place lent t) t (Refused r) t.offsets t.sizes t.order t.inverse
  second_err lent =
      let w = answered_err (judged s (grid_of f) place t) r (grid_of f).sections (sym e) in
      rw (← w.1) (second_refused s f place t (grid_of f) refl _ refl (judged s (grid_of f) place t) refl lent w.0)

-- the orders that the entries write
module _ (lent : List ℕ) (count : ℕ) (order inverse p i : List ℕ) where
  pub orders_identity : (given : Bool) → given ≡ false → p ≡ filled (identity count) order → i ≡ filled (identity count) inverse
      → (p ≡ filled (order_by given lent count) order) × (i ≡ filled (inverse_of count (order_by given lent count)) inverse)
  orders_identity given e ep ei = rw e (ep, ei ∙ ap (λ (l : List ℕ). filled l inverse) (sym (identity_inverse count)))

  pub orders_lent : (given : Bool) → given ≡ true → is_order count (order_by given lent count) ≡ true → count ≤ length inverse
      → p ≡ filled (take count lent) order → i ≡ placed (take count lent) inverse
      → (p ≡ filled (order_by given lent count) order) × (i ≡ filled (inverse_of count (order_by given lent count)) inverse)
  orders_lent given e o fits ep ei =
      let ok : is_order count lent ≡ true = rw e at o in
      rw e (ep ∙ ap (λ (m : List ℕ). filled m order) (take_all count lent (omega (arith, order_length count lent ok))), ei ∙ placed_inverse count lent inverse ok fits)
