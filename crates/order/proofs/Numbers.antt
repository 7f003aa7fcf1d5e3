-- Laws of the two kinds of number: what looking up an order table answers.
use Prim.Native.Nat.{ℕ, ◌≤◌, ◌<◌}
use native.Mathlib.Omega.{arith}
use mathlib.Core.Path.{◌≡◌, sym, ◌∙◌}
use mathlib.Core.List.{List}
use mathlib.Core.Bool.{true}
use lib.ListN.{length, get_or}
use borrow.Author.Tests.{lt-ltb, le-ltb, ne_eqb}
use Rattle.bits.specs.declared.Refusal.{Refusal}
use Rattle.bits.specs.Refusals.{refusal, none, answered}
use Rattle.bits.proofs.Answered.{answered_yes, answered_ok, answered_err, answered_other}
use Rattle.std.specs.Prelude.{Result, Ok, Err}
use Rattle.order.specs.declared.SectionNumber.{SectionNumber}
use Rattle.order.specs.declared.SentNumber.{SentNumber}
use Rattle.order.specs.Order.{is_order, checked}
use Rattle.order.specs.Numbers.{Entry, SentAnswer, SectionAnswer, looked_up, entry_at, sent_of, section_of, word_or_refused, sent_or_refused, section_or_refused}
use Rattle.order.proofs.Checked.{checked_good, accepted, check_passed}
use Rattle.order.proofs.Reach.{order_length}

-- what a look-up says: the order's own refusal, 14, or the word
module _ (table : List ℕ) (count index : ℕ) where
  pub look_bad : (r : Refusal) → ◌≡◌ {A = Result (Unit {0}) Refusal} (Err r) (answered (checked count table) (tt {0})) → Err r ≡ word_or_refused (entry_at table count index)
  unfolding entry_at looked_up
  look_bad r e =
      let w = answered_err (checked count table) r (tt {0}) (sym e) in
      rw (ne_eqb (checked count table).number 0 w.0, ne_eqb (checked count table).number 0 w.0, w.1)

  module _ (u : Unit {0}) (e : Ok u ≡ answered (checked count table) (tt {0})) where
    pub look_past : count ≤ index → Err (refusal 14 0) ≡ word_or_refused (entry_at table count index)
    unfolding entry_at looked_up
    look_past h = simp (← check_passed count table u e, le-ltb index count h)

    pub look_inside : index < count → index < length table
    look_inside h = omega (arith, order_length count table (accepted count table (answered_ok (checked count table) (tt {0}) u (sym e)).0).1)

    pub look_found : index < count → Ok (get_or table index 0) ≡ word_or_refused (entry_at table count index)
    unfolding entry_at looked_up
    look_found h = simp (← check_passed count table u e, lt-ltb index count h)

-- the same under its own kind
pub sent_bad : (order : List ℕ) (count : ℕ) (section : SectionNumber) (r : Refusal) → Err r ≡ word_or_refused (entry_at order count section.0)
    → Err r ≡ sent_or_refused (sent_of order count section)
unfolding sent_of
sent_bad order count section r e = sym (answered_other _ r _ _ (sym e))

pub section_bad : (inverse : List ℕ) (count : ℕ) (sent : SentNumber) (r : Refusal) → Err r ≡ word_or_refused (entry_at inverse count sent.0)
    → Err r ≡ section_or_refused (section_of inverse count sent)
unfolding section_of
section_bad inverse count sent r e = sym (answered_other _ r _ _ (sym e))

pub sent_found : (order : List ℕ) (count : ℕ) (section : SectionNumber) (word : ℕ) → Ok word ≡ word_or_refused (entry_at order count section.0)
    → Ok (record { 0 = word }) ≡ sent_or_refused (sent_of order count section)
unfolding sent_of
sent_found order count section word e =
    let w = answered_ok _ _ word (sym e) in
    sym (answered_yes _ _ w.0 ∙ rw w.1)

pub section_found : (inverse : List ℕ) (count : ℕ) (sent : SentNumber) (word : ℕ) → Ok word ≡ word_or_refused (entry_at inverse count sent.0)
    → Ok (record { 0 = word }) ≡ section_or_refused (section_of inverse count sent)
unfolding section_of
section_found inverse count sent word e =
    let w = answered_ok _ _ word (sym e) in
    sym (answered_yes _ _ w.0 ∙ rw w.1)

-- through an order of at most 65,536 sections
module _ (count : ℕ) (l : List ℕ) (small : count ≤ 65536) (o : is_order count l ≡ true) where
  entry_found : (i : ℕ) → i < count → ◌≡◌ {A = Entry} (entry_at l count i) (record { word = get_or l i 0; refusal = none })
  unfolding entry_at looked_up
  entry_found i h = simp (← checked_good count l small o, lt-ltb i count h)

  pub sent_answer_lem : (s : SectionNumber) → s.0 < count
      → ◌≡◌ {A = SentAnswer} (sent_of l count s) (record { sent = record { 0 = get_or l s.0 0 }; refusal = none })
  unfolding sent_of
  sent_answer_lem s h = rw (entry_found s.0 h)

  pub section_answer_lem : (k : SentNumber) → k.0 < count
      → ◌≡◌ {A = SectionAnswer} (section_of l count k) (record { section = record { 0 = get_or l k.0 0 }; refusal = none })
  unfolding section_of
  section_answer_lem k h = rw (entry_found k.0 h)
