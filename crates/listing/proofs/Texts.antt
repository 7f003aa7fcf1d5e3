-- Laws of the functions that write a text: what they answer where it fits, and where something is refused.
use Rattle.std.proofs.Common.{ℕ, ◌≤◌, ◌<◌, arith, ◌≡◌, refl, sym, ◌∙◌, ap, ◌⊎◌, inl, inr, Bool, true, false, ◌&&◌, List, leb, ltb, eqb, length, get_or, take, length-take, eq-eqb, ne_eqb, le-leb, Result, Ok, Err}
use mathlib.Core.Logic.{by_cases}
use native.Mathlib.Decide.{dec_le}
use mathlib.Core.Bool.{and-false}
use lib.Seq.{sets, length-sets}
use borrow.Author.Tests.{lt-leb}
use Rattle.bits.specs.declared.Refusal.{Refusal}
use Rattle.bits.specs.Refusals.{pick, refusal, none}
use Rattle.grid.specs.declared.Frame.{Frame}
use Rattle.grid.specs.Measured.{Measured, grid_of}
use Rattle.order.specs.Order.{checked, is_order}
use Rattle.order.specs.Sums.{sum_to}
use Rattle.listing.specs.Put.{Texted, fitted, answer_by}
use Rattle.listing.specs.Private.{Put}
use Rattle.listing.specs.Text.{heading, rows_from, total_text}
use Rattle.listing.specs.Listed.{row_at, listing, listing_text, listing_refusal}
use Rattle.listing.proofs.Putting.{then, named}

-- a refusal: the bytes stay
texted_no : (r q : Refusal) (text out : List ℕ) → q ≡ r → (q.number ≡ 0 → ⊥) → Texted r text out (Err q) out
unfolding answer_by
texted_no r q text out e h = record { answer = sym (rw (← e, ne_eqb q.number 0 h)); bytes = sym (rw (← e, ne_eqb q.number 0 h)) }

-- none: the text is put
texted_yes : {out' : List ℕ} {n : ℕ} (r : Refusal) (text out : List ℕ) → none ≡ r → Put out 0 text out' n → Texted r text out (Ok n) out'
unfolding answer_by
texted_yes {out'} {n} r text out e p =
    let long : n ≡ length text = omega (arith, p.behind) in
    record { answer = rw (← e, long); bytes = rw (← e) p.bytes }

three : (r : Refusal) → r ≡ refusal 3 0 → r.number ≡ 0 → ⊥
three r e z = omega (arith, sym (ap (λ (x : Refusal). x.number) e) ∙ z)

-- a line alone, measured first
module _ {l m : List ℕ} {n : ℕ} (text out : List ℕ) (p : Put l 0 text m n) where
  pub line_short : (q : Refusal) → length out < n → q ≡ refusal 3 0 → Texted (fitted text out) text out (Err q) out
  line_short q h e =
      let short : length out < length text = omega (arith, p.behind) in
      texted_no (fitted text out) q text out (e ∙ sym (rw (lt-leb (length text) (length out) short))) (three q e)

  pub line_fits : {out' : List ℕ} {k : ℕ} → n ≤ length out → Put out 0 text out' k → Texted (fitted text out) text out (Ok k) out'
  line_fits h q =
      let fits : length text ≤ length out = omega (arith, p.behind) in
      texted_yes (fitted text out) text out (sym (rw (le-leb (length text) (length out) fits))) q

none_of : (a b : Bool) → (pick a (refusal 10 0) (pick b none (refusal 13 0))).number ≡ 0 → pick a (refusal 10 0) (pick b none (refusal 13 0)) ≡ none
none_of true b e = absurd (omega arith)
none_of false true e = refl
none_of false false e = absurd (omega arith)

checked_none : (count : ℕ) (order : List ℕ) → (checked count order).number ≡ 0 → checked count order ≡ none
unfolding checked
checked_none count order e = none_of (ltb 65536 count) (is_order count order) e

-- a text of the measured length
put_long : {l m a : List ℕ} {n : ℕ} → Put l 0 a m n → n ≡ length a
put_long p = omega (arith, p.behind)

pub heading_small : {l m : List ℕ} {n : ℕ} → Put l 0 heading m n → n ≤ 4096
unfolding heading
heading_small p = omega (arith, p.behind)

pub listing_put : {l m n k : List ℕ} {a b c d : ℕ} (count : ℕ) (f : Frame) (offsets sizes order : List ℕ) (total : ℕ) → Put l 0 heading m a
    → Put m a (rows_from (row_at f offsets sizes order) count 0) n b × (b ≤ d) → total ≡ sum_to count (λ i. get_or sizes i 0) → Put n b (total_text total) k c
    → Put l 0 (listing_text count f offsets sizes order) k c
unfolding listing_text
listing_put count f offsets sizes order total p q e r = then p (then q.0 (named (ap total_text e) r))

-- the ways out of the listing
module _ (f : Frame) (g : Measured) (m : g ≡ grid_of f) (offsets sizes order out : List ℕ) where
  abbrev Listed : Result ℕ Refusal → List ℕ → Type 0
  Listed a after = Texted (listing_refusal f offsets sizes order out) (listing f offsets sizes order) out a after

  pub write_own : (g.refusal.number ≡ 0 → ⊥) → Listed (Err g.refusal) out
  unfolding listing_refusal
  write_own h = texted_no _ g.refusal (listing f offsets sizes order) out (sym (rw (← m, ne_eqb g.refusal.number 0 h))) h

  module _ {l l' : List ℕ} {n : ℕ} (z : g.refusal.number ≡ 0) (p : Put l 0 (listing_text g.sections f offsets sizes order) l' n) where
    -- something is too short
    short : (b : Bool) → b ≡ ((leb g.sections (length offsets) && leb g.sections (length sizes)) && leb n (length out)) → b ≡ false
        → (q : Refusal) → q ≡ refusal 3 0 → Listed (Err q) out
    unfolding listing_refusal
    short b eb h q e =
        let long : n ≡ length (listing_text g.sections f offsets sizes order) = put_long p in
        texted_no _ q (listing f offsets sizes order) out (e ∙ sym (rw (← m, eq-eqb g.refusal.number 0 z, ← long, ← eb, h))) (three q e)

    pub write_short : (length offsets < g.sections) ⊎ ((g.sections ≤ length offsets × length sizes < g.sections)
        ⊎ (g.sections ≤ length offsets × g.sections ≤ length sizes × length out < n)) → (q : Refusal) → q ≡ refusal 3 0 → Listed (Err q) out
    write_short (inl h) q e = short _ refl (rw (lt-leb g.sections (length offsets) h)) q e
    write_short (inr (inl w)) q e = short _ refl (rw (lt-leb g.sections (length sizes) w.1, and-false (leb g.sections (length offsets)))) q e
    write_short (inr (inr w)) q e =
        short _ refl (rw (lt-leb n (length out) w.2, and-false (leb g.sections (length offsets) && leb g.sections (length sizes)))) q e

    module _ (o : g.sections ≤ length offsets) (s : g.sections ≤ length sizes) (h : n ≤ length out) (q : Refusal) (e : q ≡ checked g.sections order) where
      is : q ≡ listing_refusal f offsets sizes order out
      unfolding listing_refusal
      is =
          let long : n ≡ length (listing_text g.sections f offsets sizes order) = put_long p in
          e ∙ sym (rw (← m, eq-eqb g.refusal.number 0 z, ← long, le-leb g.sections (length offsets) o, le-leb g.sections (length sizes) s, le-leb n (length out) h))

      pub write_bad : (q.number ≡ 0 → ⊥) → Listed (Err q) out
      write_bad y = texted_no _ q (listing f offsets sizes order) out is y

      pub write_all : {out' : List ℕ} {k : ℕ} → q.number ≡ 0 → Put out 0 (listing_text g.sections f offsets sizes order) out' k → Listed (Ok k) out'
      write_all y w =
          let clear : q ≡ none = e ∙ checked_none g.sections order (sym (ap (λ (x : Refusal). x.number) e) ∙ y) in
          texted_yes _ (listing f offsets sizes order) out (sym clear ∙ is) (named (ap (λ (x : Measured). listing_text x.sections f offsets sizes order) m) w)

-- a text that was written lies within the lent bytes
put_size : (b : Bool) (text out : List ℕ) → length (pick b (sets out 0 text) out) ≡ length out
put_size true text out = length-sets out 0 text
put_size false text out = refl

-- what the answer says of the text
module _ {out' : List ℕ} (text out : List ℕ) (a : Result ℕ Refusal) (w : Texted (fitted text out) text out a out') where
  pub texted_ok : (n : ℕ) → a ≡ Ok n → (fitted text out ≡ none) × (n ≡ length text)
  unfolding answer_by
  texted_ok n h =
      let is : answer_by (fitted text out) text ≡ Ok n = sym w.answer ∙ h in
      by_cases (dec_le (length text) (length out))
      (λ y. (rw (le-leb (length text) (length out) y), cc (rw (le-leb (length text) (length out) y) at is)))
      (λ y. absurd (cc (rw (lt-leb (length text) (length out) (omega (arith, y))) at is)))

  pub texted_err : (r : Refusal) → a ≡ Err r → (fitted text out ≡ r) × (fitted text out ≡ refusal 3 0)
  unfolding answer_by
  texted_err r h =
      let is : answer_by (fitted text out) text ≡ Err r = sym w.answer ∙ h in
      by_cases (dec_le (length text) (length out))
      (λ y. absurd (cc (rw (le-leb (length text) (length out) y) at is)))
      (λ y.
      let short : leb (length text) (length out) ≡ false = lt-leb (length text) (length out) (omega (arith, y)) in
      (rw short (cc (rw short at is)), rw short))

  pub texted_within : (n : ℕ) → a ≡ Ok n → n ≤ length out'
  texted_within n h =
      let same : length out' ≡ length out = ap length w.bytes ∙ put_size (eqb (fitted text out).number 0) text out in
      by_cases (dec_le (length text) (length out))
      (λ y. omega (arith, y, (texted_ok n h).1))
      (λ y.
      let short : refusal 3 0 ≡ none = sym (rw (lt-leb (length text) (length out) (omega (arith, y)))) ∙ (texted_ok n h).0 in
      absurd (omega (arith, ap (λ (x : Refusal). x.number) short)))

  pub texted_part : (n : ℕ) → a ≡ Ok n → n ≡ length (take n out')
  texted_part n h = omega (arith, texted_within n h, length-take n out')
