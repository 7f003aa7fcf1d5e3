-- Laws of sizes out of bits that are known.
use Rattle.std.proofs.Common.{◌≡◌, ℕ, zero, suc, ◌+◌, ◌-◌, ◌*◌, ◌/◌, ◌%◌, ◌^◌, ◌<◌, ◌≤◌, min, Bool, true, false, not, ◌&&◌, eqb, leb, List, sym, refl, ap, ◌∙◌, true≢false, mod-lt, mod-eq_of_lt, arith, lit<, lit≤, ne_eqb, leb-true}
use borrow.Author.Tests.{not-false}
use Rattle.bits.specs.declared.Read.{Read}
use Rattle.bits.specs.declared.Choice.{Choice}
use Rattle.bits.specs.declared.Cursor.{Cursor}
use Rattle.bits.specs.declared.window.Ahead.{Ahead}
use Rattle.bits.specs.declared.view.View.{View}
use Rattle.bits.specs.declared.view.Seen.{Seen}
use Rattle.bits.specs.Refusals.{start, clear}
use Rattle.bits.specs.Bits.{bit_count, ahead}
use Rattle.bits.specs.View.{seen, seen_choice}
use Rattle.bits.specs.Codec.{u32, chosen, field}
use Rattle.bits.proofs.Bits.{and_left, and_right}
use Rattle.bits.proofs.Reading.{of_both}
use Rattle.bits.proofs.Windows.{whole_reaches}
use Rattle.bits.proofs.Views.{Held, held_less, held_ahead, field_of, see_choice}
use Rattle.bits.proofs.Steps.{field_place}
use Rattle.toc.specs.declared.reading.Pair.{Pair}
use Rattle.toc.specs.Sizes.{size_choices}
use Rattle.toc.specs.Private.{seen_size, Two}

-- four bytes of one number are the four widths
pub size_widths : (k : ℕ) → k < 4 → 504761866 / 2 ^ (8 * k) % 2 ^ 8 ≡ (chosen size_choices k).bits
size_widths zero h = refl
size_widths (suc zero) h = refl
size_widths (suc (suc zero)) h = refl
size_widths (suc (suc (suc zero))) h = refl
size_widths (suc (suc (suc (suc k)))) h = absurd (omega (arith, h))

-- the last choice is that of every other selector
pub last_base : (k : ℕ) → (k ≡ 0 → ⊥) → (k ≡ 1 → ⊥) → (k ≡ 2 → ⊥) → 4211712 ≡ (chosen size_choices k).base
last_base k a b c = rw (ne_eqb k 0 a, ne_eqb k 1 b, ne_eqb k 2 c) refl

size_narrow : (k : ℕ) → (chosen size_choices k).bits ≤ 30
size_narrow k =
    let narrow : Choice → Type 0 = λ c. c.bits ≤ 30 in
    of_both narrow (eqb k 0) _ _ (lit≤ tt) (of_both narrow (eqb k 1) _ _ (lit≤ tt) (of_both narrow (eqb k 2) _ _ (lit≤ tt) (lit≤ tt)))

pub selector_lt : (w : View) (k : Seen) → k ≡ seen w true 2 → k.value < 4
unfolding seen
selector_lt w k e = rw e (mod-lt w.bits (lit< tt))

-- a size as it is put together
pub sized_is : (w : View) (k : Seen) (b n : ℕ) (r : Seen) → k ≡ seen w true 2 → b ≡ (chosen size_choices k.value).base → n ≡ (chosen size_choices k.value).bits
    → r ≡ seen_choice k (record { base = b; bits = n }) → r ≡ seen_size w
unfolding seen_size
sized_is w k b n r ek eb en er = er ∙ rw (eb, en, ek)

-- how many bits a size takes
abbrev width : View → ℕ
width w = 2 + (chosen size_choices (w.bits % 4)).bits

module _ (w : View) (r : Seen) (e : r ≡ seen_size w) where
  size_end : w.at < 2 ^ 32 → r.rest.at ≡ w.at + width w
  unfolding seen_size seen_choice seen
  size_end h =
      let few = size_narrow (w.bits % 4) in
      let all : min (chosen size_choices (w.bits % 4)).bits 32 ≡ (chosen size_choices (w.bits % 4)).bits = omega (arith, few) in
      let first : (w.at + 2) % 2 ^ 64 ≡ w.at + 2 = mod-eq_of_lt (omega (arith, h)) in
      let last : (w.at + 2 + (chosen size_choices (w.bits % 4)).bits) % 2 ^ 64 ≡ w.at + 2 + (chosen size_choices (w.bits % 4)).bits = mod-eq_of_lt (omega (arith, h, few)) in
      ap (λ (x : Seen). x.rest.at) e ∙ rw (all, first) (last ∙ omega arith)

  -- where so many bits are known, what is seen is what the field reads
  size_seen : (s : List ℕ) (m : ℕ) → width w ≤ m → Held s w m → (field_of r ≡ field s true (u32 size_choices) 0 (start w.at)) × Held s r.rest (m - width w)
  unfolding seen_size seen
  size_seen s m enough held =
      let few = size_narrow (w.bits % 4) in
      let ch = chosen size_choices (w.bits % 4) in
      see_choice s w true size_choices (m - width w) (λ off. absurd (true≢false off)) (seen w true 2) refl ch refl (omega (arith, few))
      (held_less s w m (2 + (ch.bits + (m - width w))) (omega arith) held)
      r e

-- two sizes out of one look ahead
module _ (s : List ℕ) (c : Cursor) (on i : Bool) (ei : i ≡ not (on && clear c)) (go : i ≡ false) (a : Ahead) (ea : a ≡ ahead s c.at) (x y : Seen)
    (ex : x ≡ seen_size (record { bits = a.bits; at = c.at })) (ey : y ≡ seen_size x.rest) (both : ℕ) (eb : (both + c.at) % 2 ^ 64 ≡ y.rest.at)
    (whole : a.whole ≡ true) (near : both ≤ 56)
  where
    abbrev first : View
    first = record { bits = a.bits; at = c.at }

    room : c.at + 56 ≤ bit_count s
    room = whole_reaches s c.at 56 a.whole (ap (λ (z : Ahead). z.whole) ea) whole (omega arith)

    narrow : (w : View) → width w ≤ 32
    narrow w = omega (arith, size_narrow (w.bits % 4))

    between : x.rest.at ≡ c.at + width first
    between = size_end first x ex (omega (arith, room))

    behind : y.rest.at ≡ c.at + width first + width x.rest
    behind = size_end x.rest y ey (omega (arith, room, between, narrow first)) ∙ omega (arith, between)

    fits : width first + width x.rest ≤ 56
    fits =
        let exact : (both + c.at) % 2 ^ 64 ≡ both + c.at = mod-eq_of_lt (omega (arith, room, near)) in
        omega (arith, near, sym exact ∙ eb, behind)

    pub pair_two : (p : Pair) → p ≡ record { first = x.value; second = y.value; at = y.rest.at } → Two s c on p
    pair_two p ep =
        let asked : on ≡ true = and_left on (clear c) (not-false (on && clear c) (sym ei ∙ go)) in
        let one = size_seen first x ex s 56 (omega (arith, fits)) (held_ahead s c.at 56 a ea whole (omega arith)) in
        let two = size_seen x.rest y ey s (56 - width first) (omega (arith, fits)) one.1 in
        let here : field_of x ≡ field s true (u32 size_choices) 0 c = one.0 ∙ field_place s true (u32 size_choices) 0 c i (rw asked at ei) go in
        rw ep
        (record {
          wanted = asked;
          first = ap (λ (f : Read ℕ). f.value) here;
          second = two.0 ∙ ap (λ (f : Read ℕ). field s true (u32 size_choices) 0 f.next) here;
        })
