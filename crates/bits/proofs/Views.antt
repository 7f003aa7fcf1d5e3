-- Laws of bits that are known: what is seen of them is what a field reads.
use Rattle.std.proofs.Common.{◌≡◌, ℕ, ◌+◌, ◌-◌, ◌/◌, ◌%◌, ◌^◌, ◌≤◌, min, Bool, true, false, not, List, refl, ap, ◌∙◌, add-zero, mod-eq_of_lt, div-one, arith, le-leb}
use native.Mathlib.Nat.{mod-one}
use borrow.Author.Tests.{not-true, not-false}
use Rattle.bits.specs.declared.Read.{Read}
use Rattle.bits.specs.declared.Choice.{Choice}
use Rattle.bits.specs.declared.Choices.{Choices}
use Rattle.bits.specs.declared.window.Ahead.{Ahead}
use Rattle.bits.specs.declared.view.View.{View}
use Rattle.bits.specs.declared.view.Seen.{Seen}
use Rattle.bits.specs.Refusals.{start}
use Rattle.bits.specs.Bits.{bits_at, bit_count, ahead}
use Rattle.bits.specs.View.{seen, seen_choice}
use Rattle.bits.specs.Steps.{run}
use Rattle.bits.specs.Codec.{u, u32, field, val, chosen}
use Rattle.bits.proofs.Windows.{low_of, high_of, whole_reaches}
use Rattle.bits.proofs.Codecs.{u32_seen}

-- as the code has it: nothing is asked for, or the lowest bits are cut off
module _ (w : View) (on : Bool) (n : ℕ) where
  pub seen_none : not on ≡ true → ◌≡◌ {A = Seen} (record { value = 0; rest = w }) (seen w on n)
  unfolding seen
  seen_none h = rw (not-true on h)

  pub seen_some : not on ≡ false → (k v at : ℕ) → k ≡ min n 32 → v ≡ w.bits % 2 ^ min k 32 → at ≡ (w.at + k) % 2 ^ 64
      → ◌≡◌ {A = Seen} (record { value = v; rest = record { bits = w.bits / 2 ^ k; at = at } }) (seen w on n)
  unfolding seen
  seen_some h k v at ek ev ea =
      let all : min k 32 ≡ k = omega (arith, ek) in
      rw (not-false on h, ev, ea, all, ek)

pub choice_is : (selector : Seen) (c : Choice) (x : Seen) (v : ℕ) → x ≡ seen selector.rest true c.bits → v ≡ (c.base + x.value) % 2 ^ 32
    → ◌≡◌ {A = Seen} (record { value = v; rest = x.rest }) (seen_choice selector c)
unfolding seen_choice
choice_is selector c x v ex ev = rw (ev, ex)

-- at least m bits are known, and they are there
pub record Held (s : List ℕ) (w : View) (m : ℕ) : Type 0 where
  pub count : ℕ
  pub enough : m ≤ count
  pub bits : w.bits ≡ bits_at s w.at count
  pub room : w.at + count ≤ bit_count s

pub held_less : (s : List ℕ) (w : View) (m n : ℕ) → n ≤ m → Held s w m → Held s w n
held_less s w m n h k = record { count = k.count; enough = omega (arith, k.enough); bits = k.bits; room = k.room }

-- one look ahead, where all of it is there
pub held_ahead : (s : List ℕ) (p m : ℕ) (a : Ahead) → a ≡ ahead s p → a.whole ≡ true → m ≤ 56 → Held s (record { bits = a.bits; at = p }) m
unfolding ahead
held_ahead s p m a e t h =
    record {
      count = 56;
      enough = h;
      bits = ap (λ (x : Ahead). x.bits) e;
      room = whole_reaches s p 56 a.whole (ap (λ (x : Ahead). x.whole) e) t (omega arith);
    }

-- a number that was seen, as a field
abbrev pub field_of : Seen → Read ℕ
field_of r = record { value = r.value; next = start r.rest.at }

module _ (s : List ℕ) where
  -- n bits, and m more behind them
  see_by : (w : View) (on : Bool) (n m : ℕ) → n ≤ 32 → Held s w (n + m) → (field_of (seen w on n) ≡ field s on (u n) 0 (start w.at)) × Held s (seen w on n).rest m
  unfolding seen field run
  see_by w false n m h k = (refl, held_less s w (n + m) m (omega arith) k)
  see_by w true n m h k =
      let enough : n ≤ k.count = omega (arith, k.enough) in
      let all : min n 32 ≡ n = omega arith in
      let at : (w.at + n) % 2 ^ 64 ≡ w.at + n = mod-eq_of_lt (omega (arith, k.room, enough)) in
      let is : w.bits % 2 ^ n ≡ bits_at s w.at n = rw k.bits (low_of s w.at k.count n enough) in (
        rw (all, at, is, le-leb n 32 h, le-leb (w.at + n) (bit_count s) (omega (arith, k.room, enough))) refl,
        record {
          count = k.count - n;
          enough = omega (arith, k.enough);
          bits = rw (all, at, k.bits) (high_of s w.at k.count n enough);
          room = rw (all, at) (omega (arith, k.room, enough));
        },
      )

  pub see_is : (w : View) (on : Bool) (n m : ℕ) → n ≤ 32 → Held s w (n + m) → (r : Seen) → r ≡ seen w on n → (field_of r ≡ field s on (u n) 0 (start w.at)) × Held s r.rest m
  see_is w on n m h k r e = rw e (see_by w on n m h k)

  -- a U32: its selector, then the choice that it names
  module _ (w : View) (ds : Choices) (m : ℕ) (ch : Choice) (narrow : ch.bits ≤ 32) (held : Held s w (2 + (ch.bits + m))) where
    taken : (k : Seen) → k ≡ seen w true 2 → ch ≡ chosen ds k.value
        → (field_of (seen_choice k ch) ≡ field s true (u32 ds) 0 (start w.at)) × Held s (seen_choice k ch).rest m
    unfolding seen seen_choice
    taken k ek ech =
        let first = see_by w true 2 (ch.bits + m) (omega arith) held in
        let behind : Held s k.rest (ch.bits + m) = rw ek first.1 in
        let rest = see_by k.rest true ch.bits m narrow behind in
        let few : min ch.bits 32 ≡ ch.bits = omega (arith, narrow) in
        let at2 : k.rest.at ≡ w.at + 2 = ap (λ (x : Seen). x.rest.at) ek ∙ mod-eq_of_lt (omega (arith, held.room, held.enough)) in
        let at3 : (k.rest.at + ch.bits) % 2 ^ 64 ≡ w.at + 2 + ch.bits = rw at2 (mod-eq_of_lt (omega (arith, held.room, held.enough))) in
        let bits : k.rest.bits ≡ w.bits / 2 ^ 2 = ap (λ (x : Seen). x.rest.bits) ek in
        let selected : ch ≡ chosen ds (w.bits % 2 ^ 2) = ech ∙ ap (λ (x : Seen). chosen ds x.value) ek in (
          rw (few, at3, bits) (u32_seen s w.at held.count w.bits ds ch _ held.bits held.room selected narrow (omega (arith, held.enough)) refl),
          rest.1,
        )

  choice_by : (w : View) (on : Bool) (ds : Choices) (m : ℕ) → (on ≡ false → ds.d0 ≡ val 0) → (k : Seen) → k ≡ seen w on 2 → (ch : Choice) → ch ≡ chosen ds k.value → ch.bits ≤ 32
      → Held s w (2 + (ch.bits + m)) → (field_of (seen_choice k ch) ≡ field s on (u32 ds) 0 (start w.at)) × Held s (seen_choice k ch).rest m
  unfolding seen seen_choice field
  choice_by w true ds m d k ek ch ech narrow held = taken w ds m ch narrow held k ek ech
  choice_by w false ds m d k ek ch ech narrow held =
      let none : ch ≡ val 0 = ech ∙ ap (λ (x : Seen). chosen ds x.value) ek ∙ d refl in
      let at : (w.at + 0) % 2 ^ 64 ≡ w.at = ap (λ (x : ℕ). x % 2 ^ 64) (add-zero w.at) ∙ mod-eq_of_lt (omega (arith, held.room)) in (
        rw (none, ek, mod-one, at) refl,
        rw (none, ek, div-one, at) (held_less s w (2 + (ch.bits + m)) m (omega arith) held),
      )

  -- the same where it is asked for; where it isn't, its default is the first choice
  pub see_choice : (w : View) (on : Bool) (ds : Choices) (m : ℕ) → (on ≡ false → ds.d0 ≡ val 0) → (k : Seen) → k ≡ seen w on 2 → (ch : Choice) → ch ≡ chosen ds k.value → ch.bits ≤ 32
      → Held s w (2 + (ch.bits + m)) → (r : Seen) → r ≡ seen_choice k ch → (field_of r ≡ field s on (u32 ds) 0 (start w.at)) × Held s r.rest m
  see_choice w on ds m d k ek ch ech narrow held r er = rw er (choice_by w on ds m d k ek ch ech narrow held)
