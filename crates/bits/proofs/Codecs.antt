-- Laws of the field types: what each way out of a reading function answers, over plain variables.
use Rattle.std.proofs.Common.{◌≡◌, Option, Some, None, ℕ, ◌+◌, ◌/◌, ◌%◌, ◌^◌, ◌<◌, ◌≤◌, Bool, true, false, not, ◌&&◌, eqb, leb, List, sym, refl, ap, ◌∙◌, true≢false, arith, eq-eqb, ne_eqb, le-leb}
use native.Mathlib.Decide.{dec_le}
use mathlib.Core.Logic.{by_cases}
use mathlib.Core.Bool.{and-false}
use lib.Bits.{bit_and, and_mask}
use borrow.Author.Tests.{not-true, not-false, eqb-false, lt-leb}
use Rattle.bits.specs.declared.Read.{Read}
use Rattle.bits.specs.declared.pieces.Piece.{Piece}
use Rattle.bits.specs.declared.Cursor.{Cursor}
use Rattle.bits.specs.declared.Choice.{Choice}
use Rattle.bits.specs.declared.Choices.{Choices}
use Rattle.bits.specs.Bits.{bits_at, bit_count, there}
use Rattle.bits.specs.Refusals.{pick, start, clear}
use Rattle.bits.specs.Half.{exponent}
use Rattle.bits.specs.Steps.{Steps, gives, refuses, takes, refused_at, cut, cut_at, run, piece}
use Rattle.bits.specs.Codec.{Codec, u, bool, u32, cases, skip, steps, field, chosen, choice}
use Rattle.bits.proofs.Bits.{and_left, and_right, there_parts}
use Rattle.bits.proofs.Windows.{low_of, part_of}
use Rattle.bits.proofs.Steps.{run_take, run_cut, run_refuses, field_run}

-- a field of which something was read: value and cursor as they were made
pub given : (s : List ℕ) (p q v w : ℕ) (b : Cursor) → w ≡ v → b ≡ start q → ◌≡◌ {A = Read ℕ} (record { value = w; next = b }) (run (gives v) s p q)
unfolding run
given s p q v w b ew eb = rw (ew, eb)

-- the first piece of a field, there or cut
module _ (s : List ℕ) (on : Bool) (k : Codec) (d : ℕ) (c : Cursor) (i : Bool) (e : i ≡ not (on && clear c)) (n : ℕ) (f : ℕ → Steps) (st : steps k c.at ≡ takes n f)
    (busy : i ≡ false) (r : Option Piece) (er : r ≡ piece s c.at n)
  where
    pub first_taken : (x : Piece) → r ≡ Some x → field s on k d c ≡ run (f x.value) s c.at x.at
    first_taken x t = field_run s on k d c i e busy ∙ ap (λ (r : Steps). run r s c.at c.at) st ∙ run_take s c.at n r er c.at f x t

    pub first_cut : r ≡ None → cut_at s c.at (c.at + n) ≡ field s on k d c
    first_cut t = sym (field_run s on k d c i e busy ∙ ap (λ (r : Steps). run r s c.at c.at) st ∙ run_cut s c.at n r er c.at f t)

-- a U32's selector and n bits after it are there: one test on the width and one on the end
pub u32_narrow : (s : List ℕ) (p n : ℕ) → n ≤ 32 → leb (p + (n + 2)) (bit_count s) ≡ (there s p 2 && there s (p + 2) n)
u32_narrow s p n h =
    let sum : p + (n + 2) ≡ p + 2 + n = omega arith in
    by_cases (dec_le (p + 2 + n) (bit_count s))
    (λ y. rw (sum, le-leb (p + 2 + n) (bit_count s) y, le-leb (p + 2) (bit_count s) (omega (arith, y)), le-leb n 32 h) refl)
    (λ y. rw (sum, lt-leb (p + 2 + n) (bit_count s) (omega (arith, y)), le-leb n 32 h) (sym (and-false (there s p 2))))

pub u32_wide : (s : List ℕ) (p n : ℕ) → 32 < n → false ≡ (there s p 2 && there s (p + 2) n)
u32_wide s p n h = rw (lt-leb n 32 h) (sym (and-false (there s p 2)))

pub u32_parts : (s : List ℕ) (p n : ℕ) (r : Bool) → r ≡ (there s p 2 && there s (p + 2) n) → not r ≡ false → (n ≤ 32) × (p + 2 + n ≤ bit_count s)
u32_parts s p n r er t = there_parts s (p + 2) n (and_right (there s p 2) (there s (p + 2) n) (sym er ∙ not-false r t))

-- a U32: its selector, then the choice that it names
module _ (s : List ℕ) (p : ℕ) (ds : Choices) where
  module _ (k : ℕ) (ek : k ≡ bits_at s p 2) (ch : Choice) (ech : ch ≡ chosen ds k) (r : Bool) (er : r ≡ (there s p 2 && there s (p + 2) ch.bits)) where
    cut_by : (a b : Bool) → there s p 2 ≡ a → there s (p + 2) ch.bits ≡ b → (a && b) ≡ false → pick a (cut_at s p (p + 2 + ch.bits)) (cut_at s p (p + 2)) ≡ run (choice ds gives) s p p
    unfolding run
    cut_by true false ha hb f = rw (ha, ← ek, ← ech, hb)
    cut_by true true ha hb f = absurd (true≢false f)
    cut_by false b ha hb f = rw ha

    -- the choice is cut, or the selector
    pub u32_cut : not r ≡ true → pick (there s p 2) (cut_at s p (p + 2 + ch.bits)) (cut_at s p (p + 2)) ≡ run (choice ds gives) s p p
    u32_cut t = cut_by (there s p 2) (there s (p + 2) ch.bits) refl refl (sym er ∙ not-true r t)

    pub u32_read : (v q : ℕ) (b : Cursor) → not r ≡ false → v ≡ (ch.base + bits_at s (p + 2) ch.bits) % 2 ^ 32 → q ≡ p + 2 + ch.bits → b ≡ start q
        → ◌≡◌ {A = Read ℕ} (record { value = v; next = b }) (run (choice ds gives) s p p)
    unfolding run
    u32_read v q b t ev eq eb =
        let both : (there s p 2 && there s (p + 2) ch.bits) ≡ true = sym er ∙ not-false r t in
        rw (ev, eb, eq, and_left (there s p 2) (there s (p + 2) ch.bits) both, ← ek, ← ech, and_right (there s p 2) (there s (p + 2) ch.bits) both)

-- a U32 out of bits that are known, at least as many as it takes
pub u32_seen : (s : List ℕ) (q m w : ℕ) (ds : Choices) (ch : Choice) (v : ℕ) → w ≡ bits_at s q m → q + m ≤ bit_count s → ch ≡ chosen ds (w % 2 ^ 2) → ch.bits ≤ 32 → 2 + ch.bits ≤ m
    → v ≡ (ch.base + w / 2 ^ 2 % 2 ^ ch.bits) % 2 ^ 32 → ◌≡◌ {A = Read ℕ} (record { value = v; next = start (q + 2 + ch.bits) }) (field s true (u32 ds) 0 (start q))
unfolding field
u32_seen s q m w ds ch v ew room ech narrow enough ev =
    let selector : w % 2 ^ 2 ≡ bits_at s q 2 = rw ew (low_of s q m 2 (omega (arith, enough))) in
    let payload : w / 2 ^ 2 % 2 ^ ch.bits ≡ bits_at s (q + 2) ch.bits = rw ew (part_of s q m 2 ch.bits enough) in
    let both : (there s q 2 && there s (q + 2) ch.bits) ≡ true = sym (u32_narrow s q ch.bits narrow) ∙ le-leb (q + (ch.bits + 2)) (bit_count s) (omega (arith, room, enough)) in
    u32_read s q ds (w % 2 ^ 2) selector ch ech true (sym both) v (q + 2 + ch.bits) (start (q + 2 + ch.bits)) refl (ev ∙ ap (λ (x : ℕ). (ch.base + x) % 2 ^ 32) payload) refl refl

-- a U32 that goes on is the U32 itself, and then what follows unless it was refused
choice_by : (ds : Choices) (f : ℕ → Steps) (s : List ℕ) (p q : ℕ) (b1 b2 : Bool) → there s q 2 ≡ b1 → there s (q + 2) (chosen ds (bits_at s q 2)).bits ≡ b2
    → run (choice ds f) s p q
    ≡ pick (clear (run (choice ds gives) s p q).next) (run (f (run (choice ds gives) s p q).value) s p (run (choice ds gives) s p q).next.at) (run (choice ds gives) s p q)
unfolding run cut
choice_by ds f s p q true true h1 h2 = rw (h1, h2)
choice_by ds f s p q true false h1 h2 = rw (h1, h2)
choice_by ds f s p q false true h1 h2 = rw h1
choice_by ds f s p q false false h1 h2 = rw h1

pub choice_then : (ds : Choices) (f : ℕ → Steps) (s : List ℕ) (p q : ℕ) → run (choice ds f) s p q
    ≡ pick (clear (run (choice ds gives) s p q).next) (run (f (run (choice ds gives) s p q).value) s p (run (choice ds gives) s p q).next.at) (run (choice ds gives) s p q)
choice_then ds f s p q = choice_by ds f s p q (there s q 2) (there s (q + 2) (chosen ds (bits_at s q 2)).bits) refl refl

pub bool_is : (s : List ℕ) (on : Bool) (d : ℕ) (c : Cursor) → field s on (u 1) d c ≡ field s on bool d c
unfolding field
bool_is s on d c = refl

choice_clear_by : (ds : Choices) (s : List ℕ) (p q : ℕ) (b1 b2 : Bool) → there s q 2 ≡ b1 → there s (q + 2) (chosen ds (bits_at s q 2)).bits ≡ b2
    → (run (choice ds gives) s p q).next.fault.number ≡ 0
    → run (choice ds gives) s p q ≡ run (gives (run (choice ds gives) s p q).value) s p (run (choice ds gives) s p q).next.at
unfolding run cut
choice_clear_by ds s p q true true h1 h2 h = rw (h1, h2)
choice_clear_by ds s p q true false h1 h2 h = absurd (eqb-false 4 0 refl (rw (h1, h2) at h))
choice_clear_by ds s p q false true h1 h2 h = absurd (eqb-false 4 0 refl (rw h1 at h))
choice_clear_by ds s p q false false h1 h2 h = absurd (eqb-false 4 0 refl (rw h1 at h))

choice_clear : (ds : Choices) (s : List ℕ) (p q : ℕ) (f : Read ℕ) → f ≡ run (choice ds gives) s p q → f.next.fault.number ≡ 0
    → f ≡ run (gives f.value) s p f.next.at
choice_clear ds s p q f e h =
    rw e (choice_clear_by ds s p q (there s q 2) (there s (q + 2) (chosen ds (bits_at s q 2)).bits) refl refl (rw e at h))

-- an enum's case: what the U32 says, unless it names none
module _ (s : List ℕ) (on : Bool) (ds : Choices) (n d : ℕ) (c : Cursor) (i : Bool) (e : i ≡ not (on && clear c)) (busy : i ≡ false) (f : Read ℕ) (ef : f ≡ field s true (u32 ds) 0 c)
  where
    cleared : (b : Bool) (q : ℕ) → (on && clear c) ≡ b → i ≡ not b → clear c ≡ true
    cleared true q h hi = and_right on (clear c) h
    cleared false q h hi = absurd (true≢false (sym hi ∙ busy))

    is_run : f ≡ run (choice ds gives) s c.at c.at
    unfolding field
    is_run = ef ∙ rw (cleared (on && clear c) 0 refl (e)) refl

    then_run : field s on (cases ds n) d c ≡ pick (clear f.next) (run (pick (leb n f.value) (refuses 5) (gives f.value)) s c.at f.next.at) f
    then_run = field_run s on (cases ds n) d c i e busy ∙ choice_then ds (λ v. pick (leb n v) (refuses 5) (gives v)) s c.at c.at ∙ rw (← is_run)

    pub case_refused : (f.next.fault.number ≡ 0 → ⊥) → f ≡ field s on (cases ds n) d c
    case_refused h = sym (then_run ∙ rw (ne_eqb f.next.fault.number 0 h))

    pub case_unknown : f.next.fault.number ≡ 0 → n ≤ f.value → refused_at 5 c.at ≡ field s on (cases ds n) d c
    case_unknown h l = sym (then_run ∙ rw (eq-eqb f.next.fault.number 0 h, le-leb n f.value l) (run_refuses s c.at f.next.at 5))

    -- a clear field that a U32 gave stands at its end with no fault
    pub case_known : f.next.fault.number ≡ 0 → f.value < n → f ≡ field s on (cases ds n) d c
    case_known h l = sym (then_run ∙ rw (eq-eqb f.next.fault.number 0 h, lt-leb n f.value l) (sym (choice_clear ds s c.at c.at f is_run h)))

-- a step that goes by a test
module _ (s : List ℕ) (p q : ℕ) (a b : Steps) (t : Bool) where
  pub run_yes : t ≡ true → run (pick t a b) s p q ≡ run a s p q
  run_yes h = rw h

  pub run_no : t ≡ false → run (pick t a b) s p q ≡ run b s p q
  run_no h = rw h

-- a skip, whose end is within the bits or not
module _ (s : List ℕ) (on : Bool) (n : ℕ) (c : Cursor) (i : Bool) (e : i ≡ not (on && clear c)) where
  skip_run : i ≡ false → field s on (skip n) 0 c ≡ pick (leb (c.at + n) (bit_count s)) (record { value = 0; next = start (c.at + n) }) (cut_at s c.at (c.at + n))
  unfolding run
  skip_run busy = field_run s on (skip n) 0 c i e busy

  pub skip_cut : i ≡ false → (r : Cursor) → r ≡ record { at = c.at; fault = cut s c.at (c.at + n) } → bit_count s < c.at + n → r ≡ (field s on (skip n) 0 c).next
  skip_cut busy r er h =
      let is : field s on (skip n) 0 c ≡ cut_at s c.at (c.at + n) = skip_run busy ∙ rw (lt-leb (c.at + n) (bit_count s) h) in
      er ∙ sym (ap (λ (f : Read ℕ). f.next) is)

  pub skip_goes : i ≡ false → (r : Cursor) → r ≡ start (c.at + n) → c.at + n ≤ bit_count s → r ≡ (field s on (skip n) 0 c).next
  skip_goes busy r er h =
      let is : field s on (skip n) 0 c ≡ record { value = 0; next = start (c.at + n) } = skip_run busy ∙ rw (le-leb (c.at + n) (bit_count s) h) in
      er ∙ sym (ap (λ (f : Read ℕ). f.next) is)

-- an f16 goes by its exponent
module _ (s : List ℕ) (p q h : ℕ) where
  pub half_bad : bit_and (h / 1024) 31 ≡ 31 → run (pick (eqb (exponent h) 31) (refuses 6) (gives h)) s p q ≡ refused_at 6 p
  half_bad e = run_yes s p q (refuses 6) (gives h) (eqb (exponent h) 31) (eq-eqb (exponent h) 31 (sym (and_mask (h / 1024) 5) ∙ e)) ∙ run_refuses s p q 6

  pub half_good : (bit_and (h / 1024) 31 ≡ 31 → ⊥) → run (pick (eqb (exponent h) 31) (refuses 6) (gives h)) s p q ≡ run (gives h) s p q
  half_good e = run_no s p q (refuses 6) (gives h) (eqb (exponent h) 31) (ne_eqb (exponent h) 31 (λ y. e (and_mask (h / 1024) 5 ∙ y)))
