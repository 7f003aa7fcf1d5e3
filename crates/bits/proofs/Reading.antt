-- What holds of every reading, for all field types and all tables at once: it never moves past the end, a fault stays, what is read depends on no
-- other bits, and the same bits at another place read the same.
use Rattle.std.proofs.Common.{◌≡◌, ℕ, zero, suc, ◌+◌, ◌-◌, ◌*◌, ◌%◌, ◌^◌, ◌<◌, ◌≤◌, Bool, true, false, ◌&&◌, eqb, leb, ◌⊎◌, List, sym, refl, ap, ◌∙◌, inl, inr, ⊎_elim, le_refl, arith, eqb-true, le-leb, leb-true}
use native.Mathlib.Nat.{mod-add-mod}
use mathlib.Core.Bool.{false≢true}
use borrow.Author.Tests.{eqb-false}
use Rattle.bits.specs.declared.Read.{Read}
use Rattle.bits.specs.declared.Cursor.{Cursor}
use Rattle.bits.specs.Refusals.{pick, refusal, start, clear}
use Rattle.bits.specs.Bits.{bit_at, bits_at, bit_count, there}
use Rattle.bits.specs.Half.{exponent}
use Rattle.bits.specs.Steps.{Steps, gives, refuses, takes, skips, cut, cut_at, run}
use Rattle.bits.specs.Codec.{Codec, u, bool, u32, cases, u64, f16, padding, skip, steps, chosen, more, field}
use Rattle.bits.specs.Table.{Table, ends, row, fails, failed, read}
use Rattle.bits.proofs.Bits.{bits_lt, there_parts}

-- ---- fields

-- a field reads what is there and moves by its width
pub field_reads : (s : List ℕ) (n d : ℕ) (c : Cursor) → clear c ≡ true → there s c.at n ≡ true
    → field s true (u n) d c ≡ record { value = bits_at s c.at n; next = start (c.at + n) }
unfolding field run
field_reads s n d c h t = rw (h, t)

lt_by : (s : List ℕ) (n : ℕ) (c : Cursor) (b b' : Bool) → clear c ≡ b → there s c.at n ≡ b' → (field s true (u n) 0 c).value < 2 ^ n
unfolding field run
lt_by s n c true true h t = rw (h, t) (bits_lt s c.at n)
lt_by s n c true false h t = rw (h, t) (lib.Pow.pow_pos n)
lt_by s n c false b' h t = rw h (lib.Pow.pow_pos n)

-- a field of n bits is below 2 ^ n
pub field_lt : (s : List ℕ) (n : ℕ) (c : Cursor) → (field s true (u n) 0 c).value < 2 ^ n
field_lt s n c = lt_by s n c (clear c) (there s c.at n) refl refl

-- what holds of both choices, each under its test, holds of the pick
pub picked : {A : Type 0} (P : A → Type 0) (b : Bool) (x y : A) → (b ≡ true → P x) → (b ≡ false → P y) → P (pick b x y)
picked P true x y h k = h refl
picked P false x y h k = k refl

-- what holds of both choices holds of the pick
pub of_both : {A : Type 0} (P : A → Type 0) (b : Bool) (x y : A) → P x → P y → P (pick b x y)
of_both P b x y h k = picked P b x y (λ e. h) (λ e. k)

-- ---- the end

-- a field never ends past the end, read or refused
pub run_within : (t : Steps) (s : List ℕ) (p q : ℕ) → p ≤ bit_count s → q ≤ bit_count s → (run t s p q).next.at ≤ bit_count s
unfolding run
run_within (gives v) s p q hp hq = hq
run_within (refuses n) s p q hp hq = hp
run_within (takes n f) s p q hp hq =
    picked (λ (r : Read ℕ). r.next.at ≤ bit_count s) (there s q n) (run (f (bits_at s q n)) s p (q + n)) (cut_at s p (q + n))
    (λ h. run_within (f (bits_at s q n)) s p (q + n) hp (there_parts s q n h).1)
    (λ h. hp)
run_within (skips n t) s p q hp hq =
    picked (λ (r : Read ℕ). r.next.at ≤ bit_count s) (leb (q + n) (bit_count s)) (run t s p (q + n)) (cut_at s p (q + n))
    (λ h. run_within t s p (q + n) hp (leb-true (q + n) (bit_count s) h))
    (λ h. hp)

pub field_within : (s : List ℕ) (on : Bool) (k : Codec) (d : ℕ) (c : Cursor) → c.at ≤ bit_count s → (field s on k d c).next.at ≤ bit_count s
unfolding field
field_within s on k d c h =
    picked (λ (r : Read ℕ). r.next.at ≤ bit_count s) (on && clear c) (run (steps k c.at) s c.at c.at) (record { value = d; next = c })
    (λ e. run_within (steps k c.at) s c.at c.at h h)
    (λ e. h)

pub failed_same : (bad : Bool) (number back : ℕ) (c : Cursor) → (failed bad number back c).at ≡ c.at
unfolding failed
failed_same bad number back c =
    picked (λ (r : Cursor). r.at ≡ c.at) (bad && clear c) (record { at = c.at; fault = refusal number (c.at - back) }) c (λ e. refl) (λ e. refl)

-- no reading moves past the end
pub read_within_end : {R A : Type 0} (t : Table R A) (s : List ℕ) (c : Cursor) → c.at ≤ bit_count s → (read t s c).next.at ≤ bit_count s
unfolding read
read_within_end (ends a) s c h = h
read_within_end (row on k d v rest) s c h = read_within_end (rest (field s on k d c).value) s (field s on k d c).next (field_within s on k d c h)
read_within_end (fails bad number back rest) s c h = read_within_end rest s (failed bad number back c) (rw (failed_same bad number back c) h)

-- ---- faults

and_no : (a b : Bool) → b ≡ false → (a && b) ≡ false
and_no true b e = e
and_no false b e = refl

pub field_held : (s : List ℕ) (on : Bool) (k : Codec) (d : ℕ) (c : Cursor) → clear c ≡ false → field s on k d c ≡ record { value = d; next = c }
unfolding field
field_held s on k d c h = rw (and_no on (clear c) h)

failed_held : (bad : Bool) (number back : ℕ) (c : Cursor) → clear c ≡ false → failed bad number back c ≡ c
unfolding failed
failed_held bad number back c h = rw (and_no bad (clear c) h)

-- a fault stays: whatever is read after it, the cursor is handed on as it was, so the first fault is the one that is kept
pub fault_stays : {R A : Type 0} (t : Table R A) (s : List ℕ) (c : Cursor) → clear c ≡ false → (read t s c).next ≡ c
unfolding read
fault_stays (ends a) s c h = refl
fault_stays (row on k d v rest) s c h =
    let same : (field s on k d c).next ≡ c = ap (λ (r : Read ℕ). r.next) (field_held s on k d c h) in
    fault_stays (rest (field s on k d c).value) s (field s on k d c).next (rw same h) ∙ same
fault_stays (fails bad number back rest) s c h =
    let same : failed bad number back c ≡ c = failed_held bad number back c h in
    fault_stays rest s (failed bad number back c) (rw same h) ∙ same

-- ---- the same bits

-- n bits that agree have one value
pub bits_same : (s s' : List ℕ) (p q n : ℕ) → ((i : ℕ) → i < n → bit_at s (p + i) ≡ bit_at s' (q + i)) → bits_at s p n ≡ bits_at s' q n
unfolding bits_at
bits_same s s' p q zero h = refl
bits_same s s' p q (suc n) h = rw (bits_same s s' p q n (λ i l. h i (omega arith)), h n (le_refl (suc n)))

-- a refusal of a field type has a number
abbrev Fair : Steps → Type 0
Fair (gives v) = Unit {0}
Fair (refuses n) = n ≡ 0 → ⊥
Fair (takes n f) = (v : ℕ) → Fair (f v)
Fair (skips n t) = Fair t

fair_pick : (b : Bool) (x y : Steps) → Fair x → Fair y → Fair (pick b x y)
fair_pick true x y h k = h
fair_pick false x y h k = k

fair_more : (k v : ℕ) → Fair (more k v)
unfolding more
fair_more zero v = λ b. fair_pick (eqb b 0) (gives v) (takes 4 λ x. gives (v + x * 2 ^ 60)) tt (λ x. tt)
fair_more (suc k) v = λ b. fair_pick (eqb b 0) (gives v) (takes 8 λ x. more k (v + x * 2 ^ (52 - 8 * k))) tt (λ x. fair_more k (v + x * 2 ^ (52 - 8 * k)))

fair : (k : Codec) (p : ℕ) → Fair (steps k p)
fair (u n) p = λ v. tt
fair bool p = λ v. tt
fair (u32 d) p = λ k x. tt
fair (cases d n) p =
    λ k x. fair_pick (leb n (((chosen d k).base + x) % 2 ^ 32)) (refuses 5) (gives (((chosen d k).base + x) % 2 ^ 32)) (eqb-false 5 0 refl) tt
fair u64 p =
    λ k.
    fair_pick (eqb k 0) (gives 0) (pick (eqb k 1) (takes 4 λ x. gives (1 + x)) (pick (eqb k 2) (takes 8 λ x. gives (17 + x)) (takes 12 λ x. more 6 x))) tt
    (fair_pick (eqb k 1) (takes 4 λ x. gives (1 + x)) (pick (eqb k 2) (takes 8 λ x. gives (17 + x)) (takes 12 λ x. more 6 x)) (λ x. tt)
    (fair_pick (eqb k 2) (takes 8 λ x. gives (17 + x)) (takes 12 λ x. more 6 x) (λ x. tt) (λ x. fair_more 6 x)))
fair f16 p = λ h. fair_pick (eqb (exponent h) 31) (refuses 6) (gives h) (eqb-false 6 0 refl) tt
fair padding p = λ x. fair_pick (eqb x 0) (gives 0) (refuses 12) tt (eqb-false 12 0 refl)
fair (skip n) p = tt

-- a field that is not refused does not go back
forward : (t : Steps) → Fair t → (s : List ℕ) (p q : ℕ) (r : Read ℕ) → run t s p q ≡ r → clear r.next ≡ true → q ≤ r.next.at
unfolding run cut
forward (gives v) f s p q r e h = rw (← e) (le_refl q)
forward (refuses n) f s p q r e h = absurd (f (eqb-true n 0 (rw (← e) at h)))
forward (takes n g) f s p q r e h =
    picked (λ (x : Read ℕ). x ≡ r → q ≤ r.next.at) (there s q n) (run (g (bits_at s q n)) s p (q + n)) (cut_at s p (q + n))
    (λ t y. let l : q + n ≤ r.next.at = forward (g (bits_at s q n)) (f (bits_at s q n)) s p (q + n) r y h in omega arith)
    (λ t y. absurd (false≢true (rw (← y) at h)))
    e
forward (skips n t) f s p q r e h =
    picked (λ (x : Read ℕ). x ≡ r → q ≤ r.next.at) (leb (q + n) (bit_count s)) (run t s p (q + n)) (cut_at s p (q + n))
    (λ i y. let l : q + n ≤ r.next.at = forward t f s p (q + n) r y h in omega arith)
    (λ i y. absurd (false≢true (rw (← y) at h)))
    e

-- the same bits further on
shifted : (s s' : List ℕ) (p p' x x' e : ℕ) → p ≤ x → x' ≡ p' + (x - p) → ((i : ℕ) → p + i < e → bit_at s (p + i) ≡ bit_at s' (p' + i))
    → (i : ℕ) → x + i < e → bit_at s (x + i) ≡ bit_at s' (x' + i)
shifted s s' p p' x x' e l m h i k =
    let a : x + i ≡ p + (x - p + i) = omega arith in
    let b : x' + i ≡ p' + (x - p + i) = omega arith in
    rw (a, b) (h (x - p + i) (omega arith))

module _ (s s' : List ℕ) (p p' : ℕ) (r : Read ℕ) (ok : clear r.next ≡ true) where
  run_same : (t : Steps) → Fair t → (q q' : ℕ) → run t s p q ≡ r
      → ((i : ℕ) → q + i < r.next.at → bit_at s (q + i) ≡ bit_at s' (q' + i)) → q' + (r.next.at - q) ≤ bit_count s'
      → run t s' p' q' ≡ record { value = r.value; next = start (q' + (r.next.at - q)) }
  unfolding run cut
  run_same (gives v) f q q' e h l =
      let here : q' ≡ q' + (r.next.at - q) = rw (← e) (omega arith) in
      let val : v ≡ r.value = rw (← e) in
      rw (← here, ← val)
  run_same (refuses n) f q q' e h l = absurd (f (eqb-true n 0 (rw (← e) at ok)))
  run_same (takes n g) f q q' e h l =
      picked (λ (x : Read ℕ). x ≡ r → run (takes n g) s' p' q' ≡ record { value = r.value; next = start (q' + (r.next.at - q)) }) (there s q n) (run (g (bits_at s q n)) s p (q + n)) (cut_at s p (q + n))
      (λ t y.
      let past : q + n ≤ r.next.at = forward (g (bits_at s q n)) (f (bits_at s q n)) s p (q + n) r y ok in
      let same : bits_at s q n ≡ bits_at s' q' n = bits_same s s' q q' n (λ i k. h i (omega arith)) in
      let room : there s' q' n ≡ true = rw (le-leb n 32 (there_parts s q n t).0, le-leb (q' + n) (bit_count s') (omega arith)) in
      let sum : q' + n + (r.next.at - (q + n)) ≡ q' + (r.next.at - q) = omega arith in
      let rest = run_same (g (bits_at s q n)) (f (bits_at s q n)) (q + n) (q' + n) y (shifted s s' q q' (q + n) (q' + n) r.next.at (omega arith) (omega arith) h) (rw sum l) in
      rw (room, ← same) (rest ∙ rw sum))
      (λ t y. absurd (false≢true (rw (← y) at ok)))
      e
  run_same (skips n t) f q q' e h l =
      picked (λ (x : Read ℕ). x ≡ r → run (skips n t) s' p' q' ≡ record { value = r.value; next = start (q' + (r.next.at - q)) }) (leb (q + n) (bit_count s)) (run t s p (q + n)) (cut_at s p (q + n))
      (λ i y.
      let past : q + n ≤ r.next.at = forward t f s p (q + n) r y ok in
      let room : leb (q' + n) (bit_count s') ≡ true = le-leb (q' + n) (bit_count s') (omega arith) in
      let sum : q' + n + (r.next.at - (q + n)) ≡ q' + (r.next.at - q) = omega arith in
      let rest = run_same t f (q + n) (q' + n) y (shifted s s' q q' (q + n) (q' + n) r.next.at (omega arith) (omega arith) h) (rw sum l) in
      rw room (rest ∙ rw sum))
      (λ i y. absurd (false≢true (rw (← y) at ok)))
      e

-- padding is the one type that goes by its place in a byte
abbrev pub Loose : Codec → Type 0
Loose (u n) = Unit {0}
Loose bool = Unit {0}
Loose (u32 d) = Unit {0}
Loose (cases d n) = Unit {0}
Loose u64 = Unit {0}
Loose f16 = Unit {0}
Loose padding = ⊥
Loose (skip n) = Unit {0}

steps_same : (k : Codec) (p q : ℕ) → (p % 8 ≡ q % 8) ⊎ Loose k → steps k p ≡ steps k q
steps_same (u n) p q h = refl
steps_same bool p q h = refl
steps_same (u32 d) p q h = refl
steps_same (cases d n) p q h = refl
steps_same u64 p q h = refl
steps_same f16 p q h = refl
steps_same padding p q (inl e) = rw e
steps_same padding p q (inr l) = absurd l
steps_same (skip n) p q h = refl

-- a table with no padding, at any nesting
abbrev pub Plain : {R A : Type 0} → Table R A → Type 0
Plain (ends a) = Unit {0}
Plain (row on k d v rest) = Loose k × ((n : ℕ) → Plain (rest n))
Plain (fails bad number back rest) = Plain rest

-- what a reading elsewhere comes to: the same value, no fault, and as many bits on
abbrev pub Elsewhere : (c c' n n' : Cursor) → Type 0
Elsewhere c c' n n' = (clear n' ≡ true) × (n'.at ≡ c'.at + (n.at - c.at))

and_both : (a b : Bool) → a ≡ true → b ≡ true → (a && b) ≡ true
and_both a b h k = rw (h, k)

field_forward : (s : List ℕ) (on : Bool) (k : Codec) (d : ℕ) (c : Cursor) → clear (field s on k d c).next ≡ true → c.at ≤ (field s on k d c).next.at
unfolding field
field_forward s on k d c =
    picked (λ (x : Read ℕ). clear x.next ≡ true → c.at ≤ x.next.at) (on && clear c) (run (steps k c.at) s c.at c.at) (record { value = d; next = c })
    (λ e h. forward (steps k c.at) (fair k c.at) s c.at c.at (run (steps k c.at) s c.at c.at) refl h)
    (λ e h. le_refl c.at)

field_same : (s s' : List ℕ) (on : Bool) (k : Codec) (d : ℕ) (c c' : Cursor) → (c.at % 8 ≡ c'.at % 8) ⊎ Loose k → clear c ≡ true → clear c' ≡ true
    → clear (field s on k d c).next ≡ true
    → ((i : ℕ) → c.at + i < (field s on k d c).next.at → bit_at s (c.at + i) ≡ bit_at s' (c'.at + i))
    → c'.at + ((field s on k d c).next.at - c.at) ≤ bit_count s'
    → ((field s' on k d c').value ≡ (field s on k d c).value) × Elsewhere c c' (field s on k d c).next (field s' on k d c').next
unfolding field
field_same s s' true k d c c' a h h' =
    rw (h, h', ← steps_same k c.at c'.at a)
    (λ ok bits room.
    let r = run (steps k c.at) s c.at c.at in
    let is = run_same s s' c.at c'.at r ok (steps k c.at) (fair k c.at) c.at c'.at refl bits room in
    (ap (λ (x : Read ℕ). x.value) is, (ap (λ (x : Read ℕ). clear x.next) is, ap (λ (x : Read ℕ). x.next.at) is)))
field_same s s' false k d c c' a h h' = λ ok bits room. (refl, (h', omega arith))

read_clear : {R A : Type 0} (t : Table R A) (s : List ℕ) (c : Cursor) (b : Bool) → clear c ≡ b → clear (read t s c).next ≡ true → b ≡ true
read_clear t s c true e h = refl
read_clear t s c false e h = absurd (false≢true (sym e ∙ ap clear (sym (fault_stays t s c e)) ∙ h))

-- a reading that is not refused does not go back
pub read_forward : {R A : Type 0} (t : Table R A) (s : List ℕ) (c : Cursor) → clear (read t s c).next ≡ true → c.at ≤ (read t s c).next.at
unfolding read
read_forward (ends a) s c h = le_refl c.at
read_forward (row on k d v rest) s c h =
    let f = field s on k d c in
    let up : f.next.at ≤ (read (rest f.value) s f.next).next.at = read_forward (rest f.value) s f.next h in
    let low : c.at ≤ f.next.at = field_forward s on k d c (read_clear (rest f.value) s f.next (clear f.next) refl h) in
    omega arith
read_forward (fails bad number back rest) s c h =
    let g = failed bad number back c in
    let at : g.at ≡ c.at = failed_same bad number back c in
    let up : g.at ≤ (read rest s g).next.at = read_forward rest s g h in
    omega arith

failed_clear : (bad : Bool) (number back : ℕ) (c c' : Cursor) → clear c ≡ true → clear c' ≡ true → clear (failed bad number back c) ≡ true → clear (failed bad number back c') ≡ true
unfolding failed
failed_clear true number back c c' h h' = rw (h, h') (λ k. k)
failed_clear false number back c c' h h' = λ k. h'

-- places that agree in a byte agree as far on
aligned : (a b x x' : ℕ) → a ≤ x → x' ≡ b + (x - a) → a % 8 ≡ b % 8 → x % 8 ≡ x' % 8
aligned a b x x' l e h =
    let j = x - a in
    let up : x ≡ a + j = omega arith in
    ap (λ (n : ℕ). n % 8) up ∙ sym (mod-add-mod a 8 j) ∙ ap (λ (n : ℕ). (n + j) % 8) h ∙ mod-add-mod b 8 j ∙ ap (λ (n : ℕ). n % 8) (sym e)

-- The same bits at another place read the same. What is read depends on no other bits: take the same place in two inputs that agree there.
pub same_bits : {R A : Type 0} (t : Table R A) (s s' : List ℕ) (c c' : Cursor) → (c.at % 8 ≡ c'.at % 8) ⊎ Plain t → clear c ≡ true → clear c' ≡ true
    → clear (read t s c).next ≡ true
    → ((i : ℕ) → c.at + i < (read t s c).next.at → bit_at s (c.at + i) ≡ bit_at s' (c'.at + i))
    → c'.at + ((read t s c).next.at - c.at) ≤ bit_count s'
    → ((read t s' c').value ≡ (read t s c).value) × Elsewhere c c' (read t s c).next (read t s' c').next
unfolding read
same_bits {A = A} (ends a) s s' c c' al h h' ok bits room = (refl, (h', omega arith))
same_bits {A = A} (row on k d v rest) s s' c c' al h h' ok bits room =
    let f = field s on k d c in
    let f' = field s' on k d c' in
    let e = (read (rest f.value) s f.next).next.at in
    let fok : clear f.next ≡ true = read_clear (rest f.value) s f.next (clear f.next) refl ok in
    let low : c.at ≤ f.next.at = field_forward s on k d c fok in
    let up : f.next.at ≤ e = read_forward (rest f.value) s f.next ok in
    let one = field_same s s' on k d c c' (⊎_elim (λ x. inl x) (λ x. inr x.0) al) h h' fok (λ i l. bits i (omega arith)) (omega arith) in
    let at' : f'.next.at ≡ c'.at + (f.next.at - c.at) = one.1.1 in
    let al' : (f.next.at % 8 ≡ f'.next.at % 8) ⊎ Plain (rest f.value) = ⊎_elim (λ x. inl (aligned c.at c'.at f.next.at f'.next.at low at' x)) (λ x. inr (x.1 f.value)) al in
    let two = same_bits (rest f.value) s s' f.next f'.next al' fok one.1.0 ok (shifted s s' c.at c'.at f.next.at f'.next.at e low at' bits) (omega arith) in
    let is : read (rest f'.value) s' f'.next ≡ read (rest f.value) s' f'.next = rw one.0 in
    (ap (λ (o : Read A). o.value) is ∙ two.0, (ap (λ (o : Read A). clear o.next) is ∙ two.1.0, ap (λ (o : Read A). o.next.at) is ∙ two.1.1 ∙ omega arith))
same_bits {A = A} (fails bad number back rest) s s' c c' al h h' ok bits room =
    let g = failed bad number back c in
    let g' = failed bad number back c' in
    let at : g.at ≡ c.at = failed_same bad number back c in
    let at' : g'.at ≡ c'.at = failed_same bad number back c' in
    let gok : clear g ≡ true = read_clear rest s g (clear g) refl ok in
    let two = same_bits rest s s' g g' (⊎_elim (λ x. inl (rw (at, at') x)) (λ x. inr x) al) gok (failed_clear bad number back c c' h h' gok) ok (shifted s s' c.at c'.at g.at g'.at (read rest s g).next.at (omega arith) (omega arith) bits) (omega arith) in
    (two.0, (two.1.0, two.1.1 ∙ omega arith))

-- ---- padding

-- a padding is always there: from a place within the bits, the byte boundary is within them too
pub padding_there : (s : List ℕ) (p : ℕ) → p ≤ bit_count s → there s p ((8 - p % 8) % 8) ≡ true
padding_there s p h = rw (le-leb ((8 - p % 8) % 8) 32 (omega arith), le-leb (p + (8 - p % 8) % 8) (bit_count s) (omega arith))
