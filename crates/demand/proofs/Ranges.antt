-- What a reading comes to, for all tables at once: accepted, each number is one that its field type may read, or its default; refused, the number of
-- the refusal is a field's own, at most 7 or 12.
use Prim.Native.Nat.{ℕ, zero, suc, ◌+◌, ◌-◌, ◌*◌, ◌/◌, ◌%◌, ◌^◌, ◌≤◌, ◌<◌}
use native.Mathlib.Omega.{arith}
use mathlib.Core.Path.{◌≡◌, refl, sym, ◌∙◌, ap}
use mathlib.Core.Logic.{◌⊎◌, inl, inr}
use mathlib.Core.List.{List}
use mathlib.Core.Bool.{Bool, true, false, ◌&&◌, false≢true}
use lib.Dec.{leb, eqb}
use Rattle.bits.specs.declared.Read.{Read}
use Rattle.bits.specs.declared.Cursor.{Cursor}
use Rattle.bits.specs.declared.Choice.{Choice}
use Rattle.bits.specs.declared.Choices.{Choices}
use Rattle.bits.specs.Refusals.{pick, refusal, clear}
use Rattle.bits.specs.Bits.{bits_at, bit_count, there}
use Rattle.bits.specs.Half.{exponent}
use Rattle.bits.specs.Steps.{Steps, gives, refuses, takes, skips, cut, cut_at, run}
use Rattle.bits.specs.Codec.{Codec, u, bool, u32, cases, u64, f16, padding, skip, steps, chosen, more, field}
use Rattle.bits.specs.Table.{Table, ends, row, fails, failed, read, bind, within, times}
use Rattle.bits.specs.Extensions.{lengths, extensions}
use Rattle.bits.proofs.Bits.{bits_lt}
use Rattle.bits.proofs.Reading.{picked, fault_stays, of_both}

-- ---- numbers

-- a number that one choice of a U32 gives
abbrev pub Given : Choice → ℕ → Type 0
Given c v = (x : ℕ) × (x < 2 ^ c.bits) × (v ≡ (c.base + x) % 2 ^ 32)

-- a number that a field type may read; of some types nothing is said
abbrev pub May : Codec → ℕ → Type 0
May (u n) v = v < 2 ^ n
May bool v = Unit {0}
May (u32 d) v = Given d.d0 v ⊎ (Given d.d1 v ⊎ (Given d.d2 v ⊎ Given d.d3 v))
May (cases d n) v = Unit {0}
May u64 v = Unit {0}
May f16 v = Unit {0}
May padding v = Unit {0}
May (skip n) v = Unit {0}

-- or the default
abbrev pub Reading : Codec → ℕ → ℕ → Type 0
Reading k d v = May k v ⊎ (v ≡ d)

chosen_by : (a b c : Bool) (d : Choices) (x : ℕ) → x < 2 ^ (pick a d.d0 (pick b d.d1 (pick c d.d2 d.d3))).bits
    → May (u32 d) (((pick a d.d0 (pick b d.d1 (pick c d.d2 d.d3))).base + x) % 2 ^ 32)
chosen_by true b c d x h = inl (x, h, refl)
chosen_by false true c d x h = inr (inl (x, h, refl))
chosen_by false false true d x h = inr (inr (inl (x, h, refl)))
chosen_by false false false d x h = inr (inr (inr (x, h, refl)))

run_may : (k : Codec) (s : List ℕ) (p : ℕ) → clear (run (steps k p) s p p).next ≡ true → May k (run (steps k p) s p p).value
unfolding run cut
run_may (u n) s p =
    picked (λ (r : Read ℕ). clear r.next ≡ true → r.value < 2 ^ n) (there s p n) (run (gives (bits_at s p n)) s p (p + n)) (cut_at s p (p + n))
    (λ e h. bits_lt s p n)
    (λ e h. absurd (false≢true h))
run_may (u32 d) s p =
    let k : ℕ = bits_at s p 2 in
    let n : ℕ = (chosen d k).bits in
    let x : ℕ = bits_at s (p + 2) n in
    let v : ℕ = ((chosen d k).base + x) % 2 ^ 32 in
    picked (λ (r : Read ℕ). clear r.next ≡ true → May (u32 d) r.value) (there s p 2)
    (run (takes n λ x. gives (((chosen d k).base + x) % 2 ^ 32)) s p (p + 2)) (cut_at s p (p + 2))
    (λ e.
    picked (λ (r : Read ℕ). clear r.next ≡ true → May (u32 d) r.value) (there s (p + 2) n) (run (gives v) s p (p + 2 + n))
    (cut_at s p (p + 2 + n))
    (λ e h. chosen_by (eqb k 0) (eqb k 1) (eqb k 2) d x (bits_lt s (p + 2) n))
    (λ e h. absurd (false≢true h)))
    (λ e h. absurd (false≢true h))
run_may bool s p = λ h. tt
run_may (cases d n) s p = λ h. tt
run_may u64 s p = λ h. tt
run_may f16 s p = λ h. tt
run_may padding s p = λ h. tt
run_may (skip n) s p = λ h. tt

field_may : (s : List ℕ) (on : Bool) (k : Codec) (d : ℕ) (c : Cursor) → clear (field s on k d c).next ≡ true → Reading k d (field s on k d c).value
unfolding field
field_may s on k d c =
    picked (λ (r : Read ℕ). clear r.next ≡ true → Reading k d r.value) (on && clear c) (run (steps k c.at) s c.at c.at)
    (record { value = d; next = c })
    (λ e h. inl (run_may k s c.at h))
    (λ e h. inr refl)

-- ---- refusals

-- a field's own: at most 7, or 12 (none is 0)
abbrev pub Own : ℕ → Type 0
Own n = (n ≤ 7) ⊎ (n ≡ 12)

abbrev Stops : Steps → Type 0
Stops (gives v) = Unit {0}
Stops (refuses n) = Own n
Stops (takes n f) = (v : ℕ) → Stops (f v)
Stops (skips n t) = Stops t

stops_more : (k v : ℕ) → Stops (more k v)
unfolding more
stops_more zero v = λ b. of_both Stops (eqb b 0) (gives v) (takes 4 λ x. gives (v + x * 2 ^ 60)) tt (λ x. tt)
stops_more (suc k) v =
    λ b. of_both Stops (eqb b 0) (gives v) (takes 8 λ x. more k (v + x * 2 ^ (52 - 8 * k))) tt (λ x. stops_more k (v + x * 2 ^ (52 - 8 * k)))

stops : (k : Codec) (p : ℕ) → Stops (steps k p)
stops (u n) p = λ v. tt
stops bool p = λ v. tt
stops (u32 d) p = λ k x. tt
stops (cases d n) p =
    λ k x. of_both Stops (leb n (((chosen d k).base + x) % 2 ^ 32)) (refuses 5) (gives (((chosen d k).base + x) % 2 ^ 32)) (inl (omega arith)) tt
stops u64 p =
    λ k.
    of_both Stops (eqb k 0) (gives 0)
    (pick (eqb k 1) (takes 4 λ x. gives (1 + x)) (pick (eqb k 2) (takes 8 λ x. gives (17 + x)) (takes 12 λ x. more 6 x))) tt
    (of_both Stops (eqb k 1) (takes 4 λ x. gives (1 + x)) (pick (eqb k 2) (takes 8 λ x. gives (17 + x)) (takes 12 λ x. more 6 x)) (λ x. tt)
    (of_both Stops (eqb k 2) (takes 8 λ x. gives (17 + x)) (takes 12 λ x. more 6 x) (λ x. tt) (λ x. stops_more 6 x)))
stops f16 p = λ h. of_both Stops (eqb (exponent h) 31) (refuses 6) (gives h) (inl (omega arith)) tt
stops padding p = λ x. of_both Stops (eqb x 0) (gives 0) (refuses 12) tt (inr refl)
stops (skip n) p = tt

abbrev Owned : Read ℕ → Type 0
Owned r = Own r.next.fault.number

run_own : (t : Steps) → Stops t → (s : List ℕ) (p q : ℕ) → Owned (run t s p q)
unfolding run cut
run_own (gives v) h s p q = inl (omega arith)
run_own (refuses n) h s p q = h
run_own (takes n f) h s p q =
    of_both Owned (there s q n) (run (f (bits_at s q n)) s p (q + n)) (cut_at s p (q + n)) (run_own (f (bits_at s q n)) (h (bits_at s q n)) s p (q + n))
    (inl (omega arith))
run_own (skips n t) h s p q =
    of_both Owned (leb (q + n) (bit_count s)) (run t s p (q + n)) (cut_at s p (q + n)) (run_own t h s p (q + n)) (inl (omega arith))

field_own : (s : List ℕ) (on : Bool) (k : Codec) (d : ℕ) (c : Cursor) → Own c.fault.number → Owned (field s on k d c)
unfolding field
field_own s on k d c h =
    of_both Owned (on && clear c) (run (steps k c.at) s c.at c.at) (record { value = d; next = c })
    (run_own (steps k c.at) (stops k c.at) s c.at c.at) h

-- ---- tables

-- whatever its rows may read, what a table hands on has a property, and its own tests refuse with 7
unfoldable pub Reads : {R A : Type 0} → (A → Type 0) → Table R A → Type 0
Reads P (ends a) = P a
Reads P (row on k d v rest) = (n : ℕ) → Reading k d n → Reads P (rest n)
Reads P (fails bad number back rest) = (number ≡ 7) × Reads P rest

-- a fault stays, so where there is none behind a reading there was none before it
before_clear : {R A : Type 0} (t : Table R A) (s : List ℕ) (c : Cursor) (b : Bool) → clear c ≡ b → clear (read t s c).next ≡ true → b ≡ true
before_clear t s c true e h = refl
before_clear t s c false e h = absurd (false≢true (sym e ∙ ap clear (sym (fault_stays t s c e)) ∙ h))

-- accepted, what is handed on has the property
pub read_has : {R A : Type 0} (P : A → Type 0) (t : Table R A) → Reads P t → (s : List ℕ) (c : Cursor) → clear (read t s c).next ≡ true
    → P (read t s c).value
unfolding read Reads
read_has P (ends a) r s c h = r
read_has P (row on k d v rest) r s c h =
    let f = field s on k d c in
    let ok : clear f.next ≡ true = before_clear (rest f.value) s f.next (clear f.next) refl h in
    read_has P (rest f.value) (r f.value (field_may s on k d c ok)) s f.next h
read_has P (fails bad number back rest) r s c h = read_has P rest r.1 s (failed bad number back c) h

failed_own : (bad : Bool) (number back : ℕ) (c : Cursor) → number ≡ 7 → Own c.fault.number → Own (failed bad number back c).fault.number
unfolding failed
failed_own bad number back c e h =
    of_both (λ (r : Cursor). Own r.fault.number) (bad && clear c) (record { at = c.at; fault = refusal number (c.at - back) }) c
    (inl (omega arith)) h

-- whether a row's number may be read is asked only where nothing was refused, so rows are told apart by the fault
own_by : {R A : Type 0} (P : A → Type 0) (on : Bool) (k : Codec) (d : ℕ) (v : R → ℕ) (rest : ℕ → Table R A) → Reads P (row on k d v rest)
    → (s : List ℕ) (c : Cursor) (b : Bool)
    → clear (field s on k d c).next ≡ b → Own (field s on k d c).next.fault.number
    → (Reads P (rest (field s on k d c).value) → Own (read (rest (field s on k d c).value) s (field s on k d c).next).next.fault.number)
    → Own (read (rest (field s on k d c).value) s (field s on k d c).next).next.fault.number
unfolding Reads
own_by P on k d v rest r s c true e h go = go (r (field s on k d c).value (field_may s on k d c e))
own_by P on k d v rest r s c false e h go = rw (fault_stays (rest (field s on k d c).value) s (field s on k d c).next e) h

-- refused, the number is a field's own
pub read_own : {R A : Type 0} (P : A → Type 0) (t : Table R A) → Reads P t → (s : List ℕ) (c : Cursor) → Own c.fault.number
    → Own (read t s c).next.fault.number
unfolding read Reads
read_own P (ends a) r s c h = h
read_own P (row on k d v rest) r s c h =
    let f = field s on k d c in
    let o : Own f.next.fault.number = field_own s on k d c h in
    own_by P on k d v rest r s c (clear f.next) refl o (λ q. read_own P (rest f.value) q s f.next o)
read_own P (fails bad number back rest) r s c h = read_own P rest r.1 s (failed bad number back c) (failed_own bad number back c r.0 h)

-- tables one after another, inside each other, and repeated
pub reads_bind : {R A B : Type 0} (Q : A → Type 0) (P : B → Type 0) (t : Table R A) (f : A → Table R B) → Reads Q t → ((a : A) → Q a → Reads P (f a))
    → Reads P (bind t f)
unfolding bind Reads
reads_bind Q P (ends a) f r h = h a r
reads_bind Q P (row on k d v rest) f r h = λ n m. reads_bind Q P (rest n) f (r n m) h
reads_bind Q P (fails bad number back rest) f r h = (r.0, reads_bind Q P rest f r.1 h)

pub reads_within : {R S A : Type 0} (P : A → Type 0) (g : R → S) (t : Table S A) → Reads P t → Reads P (within g t)
unfolding within Reads
reads_within P g (ends a) r = r
reads_within P g (row on k d v rest) r = λ n m. reads_within P g (rest n) (r n m)
reads_within P g (fails bad number back rest) r = (r.0, reads_within P g rest r.1)

pub reads_inside : {R S A B : Type 0} (Q : A → Type 0) (P : B → Type 0) (g : R → S) (t : Table S A) (f : A → Table R B) → Reads Q t
    → ((a : A) → Q a → Reads P (f a))
    → Reads P (bind (within g t) f)
reads_inside Q P g t f r h = reads_bind Q P (within g t) f (reads_within Q g t r) h

-- nothing is said of what is handed on
abbrev pub Any : {A : Type 0} → A → Type 0
Any a = Unit {0}

pub reads_times : {R A : Type 0} (count i : ℕ) (f : ℕ → Table R A) → ((j : ℕ) → Reads Any (f j)) → Reads Any (times count i f)
unfolding times Reads
reads_times zero i f h = tt
reads_times (suc count) i f h =
    reads_bind Any Any (f i) _ (h i) (λ a x. reads_bind Any Any (times count (suc i) f) _ (reads_times count (suc i) f h) (λ rest y. tt))

pub reads_pick : {R A : Type 0} (P : A → Type 0) (b : Bool) (x y : Table R A) → Reads P x → Reads P y → Reads P (pick b x y)
reads_pick P b x y h k = of_both (Reads P) b x y h k

reads_lengths : (count mask sum : ℕ) → Reads Any (lengths count mask sum)
unfolding lengths Reads
reads_lengths zero mask sum = tt
reads_lengths (suc count) mask sum = λ n m. reads_lengths count (mask / 2) (sum + n)

pub reads_extensions : (on : Bool) → Reads Any (extensions on)
unfolding extensions Reads
reads_extensions on = λ mask m. reads_bind Any Any (lengths 64 mask 0) _ (reads_lengths 64 mask 0) (λ sum x y z. tt)
