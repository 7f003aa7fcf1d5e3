-- The columns of a table give back what was read: along a reading, for every row that stands there, the column of the record is the number that was
-- read. One induction each for tables one after another, inside each other and repeated; the crates above have the instances.
use Rattle.std.proofs.Common.{◌≡◌, ℕ, zero, suc, ◌+◌, ◌-◌, ◌%◌, ◌<◌, Bool, true, false, ◌&&◌, eqb, leb, List, ◌∷◌, get_or, sym, refl, ap, ◌∙◌, add-zero, add-suc, suc-add, arith}
use mathlib.Core.Bool.{false≢true}
use Rattle.bits.specs.declared.Read.{Read}
use Rattle.bits.specs.declared.Cursor.{Cursor}
use Rattle.bits.specs.Refusals.{pick, clear}
use Rattle.bits.specs.Bits.{bits_at, bit_count, there}
use Rattle.bits.specs.Steps.{Steps, gives, refuses, cut_at, run}
use Rattle.bits.specs.Codec.{u64, padding, skip, steps, field}
use Rattle.bits.specs.Table.{Table, ends, row, fails, failed, read, bind, within, times}
use Rattle.bits.specs.Extensions.{lengths, extensions}
use Rattle.bits.proofs.Tables.{read_bind, read_within}
use Rattle.bits.proofs.Rows.{times_then}
use Rattle.bits.proofs.Reading.{picked}

-- along the reading of t from s at c, the columns of r give the numbers that were read
unfoldable pub Columns : {R A : Type 0} → Table R A → List ℕ → Cursor → R → Type 0
Columns (ends a) s c r = Unit {0}
Columns (row on k d v rest) s c r = (on ≡ true → v r ≡ (field s on k d c).value) × Columns (rest (field s on k d c).value) s (field s on k d c).next r
Columns (fails bad number back rest) s c r = Columns rest s (failed bad number back c) r

-- ---- tables one after another, inside each other, and repeated

pub columns_bind : {R A B : Type 0} (t : Table R A) (f : A → Table R B) (s : List ℕ) (c : Cursor) (r : R)
    → Columns t s c r → Columns (f (read t s c).value) s (read t s c).next r → Columns (bind t f) s c r
unfolding Columns read bind
columns_bind (ends a) f s c r x y = y
columns_bind (row on k d v rest) f s c r x y = (x.0, columns_bind (rest (field s on k d c).value) f s (field s on k d c).next r x.1 y)
columns_bind (fails bad number back rest) f s c r x y = columns_bind rest f s (failed bad number back c) r x y

pub columns_within : {R S A : Type 0} (g : R → S) (t : Table S A) (s : List ℕ) (c : Cursor) (r : R) → Columns t s c (g r) → Columns (within g t) s c r
unfolding Columns within
columns_within g (ends a) s c r x = tt
columns_within g (row on k d v rest) s c r x = (x.0, columns_within g (rest (field s on k d c).value) s (field s on k d c).next r x.1)
columns_within g (fails bad number back rest) s c r x = columns_within g rest s (failed bad number back c) r x

pub columns_inside : {R S A B : Type 0} (g : R → S) (t : Table S A) (f : A → Table R B) (s : List ℕ) (c : Cursor) (r : R)
    → Columns t s c (g r) → Columns (f (read t s c).value) s (read t s c).next r → Columns (bind (within g t) f) s c r
columns_inside g t f s c r x y = columns_bind (within g t) f s c r (columns_within g t s c r x) (rw (read_within g t s c) y)

-- an array: under a condition, `at j` is what was read as element j, and by that each element's columns hold
module _ {R A : Type 0} (f : ℕ → Table R A) (s : List ℕ) (r : R) (when : Type 0) (at : ℕ → A) (d : A)
    (each : (j : ℕ) (c : Cursor) → (when → at j ≡ (read (f j) s c).value) → Columns (f j) s c r)
  where
    first : (n i : ℕ) (c : Cursor)
        → (read (times (suc n) i f) s c).value ≡ (read (f i) s c).value ∷ (read (times n (suc i) f) s (read (f i) s c).next).value
    unfolding times read
    first n i c =
        ap (λ (o : Read (List A)). o.value)
        (read_bind (f i) (λ a. bind (times n (suc i) f) λ rest. ends (a ∷ rest)) s c
        ∙ read_bind (times n (suc i) f) (λ rest. ends ((read (f i) s c).value ∷ rest)) s (read (f i) s c).next)

    pub columns_times : (n i : ℕ) (c : Cursor) → (when → (k : ℕ) → k < n → at (i + k) ≡ get_or (read (times n i f) s c).value k d)
        → Columns (times n i f) s c r
    unfolding times Columns
    columns_times zero i c h = tt
    columns_times (suc n) i c h =
        let here : when → at i ≡ (read (f i) s c).value =
        λ w. ap at (sym (add-zero i)) ∙ h w 0 (omega arith) ∙ ap (λ (l : List A). get_or l 0 d) (first n i c) in
        let there : when → (k : ℕ) → k < n → at (suc i + k) ≡ get_or (read (times n (suc i) f) s (read (f i) s c).next).value k d =
        λ w k l. ap at (suc-add i k ∙ sym (add-suc i k)) ∙ h w (suc k) (omega arith) ∙ ap (λ (l : List A). get_or l (suc k) d) (first n i c) in
        columns_bind (f i) _ s c r (each i c here)
        (columns_bind (times n (suc i) f) _ s (read (f i) s c).next r (columns_times n (suc i) (read (f i) s c).next there) tt)

-- what is read doesn't depend on the columns: elements that read the same make arrays that do
pub times_any : {R S A : Type 0} (f : ℕ → Table R A) (g : ℕ → Table S A) (s : List ℕ) → ((j : ℕ) (c : Cursor) → read (f j) s c ≡ read (g j) s c)
    → (n i : ℕ) (c : Cursor) → read (times n i f) s c ≡ read (times n i g) s c
unfolding times read
times_any f g s same zero i c = refl
times_any f g s same (suc n) i c =
    let one = read (g i) s c in
    let more = read (times n (suc i) g) s one.next in
    let mine = times_then n i f one.value one.next {vs = more.value} {last = more.next} (record { is = same i c }) (record { is = times_any f g s same n (suc i) one.next }) in
    let yours = times_then n i g one.value one.next {vs = more.value} {last = more.next} (record { is = refl }) (record { is = refl }) in
    mine.is ∙ sym yours.is

-- ---- a table of rows that ends in its record: over any numbers, what the rows ask of the record. `given` is what is known of it, `due` what the
-- rows before ask.

unfoldable pub Keeps : {R : Type 0} → Table R R → (R → Type 0) → (R → Type 0) → Type 0
Keeps (ends a) given due = given a → due a
Keeps (row on k d v rest) given due = (n : ℕ) → Keeps (rest n) given (λ r. (on ≡ true → v r ≡ n) × due r)
Keeps (fails bad number back rest) given due = Keeps rest given due

pub keeps_due : {R : Type 0} (t : Table R R) (given due : R → Type 0) → Keeps t given due → (s : List ℕ) (c : Cursor) → given (read t s c).value
    → due (read t s c).value × Columns t s c (read t s c).value
unfolding Keeps Columns read
keeps_due (ends a) given due k s c g = (k g, tt)
keeps_due (row on codec d v rest) given due k s c g =
    let f = field s on codec d c in
    let more = keeps_due (rest f.value) given (λ r. (on ≡ true → v r ≡ f.value) × due r) (k f.value) s f.next g in
    (more.0.1, (more.0.0, more.1))
keeps_due (fails bad number back rest) given due k s c g = keeps_due rest given due k s (failed bad number back c) g

-- such a table keeps its numbers
abbrev pub Kept : {R : Type 0} → Table R R → (R → Type 0) → Type 0
Kept t given = Keeps t given (λ r. Unit {0})

-- one row more, whose column is the number
pub kept : {P Q : Type 0} {n : ℕ} → Q → (P → n ≡ n) × Q
kept q = (λ on. refl, q)

pub kept_columns : {R : Type 0} (t : Table R R) (given : R → Type 0) → Kept t given → (s : List ℕ) (c : Cursor) → given (read t s c).value
    → Columns t s c (read t s c).value
kept_columns t given k s c g = (keeps_due t given (λ r. Unit {0}) k s c g).1

-- ---- rows whose number is bounded, or always 0

pub padding_zero : (s : List ℕ) (on : Bool) (c : Cursor) → (field s on padding 0 c).value ≡ 0
unfolding field run
padding_zero s on c =
    let n : ℕ = (8 - c.at % 8) % 8 in
    let x : ℕ = bits_at s c.at n in
    picked (λ (r : Read ℕ). r.value ≡ 0) (on && clear c) (run (steps padding c.at) s c.at c.at) (record { value = 0; next = c })
    (λ e.
    picked (λ (r : Read ℕ). r.value ≡ 0) (there s c.at n) (run (pick (eqb x 0) (gives 0) (refuses 12)) s c.at (c.at + n)) (cut_at s c.at (c.at + n))
    (λ e. picked (λ (t : Steps). (run t s c.at (c.at + n)).value ≡ 0) (eqb x 0) (gives 0) (refuses 12) (λ e. refl) (λ e. refl))
    (λ e. refl))
    (λ e. refl)

skip_zero : (s : List ℕ) (on : Bool) (n : ℕ) (c : Cursor) → (field s on (skip n) 0 c).value ≡ 0
unfolding field run
skip_zero s on n c =
    picked (λ (r : Read ℕ). r.value ≡ 0) (on && clear c) (run (steps (skip n) c.at) s c.at c.at) (record { value = 0; next = c })
    (λ e.
    picked (λ (r : Read ℕ). r.value ≡ 0) (leb (c.at + n) (bit_count s)) (run (gives 0) s c.at (c.at + n)) (cut_at s c.at (c.at + n)) (λ e. refl) (λ e. refl))
    (λ e. refl)

-- ---- the extensions, of which nothing is kept: where their mask was read as 0

lengths_columns : (s : List ℕ) (n sum : ℕ) (c : Cursor) → Columns (lengths n 0 sum) s c tt
unfolding lengths Columns
lengths_columns s zero sum c = tt
lengths_columns s (suc n) sum c = (λ on. absurd (false≢true on), lengths_columns s n (sum + (field s false u64 0 c).value) (field s false u64 0 c).next)

pub extensions_columns : (s : List ℕ) (on : Bool) (c : Cursor) → (field s on u64 0 c).value ≡ 0 → Columns (extensions on) s c tt
unfolding extensions Columns
extensions_columns s on c none =
    let mask = field s on u64 0 c in
    let ask : Columns (lengths 64 mask.value 0) s mask.next tt = rw none (lengths_columns s 64 0 mask.next) in
    (λ on. sym none, columns_bind (lengths 64 mask.value 0) _ s mask.next tt ask (λ there. sym (skip_zero s on _ _), tt))
