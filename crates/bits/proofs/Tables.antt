-- Laws of tables: one after another, one inside another, and the extensions bundle.
use Rattle.std.proofs.Common.{◌≡◌, ℕ, zero, suc, ◌+◌, ◌-◌, ◌/◌, ◌%◌, ◌^◌, ◌<◌, Bool, true, false, not, ◌&&◌, eqb, List, sym, refl, ap, ◌∙◌, add-zero, pow-suc, arith}
use Rattle.bits.specs.declared.Read.{Read}
use Rattle.bits.specs.declared.Cursor.{Cursor}
use Rattle.bits.specs.Refusals.{refusal, clear}
use Rattle.bits.specs.Codec.{Codec, u64, skip, field}
use Rattle.bits.specs.Table.{Table, ends, row, fails, failed, read, bind, within}
use Rattle.bits.specs.Extensions.{lengths, extensions}

-- one table after another is read one after the other
pub read_bind : {R A B : Type 0} (t : Table R A) (f : A → Table R B) (s : List ℕ) (c : Cursor)
    → read (bind t f) s c ≡ read (f (read t s c).value) s (read t s c).next
unfolding read bind
read_bind (ends a) f s c = refl
read_bind (row on k d v rest) f s c = read_bind (rest (field s on k d c).value) f s (field s on k d c).next
read_bind (fails bad number back rest) f s c = read_bind rest f s (failed bad number back c)

-- a bundle inside another reads as it does alone
pub read_within : {R S A : Type 0} (g : R → S) (t : Table S A) (s : List ℕ) (c : Cursor) → read (within g t) s c ≡ read t s c
unfolding read within
read_within g (ends a) s c = refl
read_within g (row on k d v rest) s c = read_within g (rest (field s on k d c).value) s (field s on k d c).next
read_within g (fails bad number back rest) s c = read_within g rest s (failed bad number back c)

-- a field that is not asked for
pub field_off : (s : List ℕ) (k : Codec) (d : ℕ) (c : Cursor) → field s false k d c ≡ record { value = d; next = c }
unfolding field
field_off s k d c = refl

-- a mask of 0 asks for no length
pub lengths_none : (s : List ℕ) (n sum : ℕ) (c : Cursor) → ◌≡◌ {A = Read ℕ} (read (lengths n 0 sum) s c) (record { value = sum; next = c })
unfolding read lengths field
lengths_none s zero sum c = refl
lengths_none s (suc n) sum c = lengths_none s n (sum + 0) c ∙ ap (λ (k : ℕ). record { value = k; next = c }) (add-zero sum)

-- one bit of the mask
pub lengths_step : (s : List ℕ) (n mask sum : ℕ) (c : Cursor) (w : Read ℕ) → (mask ≡ 0 → ⊥) → mask < 2 ^ n → w ≡ (field s (eqb (mask % 2) 1) u64 0 c)
    → (n' : ℕ) × (n ≡ suc n') × (mask / 2 < 2 ^ n') × (read (lengths n mask sum) s c ≡ read (lengths n' (mask / 2) (sum + w.value)) s w.next)
unfolding read lengths
lengths_step s zero mask sum c w some small e = absurd (some (omega arith))
lengths_step s (suc n) mask sum c w some small e =
    (n, refl, omega (arith, pow-suc 2 n), rw e)

-- the bundle: the lengths, and one skip of their sum
pub extensions_read : (s : List ℕ) (on : Bool) (c : Cursor) (m : Read ℕ) (sum : ℕ) (at r : Cursor) → m ≡ (field s on u64 0 c)
    → ◌≡◌ {A = Read ℕ} (read (lengths 64 m.value 0) s m.next) (record { value = sum; next = at })
    → r ≡ (field s on (skip sum) 0 at).next → r ≡ (read (extensions on) s c).next
unfolding read extensions
extensions_read s on c m sum at r em el er =
    let f = field s on u64 0 c in
    let el' : ◌≡◌ {A = Read ℕ} (read (lengths 64 f.value 0) s f.next) (record { value = sum; next = at }) = rw em at el in
    let is : read (extensions on) s c ≡ record { value = sum; next = (field s on (skip sum) 0 at).next } =
    read_bind (lengths 64 f.value 0) (λ sum. row on (skip sum) 0 (λ r. 0) λ x. ends sum) s f.next ∙ rw el' in
    er ∙ sym (ap (λ (o : Read ℕ). o.next) is)

-- a refusal on what was read
module _ (bad : Bool) (number back : ℕ) (c : Cursor) (i : Bool) (e : i ≡ not (bad && clear c)) where
  not_failed : (b : Bool) → (bad && clear c) ≡ b → i ≡ true → c ≡ failed bad number back c
  unfolding failed
  not_failed true h t = absurd (mathlib.Core.Bool.false≢true (sym (e ∙ ap not h) ∙ t))
  not_failed false h t = rw h

  has_failed : (b : Bool) → (bad && clear c) ≡ b → i ≡ false → ◌≡◌ {A = Cursor} (record { at = c.at; fault = refusal number (c.at - back) }) (failed bad number back c)
  unfolding failed
  has_failed true h t = rw h
  has_failed false h t = absurd (mathlib.Core.Bool.true≢false (sym (e ∙ ap not h) ∙ t))

  pub failed_not : i ≡ true → c ≡ failed bad number back c
  failed_not = not_failed (bad && clear c) refl

  pub failed_at : (p : ℕ) → p ≡ c.at - back → i ≡ false → ◌≡◌ {A = Cursor} (record { at = c.at; fault = refusal number p }) (failed bad number back c)
  failed_at p ep t = rw ep (has_failed (bad && clear c) refl t)
