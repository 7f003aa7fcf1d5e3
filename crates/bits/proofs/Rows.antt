-- Laws of reading a table step by step: a row, a table inside another, and what follows.
use Rattle.std.proofs.Common.{◌≡◌, ℕ, zero, suc, Bool, List, [], ◌∷◌, refl, ◌∙◌}
use Rattle.bits.specs.declared.Read.{Read}
use Rattle.bits.specs.declared.Cursor.{Cursor}
use Rattle.bits.specs.Codec.{Codec, field}
use Rattle.bits.specs.Table.{Table, ends, row, read, bind, within, times}
use Rattle.bits.proofs.Tables.{read_bind, read_within}

-- the table t, read at c, comes to o
pub record Reads {R A : Type 0} (t : Table R A) (s : List ℕ) (c : Cursor) (o : Read A) : Type 0 where
  pub is : read t s c ≡ o

module _ {R A : Type 0} {s : List ℕ} {c : Cursor} {o : Read A} where
  -- a row, and then the rest by the field that was read
  pub row_then : {on : Bool} {k : Codec} {d : ℕ} {v : R → ℕ} {rest : ℕ → Table R A} (f : Read ℕ) → f ≡ field s on k d c
      → Reads (rest f.value) s f.next o → Reads (row on k d v rest) s c o
  unfolding read
  row_then f e r = record { is = rw (← e) r.is }

  -- a table, and then the rest by what it handed on
  pub bind_then : {B : Type 0} (t : Table R B) (f : B → Table R A) (v : B) (next : Cursor) → Reads t s c (record { value = v; next = next })
      → Reads (f v) s next o → Reads (bind t f) s c o
  bind_then t f v next e r = record { is = read_bind t f s c ∙ rw e.is r.is }

  -- the same of a table that stands in a part of the record
  pub within_then : {S B : Type 0} (g : R → S) (t : Table S B) (f : B → Table R A) (v : B) (next : Cursor)
      → Reads t s c (record { value = v; next = next }) → Reads (f v) s next o → Reads (bind (within g t) f) s c o
  within_then g t f v next e r = bind_then (within g t) f v next (record { is = read_within g t s c ∙ e.is }) r

pub at_end : {R A : Type 0} {a : A} {s : List ℕ} {c : Cursor} → Reads {R = R} (ends a) s c (record { value = a; next = c })
unfolding read
at_end = record { is = refl }

-- an array: one element, and then the others
module _ {R A : Type 0} {s : List ℕ} {c : Cursor} where
  pub times_then : (n i : ℕ) (f : ℕ → Table R A) (v : A) (next : Cursor) {vs : List A} {last : Cursor}
      → Reads (f i) s c (record { value = v; next = next }) → Reads (times n (suc i) f) s next (record { value = vs; next = last })
      → Reads (times (suc n) i f) s c (record { value = v ∷ vs; next = last })
  unfolding times
  times_then n i f v next one more = bind_then (f i) _ v next one (bind_then (times n (suc i) f) _ _ _ more at_end)

  pub times_end : (i : ℕ) (f : ℕ → Table R A) → Reads (times zero i f) s c (record { value = []; next = c })
  unfolding times
  times_end i f = at_end
