-- A bundle is a table of fields, as the Rust's `define_bundle!` is, and one interpreter reads every table.
use Rattle.std.specs.Prelude.{ℕ, zero, suc, ◌-◌, Bool, ◌&&◌, List, [], ◌∷◌}
use Rattle.bits.specs.declared.Read.{Read}
use Rattle.bits.specs.declared.Cursor.{Cursor}
use Rattle.bits.specs.Refusals.{pick, refusal, clear}
use Rattle.bits.specs.Codec.{Codec, field}

-- R is what the bundle makes, A what is handed on.
--   row: whether it stands there, its type, its default, its number in R, and the rest by what was read
--   fails: a test on what was read; where it holds, a refusal so many bits back
pub data Table (R A : Type 0) : Type 0 where
  ends : A → Table R A
  row : Bool → Codec → ℕ → (R → ℕ) → (ℕ → Table R A) → Table R A
  fails : Bool → ℕ → ℕ → Table R A → Table R A

-- a refusal so many bits back, unless there was one before
unfoldable pub failed : Bool → ℕ → ℕ → Cursor → Cursor
failed bad number back c =
    pick (bad && clear c) (record { at = c.at; fault = refusal number (c.at - back) }) c

unfoldable pub read : {R A : Type 0} → Table R A → List ℕ → Cursor → Read A
read (ends a) s c = record { value = a; next = c }
read (row on k d v rest) s c = read (rest (field s on k d c).value) s (field s on k d c).next
read (fails bad number back rest) s c = read rest s (failed bad number back c)

-- one table after another
unfoldable pub bind : {R A B : Type 0} → Table R A → (A → Table R B) → Table R B
bind (ends a) f = f a
bind (row on k d v rest) f = row on k d v (λ n. bind (rest n) f)
bind (fails bad number back rest) f = fails bad number back (bind rest f)

-- a bundle inside another: its numbers stand in a part of the outer one
unfoldable pub within : {R S A : Type 0} → (R → S) → Table S A → Table R A
within g (ends a) = ends a
within g (row on k d v rest) = row on k d (λ r. v (g r)) (λ n. within g (rest n))
within g (fails bad number back rest) = fails bad number back (within g rest)

-- an array: count times, the number of the element from i on
unfoldable pub times : {R A : Type 0} → ℕ → ℕ → (ℕ → Table R A) → Table R (List A)
times zero i f = ends []
times (suc count) i f = bind (f i) λ a. bind (times count (suc i) f) λ rest. ends (a ∷ rest)
