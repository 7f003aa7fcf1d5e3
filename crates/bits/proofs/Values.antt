-- What values a field can have: a property of every number that its steps give, of 0 and of the default, is one of what is read.
use Rattle.std.proofs.Common.{ℕ, ◌+◌, ◌%◌, ◌^◌, ◌<◌, Bool, ◌&&◌, eqb, leb, List, arith, leb-false}
use Rattle.bits.specs.declared.Read.{Read}
use Rattle.bits.specs.declared.Choices.{Choices}
use Rattle.bits.specs.declared.Cursor.{Cursor}
use Rattle.bits.specs.Refusals.{clear}
use Rattle.bits.specs.Bits.{bits_at, bit_count, there}
use Rattle.bits.specs.Half.{exponent}
use Rattle.bits.specs.Steps.{Steps, gives, refuses, takes, skips, cut_at, run}
use Rattle.bits.specs.Codec.{Codec, u, bool, cases, f16, chosen, steps, field}
use Rattle.bits.proofs.Bits.{bits_lt}
use Rattle.bits.proofs.Reading.{picked}

-- every number that the steps give has the property, whatever bits they take
unfoldable pub Gives : (ℕ → Type 0) → Steps → Type 0
Gives P (gives v) = P v
Gives P (refuses number) = Unit {0}
Gives P (takes n rest) = (x : ℕ) → x < 2 ^ n → Gives P (rest x)
Gives P (skips n rest) = Gives P rest

module _ (P : ℕ → Type 0) (zero : P 0) (s : List ℕ) where
  pub run_gives : (t : Steps) (p q : ℕ) → Gives P t → P (run t s p q).value
  unfolding Gives run
  run_gives (gives v) p q h = h
  run_gives (refuses number) p q h = zero
  run_gives (takes n rest) p q h =
      picked (λ (r : Read ℕ). P r.value) (there s q n) (run (rest (bits_at s q n)) s p (q + n)) (cut_at s p (q + n))
      (λ e. run_gives (rest (bits_at s q n)) p (q + n) (h (bits_at s q n) (bits_lt s q n))) (λ e. zero)
  run_gives (skips n rest) p q h =
      picked (λ (r : Read ℕ). P r.value) (leb (q + n) (bit_count s)) (run rest s p (q + n)) (cut_at s p (q + n)) (λ e. run_gives rest p (q + n) h) (λ e. zero)

  pub field_gives : (on : Bool) (k : Codec) (d : ℕ) (c : Cursor) → P d → Gives P (steps k c.at) → P (field s on k d c).value
  unfolding field
  field_gives on k d c own h =
      picked (λ (r : Read ℕ). P r.value) (on && clear c) (run (steps k c.at) s c.at c.at) (record { value = d; next = c })
      (λ e. run_gives (steps k c.at) c.at c.at h) (λ e. own)

-- u(n) is below 2 ^ n
pub bits_small : (s : List ℕ) (on : Bool) (n d : ℕ) (c : Cursor) → 0 < 2 ^ n → d < 2 ^ n → (field s on (u n) d c).value < 2 ^ n
unfolding Gives
bits_small s on n d c some h = field_gives (λ v. v < 2 ^ n) some s on (u n) d c h (λ x l. l)

pub bool_small : (s : List ℕ) (on : Bool) (d : ℕ) (c : Cursor) → d < 2 → (field s on bool d c).value < 2
unfolding Gives
bool_small s on d c h = field_gives (λ v. v < 2) (omega arith) s on bool d c h (λ x l. l)

pub half_small : (s : List ℕ) (on : Bool) (d : ℕ) (c : Cursor) → d < 65536 → (field s on f16 d c).value < 65536
unfolding Gives
half_small s on d c h =
    field_gives (λ v. v < 65536) (omega arith) s on f16 d c h
    (λ x l. picked (Gives (λ v. v < 65536)) (eqb (exponent x) 31) (refuses 6) (gives x) (λ e. tt) (λ e. l))

-- a case of an enum is below the count of its cases
pub case_small : (s : List ℕ) (on : Bool) (k : Choices) (n d : ℕ) (c : Cursor) → 0 < n → d < n → (field s on (cases k n) d c).value < n
unfolding Gives
case_small s on k n d c some h =
    field_gives (λ v. v < n) some s on (cases k n) d c h
    (λ i _ x _.
    let v : ℕ = ((chosen k i).base + x) % 2 ^ 32 in
    picked (Gives (λ v. v < n)) (leb n v) (refuses 5) (gives v) (λ e. tt) (λ e. leb-false n v e))
