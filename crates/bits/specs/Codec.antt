-- The types of field that a header or a table of contents is made of, and how each is read.
use Rattle.std.specs.Prelude.{ℕ, zero, suc, ◌+◌, ◌-◌, ◌*◌, ◌/◌, ◌%◌, ◌^◌, Bool, ◌&&◌, List, ℤ, pos, neg_ℤ, ◌==◌, nat_le}
use Rattle.bits.specs.declared.Read.{Read}
use Rattle.bits.specs.declared.Cursor.{Cursor}
use Rattle.bits.specs.declared.Choice.{Choice}
use Rattle.bits.specs.declared.Choices.{Choices}
use Rattle.bits.specs.Refusals.{pick, clear}
use Rattle.bits.specs.Steps.{Steps, gives, refuses, takes, skips, run}
use Rattle.bits.specs.Half.{exponent}

pub data Codec : Type 0 where
  -- u(n), n up to 32
  u : ℕ → Codec
  -- one bit: 0 or 1
  bool : Codec
  -- one of four choices
  u32 : Choices → Codec
  -- a U32 whose value is a case of an enum with so many cases
  cases : Choices → ℕ → Codec
  u64 : Codec
  -- its value is the 16-bit pattern, whose number is `half`'s
  f16 : Codec
  -- to the next byte boundary
  padding : Codec
  -- so many bits, whatever they are
  skip : ℕ → Codec

-- a constant, and base + u(n)
abbrev pub val : ℕ → Choice
val c = record { base = c; bits = 0 }

abbrev pub plus : ℕ → ℕ → Choice
plus b n = record { base = b; bits = n }

-- the four choices of a U32
abbrev pub one_of : Choice → Choice → Choice → Choice → Choices
one_of a b c d = record { d0 = a; d1 = b; d2 = c; d3 = d }

-- the choice that the two-bit selector names
abbrev pub chosen : Choices → ℕ → Choice
chosen d k = pick (k == 0) d.d0 (pick (k == 1) d.d1 (pick (k == 2) d.d2 d.d3))

-- U32: the selector, then that choice; a 32-bit number
abbrev pub choice : Choices → (ℕ → Steps) → Steps
choice d rest = takes 2 λ k. takes (chosen d k).bits λ x. rest (((chosen d k).base + x) % 2 ^ 32)

-- U64 after u(12): while a one bit follows, u(8) at shift 12, 20, .. 52, and u(4) at shift 60, which ends it.
-- k is how many u(8) may still come, v what was read so far.
unfoldable pub more : ℕ → ℕ → Steps
more zero v = takes 1 λ b. pick (b == 0) (gives v) (takes 4 λ x. gives (v + x * 2 ^ 60))
more (suc k) v = takes 1 λ b. pick (b == 0) (gives v) (takes 8 λ x. more k (v + x * 2 ^ (52 - 8 * k)))

-- U64 by its selector: 0; 1 + u(4); 17 + u(8); u(12) and what follows
abbrev pub long : ℕ → Steps
long k =
    pick (k == 0) (gives 0)
    (pick (k == 1) (takes 4 λ x. gives (1 + x))
    (pick (k == 2) (takes 8 λ x. gives (17 + x))
    (takes 12 λ x. more 6 x)))

-- what a field that begins at p takes
abbrev pub steps : Codec → ℕ → Steps
steps (u n) p = takes n gives
steps bool p = takes 1 gives
steps (u32 d) p = choice d gives
steps (cases d n) p = choice d λ v. pick (nat_le n v) (refuses 5) (gives v)
steps u64 p = takes 2 long
steps f16 p = takes 16 λ h. pick (exponent h == 31) (refuses 6) (gives h)
steps padding p = takes ((8 - p % 8) % 8) λ x. pick (x == 0) (gives 0) (refuses 12)
steps (skip n) p = skips n (gives 0)

-- the field where it is asked for and nothing was refused before it; else the default, and the cursor as it was
unfoldable pub field : List ℕ → Bool → Codec → ℕ → Cursor → Read ℕ
field s on k d c = pick (on && clear c) (run (steps k c.at) s c.at c.at) (record { value = d; next = c })

-- Signed: an even u means u / 2, an odd u means minus (u + 1) / 2.
abbrev pub signed : ℕ → ℤ
signed n = pick (n % 2 == 0) (pos (n / 2)) (neg_ℤ (pos ((n + 1) / 2)))
