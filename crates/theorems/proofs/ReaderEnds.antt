-- The public functions that read: their cursor has the fault before, or 4 or another of their field types, at a place within the input.
use Prim.Native.Nat.{ℕ, ◌+◌, ◌-◌, ◌%◌, ◌≤◌}
use native.Mathlib.Nat.{le_refl}
use mathlib.Core.Path.{◌≡◌, refl}
use mathlib.Core.Logic.{◌⊎◌, inl, inr}
use mathlib.Core.List.{List, [], ◌∷◌}
use mathlib.Core.Bool.{Bool, true, ◌&&◌}
use lib.Dec.{eqb}
use lib.Ieee.{Float}
use Rattle.bits.specs.declared.Read.{Read}
use Rattle.bits.specs.declared.Cursor.{Cursor}
use Rattle.bits.specs.declared.Choices.{Choices}
use Rattle.bits.specs.declared.Sum.{Sum}
use Rattle.bits.specs.Refusals.{clear}
use Rattle.bits.specs.Bits.{bits_at, bit_count}
use Rattle.bits.specs.Steps.{Steps, gives, refuses, cut, run}
use Rattle.bits.specs.Codec.{u, bool, u32, cases, u64, f16, padding, skip, steps, field}
use Rattle.bits.specs.Table.{ends, fails, failed, read}
use Rattle.bits.specs.Extensions.{whole, extensions}
use Rattle.bits.proofs.Reading.{padding_there, of_both}
use Rattle.filter.specs.Values.{float, floats}
use Rattle.filter.specs.Gabor.{channel, gabor}
use Rattle.filter.specs.Epf.{sharp, scale, sigma, epf}
use Rattle.filter.specs.Filter.{restoration}
use Rattle.theorems.specs.Refusing.{among, rules, placed, Refuses, Hands, of_bits, of_enum, of_padding, of_half, of_filter}
use Rattle.theorems.proofs.Refusing.{refuses_none, refuses_with}
use Rattle.theorems.proofs.Readers.{Own, own_bind, own_inside, own_times, own_extensions, own_more, read_hands, field_hands}

-- ---- bits and numbers

pub read_bits_if : (s : List ℕ) (c : Cursor) (on : Bool) (n d : ℕ) → Hands of_bits s c (field s on (u n) d c).next
read_bits_if s c on n d = field_hands of_bits refl s on (u n) d c refl

pub read_bits : (s : List ℕ) (c : Cursor) (n : ℕ) → Hands of_bits s c (field s true (u n) 0 c).next
read_bits s c n = read_bits_if s c true n 0

pub read_bool_if : (s : List ℕ) (c : Cursor) (on : Bool) (d : ℕ) → Hands of_bits s c (field s on bool d c).next
read_bool_if s c on d = field_hands of_bits refl s on bool d c refl

pub read_bool : (s : List ℕ) (c : Cursor) → Hands of_bits s c (field s true bool 0 c).next
read_bool s c = read_bool_if s c true 0

pub zero_pad_to_byte : (s : List ℕ) (c : Cursor) → Hands of_padding s c (field s true padding 0 c).next
zero_pad_to_byte s c = field_hands of_padding refl s true padding 0 c refl

-- 4 only from a cursor behind the end of the input: a padding is always there
padded : (s : List ℕ) (p : ℕ) → p ≤ bit_count s → Refuses (12 ∷ []) (bit_count s) (run (steps padding p) s p p).next.fault
unfolding run
padded s p i =
    let n : ℕ = (8 - p % 8) % 8 in
    rw (padding_there s p i)
    (of_both (λ (t : Steps). Refuses (12 ∷ []) (bit_count s) (run t s p (p + n)).next.fault) (eqb (bits_at s p n) 0) (gives 0) (refuses 12)
    (refuses_none (12 ∷ []) (bit_count s) refl) (refuses_with (12 ∷ []) (bit_count s) 12 p refl refl refl i))

pub zero_pad_within : (s : List ℕ) (c : Cursor) → c.at ≤ bit_count s
    → ((field s true padding 0 c).next.fault ≡ c.fault) ⊎ Refuses (12 ∷ []) (bit_count s) (field s true padding 0 c).next.fault
unfolding field
zero_pad_within s c i =
    of_both (λ (r : Read ℕ). (r.next.fault ≡ c.fault) ⊎ Refuses (12 ∷ []) (bit_count s) r.next.fault) (true && clear c)
    (run (steps padding c.at) s c.at c.at) (record { value = 0; next = c })
    (inr (padded s c.at i)) (inl refl)

-- the caller's number
pub refuse_if : (l : List ℕ) → rules l ≡ true → (s : List ℕ) (c : Cursor) (bad : Bool) (number back : ℕ)
    → among l number ≡ true → among placed number ≡ true → Hands l s c (failed bad number back c)
unfolding read Own
refuse_if l ok s c bad number back h p = read_hands l ok {R = ℕ} {A = ℕ} s (fails bad number back (ends 0)) (h, p, tt) c

pub cut_refuses : (s : List ℕ) (p end : ℕ) → Refuses of_bits p (cut s p end)
unfolding cut
cut_refuses s p end = refuses_with of_bits p 4 p refl refl refl (le_refl p)

pub read_u32_if : (s : List ℕ) (c : Cursor) (on : Bool) (k : Choices) (d : ℕ) → Hands of_bits s c (field s on (u32 k) d c).next
read_u32_if s c on k d = field_hands of_bits refl s on (u32 k) d c refl

pub read_u32 : (s : List ℕ) (c : Cursor) (k : Choices) → Hands of_bits s c (field s true (u32 k) 0 c).next
read_u32 s c k = read_u32_if s c true k 0

pub read_enum_if : (s : List ℕ) (c : Cursor) (on : Bool) (k : Choices) (n d : ℕ) → Hands of_enum s c (field s on (cases k n) d c).next
read_enum_if s c on k n d = field_hands of_enum refl s on (cases k n) d c refl

pub read_u64_if : (s : List ℕ) (c : Cursor) (on : Bool) (d : ℕ) → Hands of_bits s c ((field s on u64 d c)).next
read_u64_if s c on d = field_hands of_bits refl s on u64 d c refl

pub read_u64 : (s : List ℕ) (c : Cursor) → Hands of_bits s c ((field s true u64 0 c)).next
read_u64 s c = read_u64_if s c true 0

pub read_f16_if : (s : List ℕ) (c : Cursor) (on : Bool) (d : ℕ) → Hands of_half s c (field s on f16 d c).next
read_f16_if s c on d = field_hands of_half refl s on f16 d c refl

pub skip_bits_if : (s : List ℕ) (c : Cursor) (on : Bool) (n : Sum) → Hands of_bits s c (field s on (skip (whole n)) 0 c).next
skip_bits_if s c on n = field_hands of_bits refl s on (skip (whole n)) 0 c refl

pub read_extensions_if : (s : List ℕ) (c : Cursor) (on : Bool) → Hands of_bits s c (read (extensions on) s c).next
read_extensions_if s c on = read_hands of_bits refl s (extensions on) (own_extensions of_bits refl on) c

-- ---- the filters

own_channel : (on : Bool) (i : ℕ) → Own of_filter (channel on i)
unfolding channel Own
own_channel on i = (refl, λ a. (refl, λ b. (refl, refl, tt)))

own_gabor : (on : Bool) → Own of_filter (gabor on)
unfolding gabor Own
own_gabor on = (
  refl,
  λ enabled. (
    refl,
    λ own.
        own_bind of_filter _ _ (own_channel _ 0) (λ x.
        own_bind of_filter _ _ (own_channel _ 1) (λ y.
        own_bind of_filter _ _ (own_channel _ 2) (λ z. tt))),
  ),
)

own_float : {R : Type 0} (on : Bool) (d : ℕ) (column : R → ℕ) → Own of_half (float on d column)
unfolding float Own
own_float on d column = (refl, λ h. tt)

own_floats : {R : Type 0} (on : Bool) (count : ℕ) (values : R → List Float) → Own of_half (floats on count values)
unfolding floats
own_floats on count values = own_times of_half count 0 _ (λ i. own_float on 0 _)

own_sharp : (on : Bool) → Own of_half (sharp on)
unfolding sharp Own
own_sharp on = (refl, λ own. own_bind of_half _ _ (own_floats _ 8 _) (λ values. tt))

own_scale : (on : Bool) → Own of_half (scale on)
unfolding scale Own
own_scale on = (refl, λ own. own_bind of_half _ _ (own_floats _ 3 _) (λ values. (refl, λ ignored. tt)))

own_sigma : (on modular : Bool) → Own of_half (sigma on modular)
unfolding sigma Own
own_sigma on modular = (
  refl,
  λ own.
      own_bind of_half _ _ (own_float _ 0 _) (λ q.
      own_bind of_half _ _ (own_float _ 0 _) (λ a.
      own_bind of_half _ _ (own_float _ 0 _) (λ b.
      own_bind of_half _ _ (own_float _ 0 _) (λ d. tt)))),
)

own_epf : (on modular : Bool) → Own of_half (epf on modular)
unfolding epf Own
own_epf on modular = (
  refl,
  λ iters.
      own_inside of_half _ _ _ (own_sharp _) (λ lut.
      own_inside of_half _ _ _ (own_scale _) (λ scales.
      own_inside of_half _ _ _ (own_sigma _ modular) (λ four.
      own_bind of_half _ _ (own_float _ 15360 _) (λ m. tt)))),
)

own_edges : (on modular : Bool) → Own of_filter (epf on modular)
own_edges on modular = own_more of_filter of_half refl (epf on modular) (own_epf on modular)

pub own_restoration : (on modular : Bool) → Own of_filter (restoration on modular)
unfolding restoration Own
own_restoration on modular = (
  refl,
  λ all.
      own_inside of_filter _ _ _ (own_gabor _) (λ gab.
      own_inside of_filter _ _ _ (own_edges _ modular) (λ edges.
      own_inside of_filter _ _ _ (own_extensions of_filter refl _) (λ skipped. tt))),
)

pub read_gabor_if : (s : List ℕ) (c : Cursor) (on : Bool) → Hands of_filter s c ((read (gabor on) s c)).next
read_gabor_if s c on = read_hands of_filter refl s (gabor on) (own_gabor on) c

pub read_epf_if : (s : List ℕ) (c : Cursor) (on modular : Bool) → Hands of_half s c ((read (epf on modular) s c)).next
read_epf_if s c on modular = read_hands of_half refl s (epf on modular) (own_epf on modular) c

pub read_restoration_filter_if : (s : List ℕ) (c : Cursor) (on modular : Bool)
    → Hands of_filter s c ((read (restoration on modular) s c)).next
read_restoration_filter_if s c on modular = read_hands of_filter refl s (restoration on modular) (own_restoration on modular) c
