-- Laws of bits from whole bytes: many bits are those below and those above, a byte is its eight bits, a part of many bits is a remainder
-- of a quotient, and behind the end there are zeros.
use Rattle.std.proofs.Common.{◌≡◌, ℕ, zero, suc, ◌+◌, ◌-◌, ◌*◌, ◌/◌, ◌%◌, ◌^◌, ◌<◌, ◌≤◌, min, Bool, true, false, leb, List, length, get_or, sym, refl, ap, ◌∙◌, add-zero, add_assoc, add-suc, mod-eq_of_lt, mul_assoc, mul_comm, add-mul, add_comm, one-mul, zero-add, zero-mul, div-one, arith, lit<, pow-add, Fits, w8, slice_index_or, shl_exact, le-leb, leb-true}
use native.Mathlib.Nat.{zero-div, zero-mod, mod-one}
use mathlib.Core.Logic.{by_cases}
use native.Mathlib.Decide.{dec_le}
use borrow.Author.Tests.{lt-leb}
use lib.ListN.{get_or-eq_default}
use lib.Bits.{bit_and, bit_or, and_mask, or_shifted_r}
use lib.Pow.{high, low, mod-pow-add}
use Rattle.bits.specs.declared.window.Ahead.{Ahead}
use Rattle.bits.specs.Bits.{bit_at, bits_at, bit_count, ahead}
use Rattle.bits.proofs.Bits.{bits_lt}

-- the bits from p on are m of them, and above them those from p + m on
pub bits_add : (s : List ℕ) (p m n : ℕ) → bits_at s p (m + n) ≡ bits_at s (p + m) n * 2 ^ m + bits_at s p m
unfolding bits_at
bits_add s p m zero = rw (add-zero m, zero-mul (2 ^ m), zero-add (bits_at s p m)) refl
bits_add s p m (suc n) =
    rw (add-suc m n, bits_add s p m n, ← add_assoc p m n, pow-add 2 m n, mul_comm (2 ^ m) (2 ^ n), ← mul_assoc (bit_at s (p + m + n)) (2 ^ n) (2 ^ m), add-mul) (omega arith)

-- the lowest of many bits
pub low_of : (s : List ℕ) (p k n : ℕ) → n ≤ k → bits_at s p k % 2 ^ n ≡ bits_at s p n
low_of s p k n h =
    let sum : k ≡ n + (k - n) = omega arith in
    ap (λ (x : ℕ). bits_at s p x % 2 ^ n) sum
    ∙ ap (λ (x : ℕ). x % 2 ^ n) (bits_add s p n (k - n))
    ∙ low (bits_at s (p + n) (k - n)) n (bits_lt s p n)

-- all but the lowest of many bits
pub high_of : (s : List ℕ) (p k r : ℕ) → r ≤ k → bits_at s p k / 2 ^ r ≡ bits_at s (p + r) (k - r)
high_of s p k r h =
    let sum : k ≡ r + (k - r) = omega arith in
    ap (λ (x : ℕ). bits_at s p x / 2 ^ r) sum
    ∙ ap (λ (x : ℕ). x / 2 ^ r) (bits_add s p r (k - r))
    ∙ high (bits_at s (p + r) (k - r)) r (bits_lt s p r)

-- some bits amid many
pub part_of : (s : List ℕ) (p k r n : ℕ) → r + n ≤ k → bits_at s p k / 2 ^ r % 2 ^ n ≡ bits_at s (p + r) n
part_of s p k r n h = ap (λ (x : ℕ). x % 2 ^ n) (high_of s p k r (omega arith)) ∙ low_of s (p + r) (k - r) n (omega arith)

-- behind the last byte there are zeros
bit_past : (s : List ℕ) (p : ℕ) → 8 * length s ≤ p → bit_at s p ≡ 0
bit_past s p h = rw (get_or-eq_default s 0 {n = p / 8} (omega arith), zero-div, zero-mod) refl

bits_past : (s : List ℕ) (p n : ℕ) → 8 * length s ≤ p → bits_at s p n ≡ 0
unfolding bits_at
bits_past s p zero h = refl
bits_past s p (suc n) h = rw (bits_past s p n h, bit_past s (p + n) (omega arith), zero-mul (2 ^ n)) refl

ended : (s : List ℕ) (p k n : ℕ) → 8 * length s ≤ p + k → bits_at s p (k + n) ≡ bits_at s p k
ended s p k n h = bits_add s p k n ∙ rw (bits_past s (p + k) n h, zero-mul (2 ^ k), zero-add (bits_at s p k)) refl

-- a byte's lowest bits
byte_low : (s : List ℕ) (i j : ℕ) → j ≤ 8 → bits_at s (8 * i) j ≡ get_or s i 0 % 2 ^ j
unfolding bits_at
byte_low s i zero h = sym (mod-one _)
byte_low s i (suc j) h =
    let byte : (8 * i + j) / 8 ≡ i = omega arith in
    let bit : (8 * i + j) % 8 ≡ j = omega arith in
    let next : suc j ≡ 1 + j = omega arith in
    rw (byte_low s i j (omega arith), byte, bit) (add_comm _ _ ∙ sym (mod-pow-add (get_or s i 0) 1 j) ∙ ap (λ (x : ℕ). get_or s i 0 % 2 ^ x) (sym next))

-- a byte is its eight bits
pub byte_first : (s : List ℕ) (i b : ℕ) → b < 256 → b ≡ get_or s i 0 → b ≡ bits_at s (8 * i) 8
byte_first s i b h e = sym (byte_low s i 8 (omega arith) ∙ rw (← e) (mod-eq_of_lt h))

-- one byte more: what was gathered stays below
pub byte_more : (s : List ℕ) (i v b k : ℕ) → k < 8 → b < 256 → b ≡ get_or s (i + k) 0 → v ≡ bits_at s (8 * i) (8 * k)
    → bit_or v (b * 2 ^ (8 * k) % 18446744073709551616) ≡ bits_at s (8 * i) (8 * (k + 1))
byte_more s i v b k h b< eb ev =
    let below : v < 2 ^ (8 * k) = rw ev (bits_lt s (8 * i) (8 * k)) in
    let joined : bit_or v (b * 2 ^ (8 * k) % 18446744073709551616) ≡ b * 2 ^ (8 * k) + v = rw (shl_exact 8 (8 * k) 64 b< (omega arith), or_shifted_r b (8 * k) v below) in
    let place : 8 * i + 8 * k ≡ 8 * (i + k) = omega arith in
    let more : 8 * (k + 1) ≡ 8 * k + 8 = omega arith in
    let byte : bits_at s (8 * i + 8 * k) 8 ≡ b = ap (λ (x : ℕ). bits_at s x 8) place ∙ sym (byte_first s (i + k) b b< eb) in
    joined ∙ rw (more, bits_add s (8 * i) (8 * k) 8, byte, ev) refl

-- bytes up to the eighth or the last are a word
pub all_bytes : (s : List ℕ) (i n end : ℕ) → end ≡ min (length s) (i + 8) → end ≤ i + n → n ≤ 8 → bits_at s (8 * i) (8 * n) ≡ bits_at s (8 * i) 64
all_bytes s i n end ee he hn =
    by_cases (dec_le (length s) (i + n))
    (λ y. sym (ended s (8 * i) (8 * n) (64 - 8 * n) (omega (arith, y))) ∙ ap (bits_at s (8 * i)) (omega arith))
    (λ y. let eight : n ≡ 8 = omega (arith, y) in ap (λ (j : ℕ). bits_at s (8 * i) (8 * j)) eight)

-- what lies ahead, as the code has it: the bits from the word that holds them, and two tests
pub ahead_by : (s : List ℕ) (p b : ℕ) (w : Bool) → b ≡ bits_at s p 56 → w ≡ leb (p / 8 + 8) (min (length s) 16777216) → ◌≡◌ {A = Ahead} (record { bits = b; whole = w }) (ahead s p)
unfolding ahead
ahead_by s p b w eb ew = rw (eb, ew)

pub from_word : (s : List ℕ) (p w r b : ℕ) → w ≡ bits_at s (8 * (p / 8)) 64 → r ≡ p % 8 → b ≡ w / 2 ^ r % 2 ^ 56 → b ≡ bits_at s p 56
from_word s p w r b ew er eb =
    let place : 8 * (p / 8) + p % 8 ≡ p = omega arith in
    eb ∙ rw (ew, er) (part_of s (8 * (p / 8)) 64 (p % 8) 56 (omega arith) ∙ ap (λ (q : ℕ). bits_at s q 56) place)

pub whole_here : (p n : ℕ) → p / 8 < min n 16777216 - 7 → true ≡ leb (p / 8 + 8) (min n 16777216)
whole_here p n h = sym (le-leb (p / 8 + 8) (min n 16777216) (omega arith))

pub not_whole : (p n : ℕ) → min n 16777216 - 7 ≤ p / 8 → false ≡ leb (p / 8 + 8) (min n 16777216)
not_whole p n h = sym (lt-leb (p / 8 + 8) (min n 16777216) (omega arith))

-- where eight bytes are ahead, so are up to 56 bits
pub whole_reaches : (s : List ℕ) (p n : ℕ) (w : Bool) → w ≡ (ahead s p).whole → w ≡ true → n ≤ 56 → p + n ≤ bit_count s
unfolding ahead
whole_reaches s p n w e t h = omega (arith, leb-true (p / 8 + 8) (min (length s) 16777216) (sym e ∙ t))

-- a field's bits are among those ahead, r behind the place
pub peeked_after : (s : List ℕ) (p r n w v : ℕ) → n ≤ 32 → r + n ≤ 56 → w ≡ (ahead s p).bits → v ≡ w / 2 ^ r % 2 ^ min n 32 → v ≡ bits_at s (p + r) n
unfolding ahead
peeked_after s p r n w v h hr ew ev =
    let all : min n 32 ≡ n = omega arith in
    ev ∙ rw (all, ew) (part_of s p 56 r n hr)

-- at the place itself they are the lowest
pub peeked : (s : List ℕ) (p n w v : ℕ) → n ≤ 32 → w ≡ (ahead s p).bits → v ≡ w % 2 ^ min n 32 → v ≡ bits_at s p n
peeked s p n w v h ew ev =
    peeked_after s p 0 n w v h (omega arith) ew (ev ∙ ap (λ (x : ℕ). x % 2 ^ min n 32) (sym (div-one w))) ∙ ap (λ (q : ℕ). bits_at s q n) (add-zero p)

-- one, shifted up by k, is 2 ^ k; less one it is the mask of k bits
pub one_shifted : (k : ℕ) → k ≤ 32 → 1 * 2 ^ k % 18446744073709551616 ≡ 2 ^ k
one_shifted k h = shl_exact {a = 1} 1 k 64 (lit< tt) (omega arith) ∙ one-mul (2 ^ k)

pub masked : (v k : ℕ) → k ≤ 32 → bit_and v (1 * 2 ^ k % 18446744073709551616 - 1) ≡ v % 2 ^ k
masked v k h = rw (one_shifted k h) (and_mask v k)

-- a byte of the lent ones is below 256
pub bytes_lt : (s : List ℕ) → ((i : ℕ) → Fits w8 (slice_index_or s i 0)) → (b i : ℕ) → b ≡ slice_index_or s i 0 → b < 256
bytes_lt s fits b i e = rw e (fits i).fits
