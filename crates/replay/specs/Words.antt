-- The numbers of a stored vector: 32 bits each, low byte first; bytes past the end count as 0.
use Rattle.std.specs.Prelude.{ℕ, zero, suc, ◌+◌, ◌*◌, ◌-◌, List, [], ◌∷◌, get_or, ℤ, pos, negsuc}
use Rattle.grid.specs.declared.Frame.{Frame}

unfoldable pub word_at : List ℕ → ℕ → ℕ
word_at s at = get_or s at 0 + get_or s (at + 1) 0 * 256 + get_or s (at + 2) 0 * 65536 + get_or s (at + 3) 0 * 16777216

-- 64 bits, the low half first
abbrev pub long_at : List ℕ → ℕ → ℕ
long_at s at = word_at s at + word_at s (at + 4) * 4294967296

-- four numbers, one after the other
unfoldable pub four_at : List ℕ → ℕ → List ℕ
four_at s at = word_at s at ∷ word_at s (at + 4) ∷ word_at s (at + 8) ∷ word_at s (at + 12) ∷ []

-- a frame's six numbers
unfoldable pub frame_at : List ℕ → ℕ → Frame
frame_at s at = record {
  width = word_at s at;
  height = word_at s (at + 4);
  upsampling = word_at s (at + 8);
  lf_level = word_at s (at + 12);
  group_size_shift = word_at s (at + 16);
  num_passes = word_at s (at + 20);
}

-- n values of a rule, from an index on
unfoldable pub listed : (ℕ → ℕ) → ℕ → ℕ → List ℕ
listed f i zero = []
listed f i (suc n) = f i ∷ listed f (i + 1) n

-- some numbers from a byte on
abbrev pub words_at : List ℕ → ℕ → ℕ → List ℕ
words_at s at n = listed (λ i. word_at s (at + 4 * i)) 0 n

-- n - 1, n - 2, .., 0
abbrev pub down : ℕ → List ℕ
down n = listed (λ i. n - 1 - i) 0 n

-- how far a number is from 0, or below 0 from -1
abbrev pub sized : ℤ → ℕ
sized (pos n) = n
sized (negsuc n) = n
