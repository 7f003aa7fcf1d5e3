-- What covers the image.
use Prim.Native.Nat.{ℕ, suc, ◌+◌, ◌-◌, ◌/◌, ◌%◌, ◌≤◌, ◌<◌}
use native.Mathlib.Omega.{arith}
use native.Mathlib.Decide.{dec_le}
use mathlib.Core.Path.{◌≡◌, sym, ◌∙◌}
use mathlib.Core.Logic.{by_cases}
use mathlib.Core.Bool.{false}
use lib.Dec.{leb}
use lib.IntN.{pos, negsuc, ◌+ℤ◌}
use lib.Signed.{le_z}
use borrow.Author.Tests.{ne_eqb, le-leb, lt-leb, lt-ltb, le-ltb}
use Rattle.bits.specs.Codec.{signed}
use Rattle.numbers.proofs.Signed.{signed_even}
use Rattle.header.specs.Blending.{covers_side}

-- an odd number is a place before the image
odd_is : (n : ℕ) → n % 2 ≡ 1 → signed n ≡ negsuc (n / 2)
odd_is n h =
    let half : (n + 1) / 2 ≡ suc (n / 2) = omega arith in
    rw (ne_eqb (n % 2) 0 (omega arith), half)

reaches : (k size image : ℕ) → leb (image + k + 1) size ≡ le_z (pos image) (negsuc k +ℤ pos size)
reaches k size image =
    by_cases (dec_le (suc k) size)
    (λ y. rw (le-ltb size (suc k) y) (same (image + k + 1) size image (size - suc k) (omega arith) (omega arith)))
    (λ y. rw (lt-ltb size (suc k) (omega (arith, y))) (lt-leb (image + k + 1) size (omega (arith, y))))
  where
    same : (a b c d : ℕ) → (a ≤ b → c ≤ d) → (c ≤ d → a ≤ b) → leb a b ≡ leb c d
    same a b c d up down =
        by_cases (dec_le a b)
        (λ y. le-leb a b y ∙ sym (le-leb c d (up y)))
        (λ y. lt-leb a b (omega (arith, y)) ∙ sym (lt-leb c d (gt c d (λ z. y (down z)))))
      where
        gt : (c d : ℕ) → (c ≤ d → ⊥) → d < c
        gt c d n = omega (arith, n)

module _ (n size image : ℕ) where
  pub covers_before : n % 2 ≡ 1 → leb (image + n / 2 + 1) size ≡ covers_side n size image
  unfolding covers_side
  covers_before h = rw (odd_is n h) (reaches (n / 2) size image)

  even : (n % 2 ≡ 1 → ⊥) → n % 2 ≡ 0
  even h = omega arith

  pub covers_at : (n % 2 ≡ 1 → ⊥) → n / 2 ≡ 0 → leb image size ≡ covers_side n size image
  unfolding covers_side
  covers_at h z =
      let none : 0 + size ≡ size = omega arith in
      rw (signed_even n (even h), z, none)

  pub covers_behind : (n % 2 ≡ 1 → ⊥) → (n / 2 ≡ 0 → ⊥) → false ≡ covers_side n size image
  unfolding covers_side
  covers_behind h z = rw (signed_even n (even h), lt-leb (n / 2) 0 (omega arith))
