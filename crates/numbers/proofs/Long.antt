-- Laws of the long U64: a continuation bit, then one piece more at its shift.
use Rattle.std.proofs.Common.{◌≡◌, Option, Some, None, ℕ, zero, suc, ◌+◌, ◌-◌, ◌*◌, ◌/◌, ◌%◌, ◌^◌, ◌<◌, ◌≤◌, true, false, not, List, sym, ap, ◌∙◌, add_comm, arith, pow-add, shl_exact, eq-eqb, ne_eqb}
use lib.Arith.{digits_lt}
use lib.Bits.{bit_or, or_shifted_r}
use Rattle.bits.specs.declared.Read.{Read}
use Rattle.bits.specs.declared.pieces.Piece.{Piece}
use Rattle.bits.specs.declared.Cursor.{Cursor}
use Rattle.bits.specs.Refusals.{start}
use Rattle.bits.specs.Steps.{gives, takes, cut_at, run, piece}
use Rattle.bits.specs.Codec.{more, long}
use Rattle.bits.proofs.Steps.{run_take, run_cut, piece_lt}

-- w bits above what was read so far
module _ (v x shift w : ℕ) (hv : v < 2 ^ shift) (hx : x < 2 ^ w) (room : w + shift ≤ 64) where
  pub joined : bit_or v (x * 2 ^ shift % 18446744073709551616) ≡ v + x * 2 ^ shift
  joined = rw (shl_exact w shift 64 hx room, or_shifted_r x shift v hv, add_comm (x * 2 ^ shift) v)

  pub joined_lt : bit_or v (x * 2 ^ shift % 18446744073709551616) < 2 ^ (w + shift)
  joined_lt = rw (joined, add_comm v (x * 2 ^ shift), pow-add 2 w shift) (digits_lt hx hv)

module _ (s : List ℕ) (p q v : ℕ) (r : Option Piece) (er : r ≡ piece s q 1) where
  pub more_cut : (k : ℕ) → r ≡ None → run (more k v) s p q ≡ cut_at s p (q + 1)
  unfolding more
  more_cut zero t = run_cut s q 1 r er p _ t
  more_cut (suc k) t = run_cut s q 1 r er p _ t

  module _ (b : Piece) (t : r ≡ Some b) where
    pub more_ends : (k : ℕ) → b.value ≡ 0 → run (more k v) s p q ≡ run (gives v) s p b.at
    unfolding more
    more_ends zero h = run_take s q 1 r er p _ b t ∙ rw (eq-eqb b.value 0 h)
    more_ends (suc k) h = run_take s q 1 r er p _ b t ∙ rw (eq-eqb b.value 0 h)

    module _ (h : b.value ≡ 0 → ⊥) where
      pub more_last : run (more 0 v) s p q ≡ run (takes 4 λ x. gives (v + x * 2 ^ 60)) s p b.at
      unfolding more
      more_last = run_take s q 1 r er p _ b t ∙ rw (ne_eqb b.value 0 h)

      more_next : (k : ℕ) → run (more (suc k) v) s p q ≡ run (takes 8 λ x. more k (v + x * 2 ^ (52 - 8 * k))) s p b.at
      unfolding more
      more_next k = run_take s q 1 r er p _ b t ∙ rw (ne_eqb b.value 0 h)

      -- the k-th u(8), k from 0 to 5, at a shift of 12, 20, .. 52
      module _ (k : ℕ) (under : k < 6) (t8 : Option Piece) (e8 : t8 ≡ piece s b.at 8) where
        left : 6 - k ≡ suc (6 - (k + 1))
        left = omega arith

        here : 52 - 8 * (6 - (k + 1)) ≡ 12 + 8 * k
        here = omega arith

        pub more_cut_8 : t8 ≡ None → run (more (6 - k) v) s p q ≡ cut_at s p (b.at + 8)
        more_cut_8 ty = rw left (more_next (6 - (k + 1)) ∙ run_cut s b.at 8 t8 e8 p _ ty)

        module _ (y : Piece) (ty : t8 ≡ Some y) (hv : v < 2 ^ (12 + 8 * k)) where
          pub more_goes : run (more (6 - k) v) s p q ≡ run (more (6 - (k + 1)) (bit_or v (y.value * 2 ^ (12 + 8 * k) % 18446744073709551616))) s p y.at
          more_goes =
              rw left
              (more_next (6 - (k + 1))
              ∙ run_take s b.at 8 t8 e8 p (λ x. more (6 - (k + 1)) (v + x * 2 ^ (52 - 8 * (6 - (k + 1))))) y ty
              ∙ ap (λ (n : ℕ). run (more (6 - (k + 1)) (v + y.value * 2 ^ n)) s p y.at) here
              ∙ ap (λ (n : ℕ). run (more (6 - (k + 1)) n) s p y.at) (sym (joined v y.value (12 + 8 * k) 8 hv (piece_lt s b.at 8 t8 e8 y ty) (omega arith))))

          pub more_lt : bit_or v (y.value * 2 ^ (12 + 8 * k) % 18446744073709551616) < 2 ^ (12 + 8 * (k + 1))
          more_lt =
              let next : 8 + (12 + 8 * k) ≡ 12 + 8 * (k + 1) = omega arith in
              rw next at (joined_lt v y.value (12 + 8 * k) 8 hv (piece_lt s b.at 8 t8 e8 y ty) (omega arith))

-- the form that the selector names
module _ (s : List ℕ) (p q k : ℕ) where
  pub long_0 : k ≡ 0 → run (long k) s p q ≡ run (gives 0) s p q
  long_0 h = rw h

  pub long_1 : k ≡ 1 → run (long k) s p q ≡ run (takes 4 λ x. gives (1 + x)) s p q
  long_1 h = rw h

  pub long_2 : k ≡ 2 → run (long k) s p q ≡ run (takes 8 λ x. gives (17 + x)) s p q
  long_2 h = rw h

  pub long_3 : (k ≡ 0 → ⊥) → (k ≡ 1 → ⊥) → (k ≡ 2 → ⊥) → run (long k) s p q ≡ run (takes 12 (more 6)) s p q
  long_3 h0 h1 h2 = rw (ne_eqb k 0 h0, ne_eqb k 1 h1, ne_eqb k 2 h2)
