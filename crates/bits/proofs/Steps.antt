-- Laws of a field's steps: a piece that is there and one that is cut, and how `run` goes on after each.
use Rattle.std.proofs.Common.{◌≡◌, ℕ, ◌+◌, ◌^◌, ◌<◌, Bool, true, false, not, ◌&&◌, List, Option, Some, None, sym, refl, ap, ◌∙◌, true≢false}
use mathlib.Core.Bool.{false≢true}
use Rattle.bits.specs.declared.Read.{Read}
use Rattle.bits.specs.declared.pieces.Piece.{Piece}
use Rattle.bits.specs.declared.Cursor.{Cursor}
use Rattle.bits.specs.Bits.{bits_at, there}
use Rattle.bits.specs.Refusals.{start, clear}
use Rattle.bits.specs.Steps.{Steps, gives, refuses, takes, refused_at, cut_at, run, piece}
use Rattle.bits.specs.Codec.{Codec, steps, field}
use Rattle.bits.proofs.Bits.{bits_lt}

module _ (s : List ℕ) (q n : ℕ) where
  pub piece_there : (v : ℕ) → there s q n ≡ true → v ≡ bits_at s q n → ◌≡◌ {A = Option Piece} (Some (record { value = v; at = q + n })) (piece s q n)
  unfolding piece
  piece_there v t e = rw (t, e)

  pub piece_cut : there s q n ≡ false → ◌≡◌ {A = Option Piece} None (piece s q n)
  unfolding piece
  piece_cut t = rw t

  module _ (r : Option Piece) (er : r ≡ piece s q n) where
    taken : (b : Bool) → there s q n ≡ b → (x : Piece) → r ≡ Some x → (b ≡ true) × ◌≡◌ {A = Piece} (record { value = bits_at s q n; at = q + n }) x
    unfolding piece
    taken true h x e = let same = rw h at er in (refl, cc)
    taken false h x e = let same = rw h at er in absurd cc

    cut_off : (b : Bool) → there s q n ≡ b → r ≡ None → b ≡ false
    unfolding piece
    cut_off true h e = let same = rw h at er in absurd cc
    cut_off false h e = refl

    -- a piece that is there has its bits, below 2 ^ n, and ends behind them
    pub piece_is : (x : Piece) → r ≡ Some x → ◌≡◌ {A = Piece} (record { value = bits_at s q n; at = q + n }) x
    piece_is x e = (taken (there s q n) refl x e).1

    pub piece_lt : (x : Piece) → r ≡ Some x → x.value < 2 ^ n
    piece_lt x e = rw (← piece_is x e) (bits_lt s q n)

    module _ (p : ℕ) (f : ℕ → Steps) where
      -- a piece that is there: on by its value, after it
      pub run_take : (x : Piece) → r ≡ Some x → run (takes n f) s p q ≡ run (f x.value) s p x.at
      unfolding run
      run_take x e = rw ((taken (there s q n) refl x e).0, ← piece_is x e) refl

      -- a piece that is cut: 4 where the field began
      pub run_cut : r ≡ None → run (takes n f) s p q ≡ cut_at s p (q + n)
      unfolding run
      run_cut e = rw (cut_off (there s q n) refl e)

pub run_gives : (s : List ℕ) (p q v : ℕ) → run (gives v) s p q ≡ record { value = v; next = start q }
unfolding run
run_gives s p q v = refl

pub run_refuses : (s : List ℕ) (p q k : ℕ) → run (refuses k) s p q ≡ refused_at k p
unfolding run
run_refuses s p q k = refl

-- a field that is passed by, and one that is read
module _ (s : List ℕ) (on : Bool) (k : Codec) (d : ℕ) (c : Cursor) (i : Bool) (e : i ≡ not (on && clear c)) where
  idle_is : (b : Bool) → (on && clear c) ≡ b → i ≡ not b
  idle_is b h = e ∙ ap not h

  idled : (b : Bool) → (on && clear c) ≡ b → i ≡ true → field s on k d c ≡ record { value = d; next = c }
  unfolding field
  idled true h t = absurd (false≢true (sym (idle_is true h) ∙ t))
  idled false h t = rw h

  busied : (b : Bool) → (on && clear c) ≡ b → i ≡ false → field s on k d c ≡ run (steps k c.at) s c.at c.at
  unfolding field
  busied true h t = rw h
  busied false h t = absurd (true≢false (sym (idle_is false h) ∙ t))

  pub field_idle : i ≡ true → field s on k d c ≡ record { value = d; next = c }
  field_idle = idled (on && clear c) refl

  pub field_run : i ≡ false → field s on k d c ≡ run (steps k c.at) s c.at c.at
  field_run = busied (on && clear c) refl

  -- a field that isn't passed by counts by its place alone
  pub field_place : i ≡ false → field s true k d (start c.at) ≡ field s on k d c
  unfolding field
  field_place t = sym (field_run t)

  -- passed by: the default, beside the cursor as it was
  pub field_passed : i ≡ true → (r : Cursor) → r ≡ c → ◌≡◌ {A = Read ℕ} (record { value = d; next = r }) (field s on k d c)
  field_passed t r er = rw er (sym (field_idle t))
