-- Laws of Gabor: its two fixed values, the three ways it comes out, a channel and the bundle.
use Prim.Native.Nat.{ℕ}
use mathlib.Core.Path.{◌≡◌, refl, ◌∙◌}
use mathlib.Core.List.{List}
use mathlib.Core.Bool.{Bool, true, ◌&&◌}
use lib.Dec.{eqb}
use lib.Ieee.{Float}
use borrow.Author.Tests.{eq-eqb, ne_eqb}
use Rattle.bits.specs.declared.Read.{Read}
use Rattle.bits.specs.declared.Cursor.{Cursor}
use Rattle.bits.specs.Half.{half}
use Rattle.bits.specs.Codec.{bool, f16, field}
use Rattle.bits.specs.Table.{failed, read}
use Rattle.bits.proofs.Rows.{Reads, row_then, bind_then, at_end}
use Rattle.filter.specs.declared.gabor.Gabor.{Gabor}
use Rattle.filter.specs.declared.gabor.Channel.{Channel}
use Rattle.filter.specs.Weights.{unbalanced}
use Rattle.filter.specs.Gabor.{weights_of, gabor_default, gabor_disabled, gabor_of, channel, gabor}

module _ (enabled own : ℕ) (x y z : Channel) where
  pub of_disabled : (enabled ≡ 1 → ⊥) → gabor_disabled ≡ gabor_of enabled own x y z
  unfolding gabor_of
  of_disabled h = rw (ne_eqb enabled 1 h)

  pub of_default : enabled ≡ 1 → (own ≡ 1 → ⊥) → gabor_default ≡ gabor_of enabled own x y z
  unfolding gabor_of
  of_default h k = rw (eq-eqb enabled 1 h, ne_eqb own 1 k)

  pub of_custom : enabled ≡ 1 → own ≡ 1 → ◌≡◌ {A = Gabor} (record { enabled = true; weights = weights_of x y z }) (gabor_of enabled own x y z)
  unfolding gabor_of
  of_custom h k = rw (eq-eqb enabled 1 h, eq-eqb own 1 k)

pub channel_is : (s : List ℕ) (on : Bool) (k : Cursor) (a b : Read ℕ) (bad : Bool) (next : Cursor) (first second : Float)
    → a ≡ field s on f16 0 k
    → b ≡ field s on f16 0 a.next
    → bad ≡ unbalanced a.value b.value
    → next ≡ failed bad 7 32 b.next
    → first ≡ half a.value
    → second ≡ half b.value
    → ◌≡◌ {A = Read Channel} (record { value = record { first = first; second = second }; next = next }) ((read (channel on 0) s k))
unfolding channel read
channel_is s on k a b bad next first second pa pb pbad pn p1 p2 = rw (← pa, ← pb, ← pbad, ← pn, ← p1, ← p2)

-- every channel is read alike
channel_any : (on : Bool) (i : ℕ) (s : List ℕ) (c : Cursor) → read (channel on i) s c ≡ read (channel on 0) s c
unfolding channel read
channel_any on i s c = refl

-- what a channel's function answers, as the table reads it
channel_out : (on : Bool) (i : ℕ) (s : List ℕ) (c : Cursor) (x : Read Channel) → x ≡ (read (channel on 0) s c)
    → Reads (channel on i) s c (record { value = x.value; next = x.next })
channel_out on i s c x e = record { is = channel_any on i s c ∙ rw e }

pub gabor_is : (s : List ℕ) (on : Bool) (k : Cursor) (enabled own : Read ℕ) (live : Bool) (x y z : Read Channel) (g : Gabor)
    → enabled ≡ field s on bool 1 k
    → live ≡ (on && eqb enabled.value 1)
    → own ≡ field s live bool 0 enabled.next
    → x ≡ (read (channel (eqb own.value 1) 0) s own.next)
    → y ≡ (read (channel (eqb own.value 1) 0) s x.next)
    → z ≡ (read (channel (eqb own.value 1) 0) s y.next)
    → g ≡ gabor_of enabled.value own.value x.value y.value z.value
    → ◌≡◌ {A = Read Gabor} (record { value = g; next = z.next }) ((read (gabor on) s k))
unfolding gabor
gabor_is s on k enabled own live x y z g pe pl po px py pz pg =
    let all : Reads (gabor on) s k (record { value = g; next = z.next }) =
    row_then enabled pe
    (row_then own (po ∙ rw pl)
    (bind_then _ _ x.value x.next (channel_out _ 0 s own.next x px)
    (bind_then _ _ y.value y.next (channel_out _ 1 s x.next y py)
    (bind_then _ _ z.value z.next (channel_out _ 2 s y.next z pz)
    (rw pg at_end))))) in
    rw all.is
