-- `Gabor`, as src/filter.rs reads it: a flag, and for each of three channels two weights.
use Rattle.bits.specs.declared.Read.{Read}
use Rattle.std.specs.Prelude.{ℕ, ◌+◌, ◌*◌, Bool, true, false, ◌&&◌, List, [], ◌∷◌, eqb, Float}
use Rattle.bits.specs.Refusals.{pick}
use Rattle.bits.specs.Codec.{bool, f16}
use Rattle.bits.specs.Half.{half}
use Rattle.bits.specs.Table.{Table, ends, row, fails, bind}
use Rattle.filter.specs.declared.gabor.Gabor.{Gabor}
use Rattle.filter.specs.declared.gabor.Channel.{Channel}
use Rattle.filter.specs.Values.{decimal, plus_zero, pattern_at, custom}
use Rattle.filter.specs.Weights.{unbalanced}

-- channel by channel, two weights each
abbrev pub weights_of : Channel → Channel → Channel → List Float
weights_of x y z = x.first ∷ x.second ∷ y.first ∷ y.second ∷ z.first ∷ z.second ∷ []

-- 0.115169525 and 0.061248592 for each channel
abbrev pub channel_default : Channel
channel_default = record { first = decimal 115169525 1000000000; second = decimal 61248592 1000000000 }

unfoldable pub gabor_default : Gabor
gabor_default = record { enabled = true; weights = weights_of channel_default channel_default channel_default }

-- a disabled filter's values are all +0.0
abbrev pub channel_zero : Channel
channel_zero = record { first = plus_zero; second = plus_zero }

unfoldable pub gabor_disabled : Gabor
gabor_disabled = record { enabled = false; weights = weights_of channel_zero channel_zero channel_zero }

-- The weights of channel i, where they are asked for. 7 after both of them, at the first bit of the first: 32 bits back.
unfoldable pub channel : Bool → ℕ → Table Gabor Channel
channel on i =
    row on f16 0 (λ r. pattern_at r.weights (2 * i)) λ a.
    row on f16 0 (λ r. pattern_at r.weights (2 * i + 1)) λ b.
    fails (unbalanced a b) 7 32
    (ends (record { first = half a; second = half b }))

-- disabled, default or custom
unfoldable pub gabor_of : ℕ → ℕ → Channel → Channel → Channel → Gabor
gabor_of enabled own x y z =
    pick (eqb enabled 1) (pick (eqb own 1) (record { enabled = true; weights = weights_of x y z }) gabor_default) gabor_disabled

unfoldable pub gabor : Bool → Table Gabor Gabor
gabor on =
    row on bool 1 (λ r. pick r.enabled 1 0) λ enabled.
    row (on && eqb enabled 1) bool 0 (λ r. custom r.weights gabor_default.weights) λ own.
    bind (channel (eqb own 1) 0) λ x.
    bind (channel (eqb own 1) 1) λ y.
    bind (channel (eqb own 1) 2) λ z.
    ends (gabor_of enabled own x y z)
