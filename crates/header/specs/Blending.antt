-- `BlendingInfo`, and what resets the canvas.
use Rattle.std.specs.Prelude.{ℕ, Bool, true, false, not, ◌&&◌, ◌||◌, List, [], ◌∷◌, eqb, pos, ◌+ℤ◌}
use Rattle.std.specs.Int.Signed.{le_z}
use Rattle.bits.specs.declared.Choices.{Choices}
use Rattle.bits.specs.Refusals.{pick}
use Rattle.bits.specs.Codec.{u, bool, u32, cases, val, plus, signed, one_of}
use Rattle.bits.specs.Table.{Table, ends, row}
use Rattle.types.specs.declared.BlendMode.TheVariants.{Replace, Blend, MulAdd, Mul}
use Rattle.types.specs.Types.{is_mode}
use Rattle.header.specs.declared.Facts.{Facts}
use Rattle.header.specs.declared.shape.Placement.{Placement}
use Rattle.header.specs.declared.blending.Blending.{Blending}
use Rattle.header.specs.declared.blending.Decider.{Decider}

-- U32(0, 1, 2, 3 + u(2)): Replace, Add, Blend, MulAdd, Mul
abbrev pub modes : Choices
modes = one_of (val 0) (val 1) (val 2) (plus 3 2)

-- U32(0, 1, 2, 3 + u(3))
abbrev pub alphas : Choices
alphas = one_of (val 0) (val 1) (val 2) (plus 3 3)

-- one side: it begins at 0 or before, and ends at the image's end or behind it, in exact sums
unfoldable pub covers_side : ℕ → ℕ → ℕ → Bool
covers_side n size image = le_z (signed n) (pos 0) && le_z (pos image) (signed n +ℤ pos size)

-- no crop, or a frame that covers the image
unfoldable pub covers_image : Facts → Placement → Bool
covers_image f c = eqb c.have_crop 0 || (covers_side c.x0 c.width f.width && covers_side c.y0 c.height f.height)

-- a frame resets the canvas with mode Replace where it covers the image
abbrev pub resets : ℕ → Bool → Bool
resets mode full = is_mode mode Replace && full

-- The one place that says which mode decides on `source`: the colour channels go by their own mode, an extra channel by the colour channels'.
abbrev pub by_own : Decider
by_own = record { own = true; mode = 0 }

-- the facts say which; the colour channels' mode is given
unfoldable pub source_decider : Facts → ℕ → Decider
source_decider f mode = record { own = false; mode = mode }

unfoldable pub has_source : Decider → ℕ → Bool → Bool
has_source d own full = not (resets (pick d.own own d.mode) full)

-- the modes that use alpha: Blend and MulAdd
abbrev pub uses_alpha_of : ℕ → Bool
uses_alpha_of m = is_mode m Blend || is_mode m MulAdd

unfoldable pub blending : Bool → Bool → Bool → Decider → Table Blending Blending
blending on extra full d =
    row on (cases modes 5) 0 (λ r. r.mode) λ m.
    let alpha : Bool = extra && uses_alpha_of m in
    row alpha (u32 alphas) 0 (λ r. r.alpha_channel) λ a.
    row (alpha || is_mode m Mul) bool 0 (λ r. r.clamp) λ k.
    row (on && has_source d m full) (u 2) 0 (λ r. r.source) λ x.
    ends (record { mode = m; alpha_channel = a; clamp = k; source = x })

-- four words a channel
unfoldable pub words : List Blending → List ℕ
words [] = []
words (b ∷ bs) = b.mode ∷ b.alpha_channel ∷ b.clamp ∷ b.source ∷ words bs
