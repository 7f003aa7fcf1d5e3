-- What is a number is equal to itself.
use Rattle.std.proofs.Common.{◌≡◌, true, inl, inr, rules}
use Rattle.std.specs.Prelude.{Float}
use Rattle.std.specs.Float.{NotNan}
use Rattle.std.specs.Float.Ieee.{eq}
use Rattle.std.proofs.lemmas.Float.{le_refl, lt_irrefl, lt-or-eq}

pub eq_self : (x : Float) → NotNan x → eq x x ≡ true
eq_self x h = elim (lt-or-eq x x (le_refl x h)) [ inl below ↦ absurd (lt_irrefl x below) | inr same ↦ search rules ]
