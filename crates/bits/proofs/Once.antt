-- Every promise is an equation for each thing that it speaks of. So it allows one answer, and one final content of each lent buffer.
use Rattle.std.proofs.Common.{◌≡◌, sym, ◌∙◌}

-- two things that the same equation allows are equal
pub once : {A : Type 0} {x y due : A} → x ≡ due → y ≡ due → x ≡ y
once p q = p ∙ sym q
