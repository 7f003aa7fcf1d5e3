-- What a program's output gains.
use Rattle.std.specs.Prelude.{Result, Ok, Err, ℕ, Bool, List, [], ◌∷◌, ◌++◌, if◌then◌else◌, IsOk}
use Rattle.std.specs.Fmt.{decimal}
use Rattle.std.specs.Io.KnownBytes.{Appends}
use Rattle.std.specs.List.{flat_map}
use Rattle.std.specs.declared.option.Option.{Option}
use Rattle.bits.specs.declared.Refusal.{Refusal}
use Rattle.bits.specs.Refusals.{none}
use Rattle.replay.specs.declared.lines.Output.{Output}

-- the refusal of an answer, or none
abbrev pub refusal_in : {A : Type 0} → Result A Refusal → Refusal
refusal_in (Ok a) = none
refusal_in (Err r) = r

-- a number and a tab
abbrev pub shown : ℕ → List ℕ
shown n = decimal n ++ 9 ∷ []

-- the numbers of some things, where all are shown
abbrev pub shown_by : {A : Type 0} → (A → ℕ) → Bool → List A → List ℕ
shown_by f full xs = if full then flat_map (λ x. shown (f x)) xs else []

-- where an output has no error, it had none before, and the bytes that its writer holds, where they are known, have grown by bs
pub record Gains {W : Type 0} (contents : W → Option (List ℕ)) (old : Output W) (bs : List ℕ) (new : Output W) : Type 0 where
  pub intact : IsOk new.failed → IsOk old.failed
  pub bytes : IsOk new.failed → Appends (contents old.to) (contents new.to) bs
