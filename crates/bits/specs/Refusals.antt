-- A refusal is its number and a bit place; number 0 says that nothing was refused.
use Rattle.std.specs.Prelude.{ℕ, Bool, true, false, ◌==◌, Result, Ok, Err}
use Rattle.bits.specs.declared.Refusal.{Refusal}
use Rattle.bits.specs.declared.Cursor.{Cursor}

-- the first where the test holds, else the second
abbrev pub pick {ℓ} : {A : Type ℓ} → Bool → A → A → A
pick true a b = a
pick false a b = b

abbrev pub refusal : ℕ → ℕ → Refusal
refusal number place = record { number = number; place = place }

abbrev pub none : Refusal
none = refusal 0 0

-- a cursor at a place, with no fault yet
abbrev pub start : ℕ → Cursor
start place = record { at = place; fault = none }

-- nothing was refused yet
abbrev pub clear : Cursor → Bool
clear c = c.fault.number == 0

-- an answer, or why there is none: a refusal whose number isn't 0
abbrev pub answered : {A : Type 0} → Refusal → A → Result A Refusal
answered r a = pick (r.number == 0) (Ok a) (Err r)
