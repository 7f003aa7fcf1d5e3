-- The status word: one number that says whether something was refused, why and where.
use Rattle.std.specs.Prelude.{ℕ, ◌+◌, ◌*◌, ◌%◌, ◌^◌, Bool, not, ◌&&◌, ◌||◌, leb}
use Rattle.bits.specs.declared.Refusal.{Refusal}
use Rattle.bits.specs.Refusals.{pick, refusal}

-- (place mod 2^56) * 256 + number: 0 where nothing was refused; numbers are at most 14, and places below 2^56
abbrev pub status_of : Refusal → ℕ
status_of r = r.place % 2 ^ 56 * 256 + r.number % 256

-- the refusals that come before 3: 2, 1, 8, 9, 10
abbrev pub is_early : ℕ → Bool
is_early n = (leb 1 n && leb n 2) || (leb 8 n && leb n 10)

-- a lent slice that is too short for a record is 3, after those and before all others
abbrev pub roomed : Refusal → Bool → Refusal
roomed r short = pick (short && not (is_early r.number)) (refusal 3 0) r
