-- A record as words: its refusal, or words that are written from the first place on.
use Rattle.std.specs.Prelude.{ℕ, ◌≡◌, Bool, true, false, List, ltb, eqb, length, Result, Ok, Err}
use Rattle.std.proofs.lemmas.List.Edits.{sets}
use Rattle.bits.specs.declared.Refusal.{Refusal}
use Rattle.bits.specs.Refusals.{pick, none}
use Rattle.c_words.specs.Status.{status_of, roomed}

pub record Answer : Type 0 where
  pub refusal : Refusal
  pub words : List ℕ

abbrev pub answer : Refusal → List ℕ → Answer
answer r words = record { refusal = r; words = words }

-- its own refusal, or 3 in its turn where the lent slice is shorter than the words
abbrev pub refusal_for : Answer → List ℕ → Refusal
refusal_for a before = roomed a.refusal (ltb (length before) (length a.words))

-- what a function promises that hands out a record: the status, and the lent slice, which only an acceptance changes
pub record Given (a : Answer) (before : List ℕ) (word : ℕ) (after : List ℕ) : Type 0 where
  pub status : word ≡ status_of (refusal_for a before)
  pub words : after ≡ pick (eqb (refusal_for a before).number 0) (sets before 0 a.words) before

-- the words of what a function gave
abbrev pub words_of : {A : Type 0} → (A → List ℕ) → Result A Refusal → Result (List ℕ) Refusal
words_of words (Ok a) = Ok (words a)
words_of words (Err r) = Err r

abbrev pub refused_in : Result (List ℕ) Refusal → Refusal
refused_in (Ok words) = none
refused_in (Err r) = r

abbrev pub written_in : Bool → Result (List ℕ) Refusal → List ℕ → List ℕ
written_in true a before = before
written_in false (Ok words) before = sets before 0 words
written_in false (Err r) before = before

-- what a function promises that hands out n words of an answer: its own refusal, or 3 in its turn; and the words, where there is room
pub record Handed (n : ℕ) (a : Result (List ℕ) Refusal) (before : List ℕ) (word : ℕ) (after : List ℕ) : Type 0 where
  pub status : word ≡ status_of (roomed (refused_in a) (ltb (length before) n))
  pub words : after ≡ written_in (ltb (length before) n) a before
