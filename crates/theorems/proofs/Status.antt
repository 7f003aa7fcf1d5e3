-- Beside a header entry's status of 0 the record is written whole, what a caller may rest on who lends memory that holds nothing yet.
use Prim.Native.Nat.{ℕ}
use native.Mathlib.Omega.{arith}
use mathlib.Core.Path.{◌≡◌, sym, ◌∙◌, ap}
use mathlib.Core.Bool.{true}
use mathlib.Core.List.{List}
use lib.Dec.{eqb}
use borrow.Author.Tests.{eq-eqb}
use Rattle.bits.specs.declared.Refusal.{Refusal}
use Rattle.bits.specs.Bits.{bit_count}
use Rattle.header.specs.declared.Facts.{Facts}
use Rattle.header.specs.Entry.{stands, HeaderTold, answered}
use Rattle.c_words.specs.Heading.{Buffers, HeadRead, judged_all, words_after, signed_after, floats_after}
use Rattle.theorems.specs.Refusing.{held, of_header}
use Rattle.theorems.proofs.HeaderEnds.{answered_refuses}
use Rattle.theorems.proofs.WordEnds.{status_held, judged_all_lem}

module _ (f : Facts) (s : List ℕ) (word : ℕ) (before after : Buffers) (h : HeadRead f s word before after) where
  abbrev said : HeaderTold
  said = answered f (judged_all s f before) (stands f s)

  -- the status word tells the refusal's number and its place
  pub head_told : held word ≡ said.refusal
  head_told =
      ap held h.recorded.status ∙ status_held of_header (bit_count s) said.refusal (omega arith)
      (answered_refuses f s (judged_all s f before) (judged_all_lem s f before))

  module _ (zero : word ≡ 0) where
    ok : eqb said.refusal.number 0 ≡ true
    ok = eq-eqb said.refusal.number 0 (ap (λ (r : Refusal). r.number) (sym head_told ∙ ap held zero))

    -- the 51 words, the two signed numbers and the 22 floats
    pub words_written : after.numbers ≡ words_after said before.numbers
    words_written = h.recorded.numbers ∙ rw ok

    pub signs_written : after.signs ≡ signed_after said.header before.signs
    signs_written = h.recorded.signs ∙ rw ok

    pub reals_written : after.reals ≡ floats_after said.header.restoration_filter before.reals
    reals_written = h.recorded.reals ∙ rw ok
