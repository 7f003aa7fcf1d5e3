-- A section number and a sent number are different kinds, turned into one another through the two order tables alone.
use Rattle.std.specs.Prelude.{ℕ, List, get_or, eqb, ltb, Result}
use Rattle.bits.specs.declared.Refusal.{Refusal}
use Rattle.bits.specs.Refusals.{pick, refusal, none, answered}
use Rattle.order.specs.declared.SectionNumber.{SectionNumber}
use Rattle.order.specs.declared.SentNumber.{SentNumber}
use Rattle.order.specs.Order.{checked}

-- a word of a table, and the two kinds of number, each with a refusal, beside which it is 0
pub record Entry : Type 0 where
  pub word : ℕ
  pub refusal : Refusal

pub record SentAnswer : Type 0 where
  pub sent : SentNumber
  pub refusal : Refusal

pub record SectionAnswer : Type 0 where
  pub section : SectionNumber
  pub refusal : Refusal

-- as the functions give them: the number, or why there is none
abbrev pub word_or_refused : Entry → Result ℕ Refusal
word_or_refused e = answered e.refusal e.word

abbrev pub sent_or_refused : SentAnswer → Result SentNumber Refusal
sent_or_refused a = answered a.refusal a.sent

abbrev pub section_or_refused : SectionAnswer → Result SectionNumber Refusal
section_or_refused a = answered a.refusal a.section

-- a lent order is judged whole, 10 then 13; then a number not below count is 14
unfoldable pub looked_up : List ℕ → ℕ → ℕ → Refusal
looked_up table count index =
    pick (eqb (checked count table).number 0) (pick (ltb index count) none (refusal 14 0)) (checked count table)

-- the word that stands there, 0 beside a refusal
unfoldable pub entry_at : List ℕ → ℕ → ℕ → Entry
entry_at table count index =
    record {
      word = pick (eqb (looked_up table count index).number 0) (get_or table index 0) 0;
      refusal = looked_up table count index;
    }

-- order[section] = sent number
unfoldable pub sent_of : List ℕ → ℕ → SectionNumber → SentAnswer
sent_of order count section =
    record { sent = record { 0 = (entry_at order count section.0).word }; refusal = (entry_at order count section.0).refusal }

-- inverse[sent number] = section
unfoldable pub section_of : List ℕ → ℕ → SentNumber → SectionAnswer
section_of inverse count sent =
    record { section = record { 0 = (entry_at inverse count sent.0).word }; refusal = (entry_at inverse count sent.0).refusal }
