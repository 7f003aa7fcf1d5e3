-- A layout as words, and back.
use Rattle.std.specs.Prelude.{ℕ, ◌%◌, List, [], ◌∷◌, ltb, length, get_or}
use Rattle.bits.specs.Refusals.{pick, refusal}
use Rattle.order.specs.Numbers.{SectionAnswer}
use Rattle.layout.specs.declared.Layout.{Layout}
use Rattle.layout.specs.Layouts.{LayoutAnswer, section_in}
use Rattle.c_words.specs.Answers.{Answer, answer}

-- width, height, power, columns, groups, LF groups, sections, passes
abbrev pub layout_words : Layout → List ℕ
layout_words l = l.width ∷ l.height ∷ l.power ∷ l.columns ∷ l.groups ∷ l.lf_groups ∷ l.sections ∷ l.passes ∷ []

abbrev pub layout_answer : LayoutAnswer → Answer
layout_answer a = answer a.refusal (layout_words a.layout)

-- a word of a layout, by its lowest 32 bits
abbrev pub low_at : List ℕ → ℕ → ℕ
low_at words i = get_or words i 0 % 4294967296

abbrev pub layout_by : List ℕ → Layout
layout_by words = record {
  width = low_at words 0;
  height = low_at words 1;
  power = low_at words 2;
  columns = low_at words 3;
  groups = low_at words 4;
  lf_groups = low_at words 5;
  sections = low_at words 6;
  passes = low_at words 7;
}

-- 3 where there are fewer than eight words, else what the layout answers
unfoldable pub section_by : List ℕ → ℕ → ℕ → ℕ → SectionAnswer
section_by words x y pass =
    pick (ltb (length words) 8) (record { section = record { 0 = 0 }; refusal = refusal 3 0 }) (section_in (layout_by words) x y pass)
