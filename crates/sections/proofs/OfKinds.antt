-- Laws of kinds: what each way of the code answers, a kind's section is below the count, and kinds and sections are each other's inverse.
use Prim.Native.Nat.{ℕ, ◌+◌, ◌-◌, ◌*◌, ◌/◌, ◌%◌, ◌≤◌, ◌<◌}
use native.Mathlib.Omega.{arith}
use native.Mathlib.Nat.{mul_comm}
use lib.Arith.{digits_lt}
use mathlib.Core.Path.{◌≡◌, refl, ◌∙◌}
use mathlib.Core.Bool.{Bool, true, ◌&&◌, ◌||◌}
use lib.Dec.{eqb, ltb}
use borrow.Author.Tests.{eq-eqb, ne_eqb, eqb-true, eqb-false, le-leb, lt-leb, ltb-true}
use Rattle.bits.specs.declared.Refusal.{Refusal}
use Rattle.grid.specs.declared.Frame.{Frame}
use Rattle.grid.specs.Measured.{Measured, grid_of}
use Rattle.grid.specs.Groups.{judge}
use Rattle.grid.proofs.Accepted.{and_parts}
use Rattle.order.specs.declared.SectionNumber.{SectionNumber}
use Rattle.order.specs.Numbers.{SectionAnswer}
use Rattle.order.proofs.Entries.{split}
use Rattle.sections.specs.declared.TocGroupKind.{TocGroupKind}
use Rattle.sections.specs.declared.TocGroupKind.TheVariants.{All, LfGlobal, LfGroup, HfGlobal, GroupPass}
use Rattle.sections.specs.declared.KindNumbers.{KindNumbers}
use Rattle.sections.specs.Kinds.{numbers_of, has_kind, section_number, kind_at, section_answer, section_of_kind, KindTold, kind_of}
use Rattle.sections.proofs.Counts.{Counts}

-- whether the frame has a kind, by the kind's number
module _ (g : Measured) (passes : ℕ) (k : KindNumbers) where
  pub has_one : g.sections ≡ 1 → eqb k.kind 0 ≡ has_kind g passes k
  unfolding has_kind
  has_one h = rw (eq-eqb g.sections 1 h)

  module _ (h : g.sections ≡ 1 → ⊥) where
    pub has_lf : k.kind ≡ 2 → ltb k.group_idx g.lf_groups ≡ has_kind g passes k
    unfolding has_kind
    has_lf e = rw (ne_eqb g.sections 1 h, eq-eqb k.kind 2 e)

    pub has_pass_lem : (k.kind ≡ 2 → ⊥) → k.kind ≡ 4 → (b : Bool) → b ≡ (ltb k.pass_idx passes && ltb k.group_idx g.groups) → b ≡ has_kind g passes k
    unfolding has_kind
    has_pass_lem e2 e4 b e = rw (ne_eqb g.sections 1 h, ne_eqb k.kind 2 e2, eq-eqb k.kind 4 e4) e

    pub has_global : (k.kind ≡ 2 → ⊥) → (k.kind ≡ 4 → ⊥) → (b : Bool) → b ≡ (eqb k.kind 1 || eqb k.kind 3) → b ≡ has_kind g passes k
    unfolding has_kind
    has_global e2 e4 b e = rw (ne_eqb g.sections 1 h, ne_eqb k.kind 2 e2, ne_eqb k.kind 4 e4) e

-- the section number, by the kind's number
module _ (g : Measured) (k : KindNumbers) where
  pub number_lf : k.kind ≡ 2 → 1 + k.group_idx ≡ section_number g k
  unfolding section_number
  number_lf e = rw (eq-eqb k.kind 2 e)

  module _ (e2 : k.kind ≡ 2 → ⊥) where
    pub number_hf : k.kind ≡ 3 → 1 + g.lf_groups ≡ section_number g k
    unfolding section_number
    number_hf e = rw (ne_eqb k.kind 2 e2, eq-eqb k.kind 3 e)

    module _ (e3 : k.kind ≡ 3 → ⊥) where
      pub number_pass : k.kind ≡ 4 → 1 + g.lf_groups + 1 + k.pass_idx * g.groups + k.group_idx ≡ section_number g k
      unfolding section_number
      number_pass e = rw (ne_eqb k.kind 2 e2, ne_eqb k.kind 3 e3, eq-eqb k.kind 4 e)

      pub number_first : (k.kind ≡ 4 → ⊥) → 0 ≡ section_number g k
      unfolding section_number
      number_first e4 = rw (ne_eqb k.kind 2 e2, ne_eqb k.kind 3 e3, ne_eqb k.kind 4 e4)

-- the kind of a section, by its number
module _ (g : Measured) (i : ℕ) where
  pub at_one : g.sections ≡ 1 → All ≡ kind_at g i
  unfolding kind_at
  at_one h = rw (eq-eqb g.sections 1 h)

  module _ (h : g.sections ≡ 1 → ⊥) where
    pub at_first : i ≡ 0 → LfGlobal ≡ kind_at g i
    unfolding kind_at
    at_first e = rw (ne_eqb g.sections 1 h, eq-eqb i 0 e)

    module _ (e0 : i ≡ 0 → ⊥) where
      pub at_lf : i ≤ g.lf_groups → LfGroup (i - 1) ≡ kind_at g i
      unfolding kind_at
      at_lf e = rw (ne_eqb g.sections 1 h, ne_eqb i 0 e0, le-leb i g.lf_groups e)

      module _ (past : g.lf_groups < i) where
        pub at_hf : i - g.lf_groups - 1 ≡ 0 → HfGlobal ≡ kind_at g i
        unfolding kind_at
        at_hf e = rw (ne_eqb g.sections 1 h, ne_eqb i 0 e0, lt-leb i g.lf_groups past, eq-eqb i (1 + g.lf_groups) (omega arith))

        pub at_pass : (i - g.lf_groups - 1 ≡ 0 → ⊥)
            → GroupPass ((i - g.lf_groups - 1 - 1) / g.groups) ((i - g.lf_groups - 1 - 1) % g.groups) ≡ kind_at g i
        unfolding kind_at
        at_pass e =
            let same : i - g.lf_groups - 1 - 1 ≡ i - (2 + g.lf_groups) = omega arith in
            rw (ne_eqb g.sections 1 h, ne_eqb i 0 e0, lt-leb i g.lf_groups past, ne_eqb i (1 + g.lf_groups) (λ q. e (omega arith)), same)

-- a section number beside a refusal, or beside none
pub section_yes : (r : Refusal) (v : ℕ) → r.number ≡ 0 → ◌≡◌ {A = SectionAnswer} (record { section = record { 0 = v }; refusal = r }) (section_answer r v)
unfolding section_answer
section_yes r v e = rw (eq-eqb r.number 0 e)

pub section_no : (r : Refusal) (v : ℕ) → (r.number ≡ 0 → ⊥) → ◌≡◌ {A = SectionAnswer} (record { section = record { 0 = 0 }; refusal = r }) (section_answer r v)
unfolding section_answer
section_no r v e = rw (ne_eqb r.number 0 e)

-- what the two look-ups answer
module _ (f : Frame) (g : Measured) (m : g ≡ grid_of f) (r : Refusal) where
  module _ (kind : TocGroupKind) (k : KindNumbers) (ek : k ≡ numbers_of kind) (known : Bool) (en : known ≡ has_kind g f.num_passes k) (er : r ≡ judge g known) where
    pub of_kind_yes : (n : ℕ) → r.number ≡ 0 → n ≡ section_number g k
        → ◌≡◌ {A = SectionAnswer} (record { section = record { 0 = n }; refusal = r }) (section_of_kind f kind)
    unfolding section_of_kind
    of_kind_yes n h e = rw (← m, ← ek, ← en, ← er, ← e) (section_yes r n h)

  module _ (section : SectionNumber) (er : r ≡ judge g (ltb section.0 g.sections)) where
    pub kind_yes : (k : TocGroupKind) → r.number ≡ 0 → k ≡ kind_at g section.0 → ◌≡◌ {A = KindTold} (record { numbers = numbers_of k; refusal = r }) (kind_of f section)
    unfolding kind_of
    kind_yes k h e = rw (← m, ← er, eq-eqb r.number 0 h, ← e)

-- a kind that the frame has is numbered below the count
module _ (f : Frame) (g : Measured) (n : Counts f g) (k : KindNumbers) (t : has_kind g f.num_passes k ≡ true) where
  first_below : (k.kind ≡ 2 → ⊥) → (k.kind ≡ 3 → ⊥) → (k.kind ≡ 4 → ⊥) → section_number g k < g.sections
  first_below e2 e3 e4 = rw (← number_first g k e2 e3 e4) n.some_section

  pass_below : (g.sections ≡ 1 → ⊥) → (k.kind ≡ 2 → ⊥) → (k.kind ≡ 3 → ⊥) → k.kind ≡ 4 → section_number g k < g.sections
  pass_below h e2 e3 e4 =
      let both = and_parts (ltb k.pass_idx f.num_passes) (ltb k.group_idx g.groups) (has_pass_lem g f.num_passes k h e2 e4 _ refl ∙ t) in
      let pass : k.pass_idx < f.num_passes = ltb-true k.pass_idx f.num_passes both.0 in
      let group : k.group_idx < g.groups = ltb-true k.group_idx g.groups both.1 in
      rw (← number_pass g k e2 e3 e4, n.several h) (omega (arith, digits_lt pass group, mul_comm g.groups f.num_passes))

  pub number_below : section_number g k < g.sections
  number_below =
      split (eqb g.sections 1)
      (λ one.
      let e : k.kind ≡ 0 = eqb-true k.kind 0 (has_one g f.num_passes k (eqb-true g.sections 1 one) ∙ t) in
      first_below (λ q. omega arith) (λ q. omega arith) (λ q. omega arith))
      (λ one.
      let h : g.sections ≡ 1 → ⊥ = eqb-false g.sections 1 one in
      split (eqb k.kind 2)
      (λ e.
      let e2 : k.kind ≡ 2 = eqb-true k.kind 2 e in
      let group : k.group_idx < g.lf_groups = ltb-true k.group_idx g.lf_groups (has_lf g f.num_passes k h e2 ∙ t) in
      rw (← number_lf g k e2, n.several h) (omega arith))
      (λ e.
      let e2 : k.kind ≡ 2 → ⊥ = eqb-false k.kind 2 e in
      split (eqb k.kind 3)
      (λ e'. rw (← number_hf g k e2 (eqb-true k.kind 3 e'), n.several h) (omega arith))
      (λ e'.
      let e3 : k.kind ≡ 3 → ⊥ = eqb-false k.kind 3 e' in
      split (eqb k.kind 4)
      (λ e''. pass_below h e2 e3 (eqb-true k.kind 4 e''))
      (λ e''. first_below e2 e3 (eqb-false k.kind 4 e'')))))
