-- The kinds of section: one group and one pass give a single All; otherwise LfGlobal, the LF groups, HfGlobal, then for each pass its groups.
use Rattle.std.specs.Prelude.{ℕ, ◌+◌, ◌-◌, ◌*◌, ◌/◌, ◌%◌, Bool, ◌&&◌, ◌||◌, eqb, leb, ltb, Result, Ok, Err}
use Rattle.bits.specs.declared.Refusal.{Refusal}
use Rattle.bits.specs.Refusals.{pick, answered}
use Rattle.grid.specs.declared.Frame.{Frame}
use Rattle.grid.specs.Measured.{Measured, grid_of}
use Rattle.grid.specs.Groups.{judge}
use Rattle.order.specs.declared.SectionNumber.{SectionNumber}
use Rattle.order.specs.Numbers.{SectionAnswer}
use Rattle.sections.specs.declared.TocGroupKind.{TocGroupKind}
use Rattle.sections.specs.declared.TocGroupKind.TheVariants.{All, LfGlobal, LfGroup, HfGlobal, GroupPass}
use Rattle.sections.specs.declared.KindNumbers.{KindNumbers}

-- the number of each kind, and its values: a pass and a group, or an LF group
abbrev pub numbers_of : TocGroupKind → KindNumbers
numbers_of All = record { kind = 0; pass_idx = 0; group_idx = 0 }
numbers_of LfGlobal = record { kind = 1; pass_idx = 0; group_idx = 0 }
numbers_of (LfGroup i) = record { kind = 2; pass_idx = 0; group_idx = i }
numbers_of HfGlobal = record { kind = 3; pass_idx = 0; group_idx = 0 }
numbers_of (GroupPass p i) = record { kind = 4; pass_idx = p; group_idx = i }

-- whether the frame has a section of the kind: a frame of one has All alone; another has no All, LF groups below their count, and passes and groups
-- below theirs
unfoldable pub has_kind : Measured → ℕ → KindNumbers → Bool
has_kind g passes k =
    pick (eqb g.sections 1)
    (eqb k.kind 0)
    (pick (eqb k.kind 2)
    (ltb k.group_idx g.lf_groups)
    (pick (eqb k.kind 4)
    (ltb k.pass_idx passes && ltb k.group_idx g.groups)
    (eqb k.kind 1 || eqb k.kind 3)))

-- its section number: All and LfGlobal are section 0
unfoldable pub section_number : Measured → KindNumbers → ℕ
section_number g k =
    pick (eqb k.kind 2)
    (1 + k.group_idx)
    (pick (eqb k.kind 3)
    (1 + g.lf_groups)
    (pick (eqb k.kind 4)
    (1 + g.lf_groups + 1 + k.pass_idx * g.groups + k.group_idx)
    0))

-- the kind of section i
unfoldable pub kind_at : Measured → ℕ → TocGroupKind
kind_at g i =
    pick (eqb g.sections 1)
    All
    (pick (eqb i 0)
    LfGlobal
    (pick (leb i g.lf_groups)
    (LfGroup (i - 1))
    (pick (eqb i (1 + g.lf_groups))
    HfGlobal
    (GroupPass ((i - (2 + g.lf_groups)) / g.groups) ((i - (2 + g.lf_groups)) % g.groups)))))

-- a section number beside a refusal is 0
unfoldable pub section_answer : Refusal → ℕ → SectionAnswer
section_answer r v = record { section = record { 0 = pick (eqb r.number 0) v 0 }; refusal = r }

-- 8, 9, 10, then 14 where the frame has no such section
unfoldable pub section_of_kind : Frame → TocGroupKind → SectionAnswer
section_of_kind f kind =
    section_answer (judge (grid_of f) (has_kind (grid_of f) f.num_passes (numbers_of kind))) (section_number (grid_of f) (numbers_of kind))

-- a section's kind and a refusal, beside which it is All
pub record KindAnswer : Type 0 where
  pub kind : TocGroupKind
  pub refusal : Refusal

-- what an answer says, its kind by number and values
pub record KindTold : Type 0 where
  pub numbers : KindNumbers
  pub refusal : Refusal

abbrev pub kind_told : KindAnswer → KindTold
kind_told a = record { numbers = numbers_of a.kind; refusal = a.refusal }

-- as the function gives it: the kind's number and values, or why there is none
abbrev pub kind_or_refused : KindTold → Result KindNumbers Refusal
kind_or_refused t = answered t.refusal t.numbers

abbrev pub numbers_in : Result TocGroupKind Refusal → Result KindNumbers Refusal
numbers_in (Ok kind) = Ok (numbers_of kind)
numbers_in (Err r) = Err r

-- the same the other way; a kind beside a refusal is All, number 0
unfoldable pub kind_of : Frame → SectionNumber → KindTold
kind_of f section =
    record {
      numbers = numbers_of (pick (eqb (judge (grid_of f) (ltb section.0 (grid_of f).sections)).number 0) (kind_at (grid_of f) section.0) All);
      refusal = judge (grid_of f) (ltb section.0 (grid_of f).sections);
    }
