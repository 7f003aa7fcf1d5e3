-- By a frame's own layout a sample has the section that it has by the frame; and so by the layout's words, out of which the layout comes back.
use Prim.Native.Nat.{ℕ, ◌+◌, ◌^◌, ◌<◌}
use native.Mathlib.Omega.{arith}
use native.Mathlib.Nat.{mod-eq_of_lt}
use mathlib.Core.Path.{◌≡◌, refl, sym, ◌∙◌, ap}
use mathlib.Core.Bool.{Bool, not, ◌&&◌, and-true}
use lib.Dec.{eqb, ltb}
use lib.Pow.{pow-add}
use borrow.Author.Tests.{eqb-true, eqb-false, lt-ltb}
use Rattle.bits.specs.Refusals.{none, refusal}
use Rattle.grid.specs.declared.Frame.{Frame}
use Rattle.grid.specs.Sizes.{color_width, group_side}
use Rattle.grid.specs.Measured.{Measured, laid, grid_of}
use Rattle.grid.specs.Groups.{index_at}
use Rattle.grid.proofs.Accepted.{Accepted, accepted, sound}
use Rattle.grid.proofs.Rounding.{up_le, side_exact}
use Rattle.grid.proofs.Answers.{judge_known, judge_unknown}
use Rattle.order.proofs.Entries.{split}
use Rattle.sections.specs.declared.TocGroupKind.{TocGroupKind}
use Rattle.sections.specs.declared.TocGroupKind.TheVariants.{All, GroupPass}
use Rattle.sections.specs.Kinds.{numbers_of, section_number}
use Rattle.sections.specs.Lookups.{sample_kind, has_sample, section_of_sample}
use Rattle.sections.proofs.Counts.{counts}
use Rattle.sections.proofs.OfKinds.{number_below, number_pass, number_first}
use Rattle.sections.proofs.Asking.{sample_parts, sample_all, sample_group, sample_has, of_sample_no, of_sample_yes}
use Rattle.layout.specs.declared.Layout.{Layout}
use Rattle.layout.specs.Layouts.{laid_out, number_in, not_in, section_in}
use Rattle.layout.proofs.Laid.{number_one, number_of, outside, found}
use Rattle.c_words.specs.Layouts.{layout_words, layout_by, section_by}

-- of a frame's own layout
module _ (f : Frame) (g : Measured) (m : g ≡ grid_of f) (z : g.refusal.number ≡ 0) where
  power_is : 2 ^ (7 + f.group_size_shift) ≡ g.side
  power_is =
      let s = sound f g m z in
      pow-add 2 7 f.group_size_shift ∙ sym (side_exact f.group_size_shift s.shift) ∙ s.side_is

  module _ (x y pass : ℕ) where
    number_same : number_in (laid_out f g) pass (index_at g.columns g.side x y) ≡ section_number g (numbers_of (sample_kind g x y pass))
    number_same =
        let group : ℕ = index_at g.columns g.side x y in
        split (eqb g.sections 1)
        (λ t.
        let h : g.sections ≡ 1 = eqb-true g.sections 1 t in
        sym (number_one (laid_out f g) pass group h)
        ∙ number_first g (numbers_of All) (eqb-false 0 2 refl) (eqb-false 0 3 refl) (eqb-false 0 4 refl)
        ∙ ap (λ (k : TocGroupKind). section_number g (numbers_of k)) (sample_all g x y pass h))
        (λ t.
        let h : g.sections ≡ 1 → ⊥ = eqb-false g.sections 1 t in
        sym (number_of (laid_out f g) pass group h)
        ∙ number_pass g (numbers_of (GroupPass pass group)) (eqb-false 4 2 refl) (eqb-false 4 3 refl) refl
        ∙ ap (λ (k : TocGroupKind). section_number g (numbers_of k)) (sample_group g x y pass h))

    -- the tests of a look-up are those of the frame
    tests_same : ((ltb x g.width && ltb y g.height) && (ltb pass f.num_passes && ltb (7 + f.group_size_shift) 32)) ≡ has_sample g f.num_passes x y pass
    unfolding has_sample
    tests_same =
        let s = sound f g m z in
        rw (lt-ltb (7 + f.group_size_shift) 32 (omega (arith, s.shift)), and-true (ltb pass f.num_passes))

    -- the section of a sample by the frame's layout is its section by the frame
    pub same_section : section_in (laid_out f g) x y pass ≡ section_of_sample f x y pass
    same_section =
        let known : Bool = has_sample g f.num_passes x y pass in
        split known
        (λ t.
        let n = counts f g m z in
        let a = sample_parts g f.num_passes x y pass t in
        let k = numbers_of (sample_kind g x y pass) in
        let low : index_at g.columns g.side x y < g.groups = n.sample x y a.across a.down in
        let under : section_number g k < g.sections = number_below f g n k (sample_has f g n x y pass a) in
        sym (found (laid_out f g) x y pass _ _ _ refl refl refl (ap not (tests_same ∙ t)) _ (ap (λ (d : ℕ). index_at g.columns d x y) (sym power_is)) low _ (sym number_same) under none refl)
        ∙ of_sample_yes f g m x y pass known refl none (judge_known g known none z t refl) refl _ refl k refl _ refl)
        (λ t.
        sym (outside (laid_out f g) x y pass _ _ _ refl refl refl (ap not (tests_same ∙ t)) not_in refl)
        ∙ of_sample_no f g m x y pass known refl (refusal 14 0) (judge_unknown g known (refusal 14 0) z t refl) (λ e. omega (arith, e)))

-- numbers of 32 bits come back
pub record Small (l : Layout) : Type 0 where
  pub width : l.width < 4294967296
  pub height : l.height < 4294967296
  pub power : l.power < 4294967296
  pub columns : l.columns < 4294967296
  pub groups : l.groups < 4294967296
  pub lf_groups : l.lf_groups < 4294967296
  pub sections : l.sections < 4294967296
  pub passes : l.passes < 4294967296

pub layout_back : (l : Layout) → Small l → layout_by (layout_words l) ≡ l
layout_back l s = rw (mod-eq_of_lt s.width, mod-eq_of_lt s.height, mod-eq_of_lt s.power, mod-eq_of_lt s.columns, mod-eq_of_lt s.groups, mod-eq_of_lt s.lf_groups, mod-eq_of_lt s.sections, mod-eq_of_lt s.passes)

-- as a frame's are
laid_small : (f : Frame) → Accepted f → Small (laid_out f (laid f))
unfolding laid
laid_small f a = record {
  width = omega (arith, a.wide);
  height = omega (arith, a.high);
  power = omega (arith, a.good.shift);
  columns = omega (arith, a.wide, up_le (color_width f) (group_side f) (omega (arith, a.side)));
  groups = omega (arith, a.groups);
  lf_groups = omega (arith, a.groups, a.lf_groups);
  sections = omega (arith, a.sections);
  passes = omega (arith, a.good.passes);
}

module _ (f : Frame) (g : Measured) (m : g ≡ grid_of f) (z : g.refusal.number ≡ 0) where
  layout_small : Small (laid_out f g)
  layout_small =
      let a = accepted f (rw m at z) in
      rw (m, a.grid) (laid_small f a)

  -- the section by the words of a frame's layout is the section by the frame
  pub section_by_frame : (x y pass : ℕ) → section_by (layout_words (laid_out f g)) x y pass ≡ section_of_sample f x y pass
  unfolding section_by
  section_by_frame x y pass = ap (λ (l : Layout). section_in l x y pass) (layout_back (laid_out f g) layout_small) ∙ same_section f g m z x y pass
