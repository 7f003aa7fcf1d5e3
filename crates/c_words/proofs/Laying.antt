-- Laws of a layout's words: each way of the look-up.
use Prim.Native.Nat.{ℕ, ◌≤◌, ◌<◌}
use mathlib.Core.Path.{◌≡◌, ◌∙◌}
use mathlib.Core.List.{List}
use lib.ListN.{length}
use borrow.Author.Tests.{lt-ltb, le-ltb}
use Rattle.bits.specs.declared.Refusal.{Refusal}
use Rattle.bits.specs.Refusals.{refusal}
use Rattle.std.specs.Prelude.{Result, Err}
use Rattle.order.specs.declared.SectionNumber.{SectionNumber}
use Rattle.order.specs.Numbers.{section_or_refused}
use Rattle.layout.specs.Layouts.{section_in}
use Rattle.c_words.specs.Layouts.{low_at, section_by}

module _ (words : List ℕ) (x y pass : ℕ) where
  pub few_words : length words < 8 → (r : Refusal) → r ≡ refusal 3 0 → Err r ≡ section_or_refused (section_by words x y pass)
  unfolding section_by
  few_words h r e = rw (lt-ltb (length words) 8 h, e)

  pub by_words : 8 ≤ length words → (a b c d e f g h : ℕ) (r : Result SectionNumber Refusal)
      → a ≡ low_at words 0 → b ≡ low_at words 1 → c ≡ low_at words 2 → d ≡ low_at words 3 → e ≡ low_at words 4 → f ≡ low_at words 5 → g ≡ low_at words 6 → h ≡ low_at words 7
      → r ≡ section_or_refused (section_in (record { width = a; height = b; power = c; columns = d; groups = e; lf_groups = f; sections = g; passes = h }) x y pass)
      → r ≡ section_or_refused (section_by words x y pass)
  unfolding section_by
  by_words long a b c d e f g h r pa pb pc pd pe pf pg ph er = er ∙ rw (le-ltb (length words) 8 long, pa, pb, pc, pd, pe, pf, pg, ph)
