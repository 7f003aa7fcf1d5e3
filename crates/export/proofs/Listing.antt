-- The section entries: refused for want of room, or what the crate below read.
use Prim.Native.Nat.{ℕ, ◌<◌, ◌≤◌}
use mathlib.Core.Path.{◌≡◌, ◌∙◌}
use mathlib.Core.List.{List}
use lib.ListN.{length}
use borrow.Author.Tests.{lt-ltb, le-ltb}
use Rattle.bits.specs.declared.Refusal.{Refusal}
use Rattle.grid.specs.declared.Frame.{Frame}
use Rattle.toc.specs.Reading.{TocAnswer, Tables, Reading, Done, refused_read, written}
use Rattle.toc.proofs.Accepted.{Telling, same_answer}
use Rattle.c_words.specs.Status.{status_of}
use Rattle.c_words.specs.Contents.{toc_status, toc_after, no_room, roomed_reading, Listed}

module _ (s : List ℕ) (f g : Frame) (ef : f ≡ g) (ask : Frame → Reading) (t : Tables) (out : List ℕ) where
  -- too few words: nothing is written
  pub listed_short : length out < 3 → (r : Refusal) → r ≡ no_room (length s) f → (word : ℕ) → word ≡ status_of r
      → Listed (roomed_reading s g out (ask g)) t word t.offsets t.sizes t.order t.inverse out out
  unfolding roomed_reading refused_read written
  listed_short h r er word ew =
      let short = lt-ltb (length out) 3 h in
      record {
        status = ew ∙ rw (short, er, ef);
        offsets = rw short;
        sizes = rw short;
        order = rw short;
        inverse = rw short;
        words = rw short;
      }

  -- the entry of the crate below, and its answer as words
  pub listed : 3 ≤ length out → (a : TocAnswer) (o z p i out' : List ℕ) (word : ℕ) → Telling (ask f).answer → Done (ask f) t a o z p i → (word ≡ toc_status a) × (out' ≡ toc_after a out)
      → Listed (roomed_reading s g out (ask g)) t word o z p i out out'
  unfolding roomed_reading
  listed h a o z p i out' word telling done told =
      let room = le-ltb (length out) 3 h in
      let is : a ≡ (ask f).answer = same_answer a (ask f).answer telling done.answer in
      record {
        status = told.0 ∙ rw (room, ← ef, is);
        offsets = done.offsets ∙ rw (room, ef);
        sizes = done.sizes ∙ rw (room, ef);
        order = done.order ∙ rw (room, ef);
        inverse = done.inverse ∙ rw (room, ef);
        words = told.1 ∙ rw (room, ← ef, is);
      }
