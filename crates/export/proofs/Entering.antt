-- The header entry: refused for want of room, or what the crate below read.
use Prim.Native.Nat.{ℕ}
use mathlib.Core.Path.{◌≡◌, ◌∙◌, ap}
use mathlib.Core.Bool.{Bool, true, false}
use mathlib.Core.List.{List}
use lib.Ieee.{Float}
use lib.IntN.{ℤ}
use lib.ListN.{length}
use Rattle.std.specs.Prelude.{Result}
use Rattle.bits.specs.declared.Refusal.{Refusal}
use Rattle.header.specs.declared.Facts.{Facts}
use Rattle.header.specs.declared.entry.HeaderRead.{HeaderRead}
use Rattle.header.specs.Entry.{judged, stands, told, answered, refused_header, Headed}
use Rattle.c_words.specs.Status.{status_of}
use Rattle.c_words.specs.Heading.{HandedBy, record_room, no_record, Buffers, judged_all, HeadRead}
use Rattle.header.proofs.Entering.{headed_number}
use Rattle.c_words.proofs.Recording.{refused_by, not_none, handed}

module _ (f : Facts) (s : List ℕ) (before : Buffers) (room : Bool)
    (er : room ≡ record_room (length before.numbers) (length before.signs) (length before.reals)) where
  pub head_short : room ≡ false → (r : Refusal) → r ≡ no_record (length s) f → (word : ℕ) → word ≡ status_of r → HeadRead f s word before before
  unfolding judged_all refused_header
  head_short h r e word ew =
      let is : judged_all s f before ≡ no_record (length s) f = rw (← er, h) in
      let no = not_none (length s) f in
      let refused : answered f (no_record (length s) f) (stands f s) ≡ refused_header (no_record (length s) f) = refused_by f (no_record (length s) f) (stands f s) no in
      record {
        named = rw (is, no, no);
        upsampled = rw (is, no, no);
        blended = rw (is, no, no);
        recorded = rw (is, refused) (record { status = ew ∙ ap status_of e; numbers = rw no; signs = rw no; reals = rw no });
      }

  pub head_read : room ≡ true → (a : Result HeaderRead Refusal) (name' upsampling' blending' words' : List ℕ) (signs' : List ℤ) (reals' : List Float) (word : ℕ)
      → Headed f s a before.name name' before.upsampling upsampling' before.blending blending'
      → HandedBy (told a) word before.numbers words' before.signs signs' before.reals reals'
      → HeadRead f s word before (record { name = name'; upsampling = upsampling'; blending = blending'; numbers = words'; signs = signs'; reals = reals' })
  unfolding judged_all
  head_read h a name' upsampling' blending' words' signs' reals' word headed by =
      let is : judged_all s f before ≡ judged (length s) f (length before.name) (length before.upsampling) (length before.blending) = rw (← er, h) in
      record {
        named = headed.named ∙ rw is;
        upsampled = headed.upsampled ∙ rw is;
        blended = headed.blended ∙ rw is;
        recorded = rw (is, ← headed.answer) (handed (told a) word _ _ _ _ _ _ (headed_number f s a _ _ _ _ _ _ headed) by);
      }
