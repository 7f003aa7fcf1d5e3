-- A header whose first bit says all default reads as the defaults, and ends behind that bit.
use Prim.Native.Nat.{ℕ, zero, suc}
use native.Mathlib.Omega.{arith}
use mathlib.Core.Path.{◌≡◌, refl, sym, ◌∙◌, ap}
use mathlib.Core.Bool.{Bool, true, false, and-true}
use mathlib.Core.List.{List, []}
use lib.ListN.{replicate}
use lib.Seq.{sets}
use borrow.Author.Tests.{le-ltb}
use Rattle.bits.specs.declared.Read.{Read}
use Rattle.std.specs.Prelude.{Ok}
use Rattle.bits.specs.declared.Cursor.{Cursor}
use Rattle.bits.specs.Refusals.{start}
use Rattle.bits.specs.Codec.{Codec, bool, u32, field}
use Rattle.bits.specs.Table.{Table, read, bind, within, times}
use Rattle.bits.proofs.Tables.{field_off, read_within}
use Rattle.bits.proofs.Rows.{Reads, row_then, bind_then, within_then, times_then, times_end, at_end}
use Rattle.filter.proofs.FilterLaws.{filter_default_lem, extensions_off}
use Rattle.header.specs.declared.Facts.{Facts}
use Rattle.header.specs.declared.blending.Blending.{Blending}
use Rattle.header.specs.declared.blending.Decider.{Decider}
use Rattle.header.specs.declared.FrameHeader.{FrameHeader}
use Rattle.header.specs.declared.parts.Front.{Front}
use Rattle.header.specs.declared.parts.Back.{Back}
use Rattle.header.specs.Arrays.{element, array}
use Rattle.header.specs.Private.{Arrayed, Extras, Defaulted, default_front, default_back}
use Rattle.header.specs.Opening.{opening, upsamplings}
use Rattle.header.specs.Shape.{passes, scales, placement}
use Rattle.header.specs.Blending.{blending, words, source_decider}
use Rattle.header.specs.Closing.{closing}
use Rattle.header.specs.Header.{no_blending, front, back, header}
use Rattle.header.specs.Record.{numbers_of, header_of}

-- a table that repeats, and reads nothing each time
times_none : {R A : Type 0} (t : ℕ → Table R A) (v : A) (s : List ℕ) (c : Cursor) → ((i : ℕ) → Reads (t i) s c (record { value = v; next = c }))
    → (n i : ℕ) → Reads (times n i t) s c (record { value = replicate n v; next = c })
times_none t v s c one zero i = times_end i t
times_none t v s c one (suc n) i = times_then n i t v c (one i) (times_none t v s c one n (suc i))

-- an array of which nothing is sent
array_none : {R : Type 0} (k : Codec) (d : ℕ) (col : R → ℕ → ℕ) (s : List ℕ) (c : Cursor) (n : ℕ) → Reads (array k 0 n d col) s c (record { value = replicate n d; next = c })
unfolding element
array_none k d col s c n =
    times_none (element k 0 d col) d s c (λ i. row_then (record { value = d; next = c }) (rw (le-ltb i 0 (omega arith)) (sym (field_off s k d c))) at_end) n 0

-- blending that isn't sent
blending_off : (extra full : Bool) (d : Decider) (s : List ℕ) (c : Cursor) → Reads (blending false extra full d) s c (record { value = no_blending; next = c })
unfolding blending read field
blending_off true full d s c = record { is = refl }
blending_off false full d s c = record { is = refl }

blending_within_off : {R : Type 0} (g : R → Blending) (full : Bool) (d : Decider) (s : List ℕ) (c : Cursor)
    → Reads (within g (blending false true full d)) s c (record { value = no_blending; next = c })
blending_within_off g full d s c = record { is = read_within g (blending false true full d) s c ∙ (blending_off true full d s c).is }

module _ (f : Facts) (s : List ℕ) (c : Cursor) where
  opening_off : (b : Cursor) → ◌≡◌ {A = Read ℕ} (record { value = 1; next = c }) (field s true bool 1 b) → Reads (opening f) s b (record { value = (default_front f).opening; next = c })
  unfolding opening default_front read field
  opening_off b e = row_then (record { value = 1; next = c }) e (record { is = refl })

  scales_off : Reads (scales f (default_front f).opening) s c (record { value = (default_front f).scales; next = c })
  unfolding scales default_front read field
  scales_off = record { is = rw (and-true f.xyb) }

  passes_off : Reads (passes false) s c (record { value = (default_front f).passes; next = c })
  unfolding passes default_front element times bind read field
  passes_off = record { is = refl }

  placement_off : Reads (placement f (default_front f).opening) s c (record { value = (default_front f).placement; next = c })
  unfolding placement default_front read field
  placement_off = record { is = refl }

  closing_off : (resets : Bool) → Reads (closing f (default_front f).opening resets) s c (record { value = default_back.closing; next = c })
  unfolding closing default_front default_back read field
  closing_off resets = record { is = refl }

  front_off : ◌≡◌ {A = Read ℕ} (record { value = 1; next = c }) (field s true bool 1 (start 0))
      → Reads (front f) s (start 0) (record { value = record { front = default_front f; upsampling = replicate f.extra 1 }; next = c })
  unfolding front default_front
  front_off e =
      within_then _ _ _ _ _ (opening_off (start 0) e)
      (bind_then _ _ _ _ (array_none (u32 upsamplings) 1 _ s c f.extra)
      (within_then _ _ _ _ _ scales_off
      (within_then _ _ _ _ _ passes_off
      (within_then _ _ _ _ _ placement_off at_end))))

  back_off : Reads (back f (default_front f).opening (default_front f).placement) s c (record { value = record { back = default_back; blending = replicate f.extra no_blending; name = [] }; next = c })
  unfolding back default_front default_back field
  back_off =
      within_then _ _ _ _ _ (blending_off _ _ _ s c)
      (bind_then _ _ _ _ (times_none _ _ s c (λ i. blending_within_off _ _ _ s c) f.extra 0)
      (within_then _ _ _ _ _ (closing_off _)
      (bind_then _ _ _ _ (times_end 0 _)
      (within_then _ _ _ _ _ (record { is = filter_default_lem s false false c refl })
      (within_then _ _ _ _ _ (extensions_off s c) at_end)))))

  -- the header that is that bit
  pub header_off : ◌≡◌ {A = Read ℕ} (record { value = 1; next = c }) (field s true bool 1 (start 0))
      → read (header f) s (start 0)
      ≡ record { value = record { front = default_front f; upsampling = replicate f.extra 1; back = default_back; blending = replicate f.extra no_blending; name = [] }; next = c }
  unfolding header
  header_off e =
      let whole : Reads (header f) s (start 0) _ = bind_then _ _ _ _ (front_off e) (bind_then _ _ _ _ back_off at_end) in
      whole.is

  -- what is answered of it
  pub default_given : (fr : Front) (ba : Back) (h : FrameHeader) (w e : Cursor) (upsampling upsampling' channels channels' : List ℕ)
      → fr ≡ default_front f → ba ≡ default_back → numbers_of h ≡ header_of f fr ba
      → Arrayed (u32 upsamplings) 0 f.extra 1 s c w upsampling upsampling'
      → Extras false f.extra true (source_decider f 0) s c e channels channels'
      → Defaulted f c.at (Ok (record { header = h; end = c.at })) upsampling upsampling' channels channels'
  default_given fr ba h w e upsampling upsampling' channels channels' pf pb ph wu we = record {
    answer = rw (ph, pf, pb);
    upsampled = wu.words ∙ ap (λ (o : Read (List ℕ)). sets upsampling 0 o.value) (array_none (u32 upsamplings) 1 _ s c f.extra).is;
    blended = we.content ∙ ap (λ (o : Read (List Blending)). sets channels 0 (words o.value)) (times_none _ no_blending s c (λ i. blending_off true true (source_decider f 0) s c) f.extra 0).is;
  }
