-- The columns of the header's tables give back what was read: the law of bits' `Columns`, of each table and of the whole header.
use Prim.Native.Nat.{ℕ, ◌-◌, ◌<◌}
use native.Mathlib.Omega.{arith}
use native.Mathlib.Nat.{zero-add}
use mathlib.Core.Path.{◌≡◌, refl, sym, ◌∙◌, ap}
use mathlib.Core.Bool.{Bool, true, not, ◌&&◌}
use mathlib.Core.List.{List}
use lib.Dec.{eqb}
use lib.ListN.{get_or}
use Rattle.bits.specs.declared.Read.{Read}
use Rattle.bits.specs.declared.Cursor.{Cursor}
use Rattle.bits.specs.Codec.{Codec, u, u32, u64, field}
use Rattle.bits.specs.Table.{Table, read, bind, within, times}
use Rattle.bits.specs.Extensions.{extensions}
use Rattle.bits.proofs.Tables.{read_within}
use Rattle.bits.proofs.Rows.{Reads, row_then, bind_then, within_then, at_end}
use Rattle.bits.proofs.Columns.{Columns, Keeps, Kept, kept, kept_columns, columns_bind, columns_within, columns_inside, columns_times, extensions_columns}
use Rattle.filter.specs.declared.RestorationFilter.{RestorationFilter}
use Rattle.filter.specs.Filter.{restoration}
use Rattle.filter.proofs.Columns.{FilterSent, restoration_columns}
use Rattle.header.specs.declared.Facts.{Facts}
use Rattle.header.specs.declared.opening.Opening.{Opening}
use Rattle.header.specs.declared.shape.Passes.{Passes}
use Rattle.header.specs.declared.shape.Scales.{Scales}
use Rattle.header.specs.declared.shape.Placement.{Placement}
use Rattle.header.specs.declared.blending.Blending.{Blending}
use Rattle.header.specs.declared.blending.Decider.{Decider}
use Rattle.header.specs.declared.closing.Closing.{Closing}
use Rattle.header.specs.Arrays.{element, array}
use Rattle.header.specs.Opening.{opening, upsamplings}
use Rattle.header.specs.Shape.{pass_counts, downsamples, last_passes, passes, scales, placement}
use Rattle.header.specs.Blending.{covers_image, resets, by_own, source_decider, blending}
use Rattle.header.specs.Private.{extras}
use Rattle.header.specs.Closing.{closing}
use Rattle.header.specs.Header.{Header, Begun, Ended, sent_upsampling, sends_blending, no_blending, front, back, header}
use Rattle.header.proofs.Walks.{array_any}
use Rattle.header.proofs.Whole.{channels_any}

-- ---- tables of rows

-- `all_default` isn't kept: its column is 0, so it has to have been read as 0
opening_kept : (f : Facts) → Kept (opening f) (λ r. r.all_default ≡ 0)
unfolding opening Keeps
opening_kept f =
    λ all kind encoding flags ycbcr j0 j1 j2 up none.
    kept (kept (kept (kept (kept (kept (kept (kept (λ on. sym none, tt))))))))

scales_kept : (f : Facts) (o : Opening) → Kept (scales f o) (λ r. Unit {0})
unfolding scales Keeps
scales_kept f o = λ shift x b known. kept (kept (kept tt))

-- the record has an LF frame's level plus one
placement_kept : (f : Facts) (o : Opening) → Kept (placement f o) (λ r. Unit {0})
unfolding placement Keeps
placement_kept f o =
    λ level cropped x y w h known. kept (kept (kept (kept (kept (λ on. rw on (omega arith), tt)))))

blending_kept : (on extra full : Bool) (d : Decider) → Kept (blending on extra full d) (λ r. Unit {0})
unfolding blending Keeps
blending_kept on extra full d = λ m a k x known. kept (kept (kept (kept tt)))

closing_kept : (f : Facts) (o : Opening) (resets : Bool) → Kept (closing f o resets) (λ r. Unit {0})
unfolding closing Keeps
closing_kept f o resets =
    λ duration timecode last reference ct name known. kept (kept (kept (kept (kept (kept tt)))))

module _ (s : List ℕ) (c : Cursor) where
  pub opening_columns : (f : Facts) → (read (opening f) s c).value.all_default ≡ 0 → Columns (opening f) s c (read (opening f) s c).value
  opening_columns f none = kept_columns (opening f) (λ r. r.all_default ≡ 0) (opening_kept f) s c none

  pub scales_columns : (f : Facts) (o : Opening) → Columns (scales f o) s c (read (scales f o) s c).value
  scales_columns f o = kept_columns (scales f o) (λ r. Unit {0}) (scales_kept f o) s c tt

  pub placement_columns : (f : Facts) (o : Opening) → Columns (placement f o) s c (read (placement f o) s c).value
  placement_columns f o = kept_columns (placement f o) (λ r. Unit {0}) (placement_kept f o) s c tt

  pub blending_columns : (on extra full : Bool) (d : Decider) → Columns (blending on extra full d) s c (read (blending on extra full d) s c).value
  blending_columns on extra full d = kept_columns (blending on extra full d) (λ r. Unit {0}) (blending_kept on extra full d) s c tt

  pub closing_columns : (f : Facts) (o : Opening) (resets : Bool) → Columns (closing f o resets) s c (read (closing f o resets) s c).value
  closing_columns f o resets = kept_columns (closing f o resets) (λ r. Unit {0}) (closing_kept f o resets) s c tt

-- ---- arrays

-- what an array reads, whatever its columns
abbrev words : Codec → ℕ → ℕ → ℕ → List ℕ → Cursor → Read (List ℕ)
words k limit count d s c = read (array k limit count d (λ (x : List ℕ) (i : ℕ). 0)) s c

module _ {R : Type 0} (k : Codec) (limit count d : ℕ) (col : R → ℕ → ℕ) (s : List ℕ) (c : Cursor) where
  array_read : Reads (array k limit count d col) s c (record { value = (words k limit count d s c).value; next = (words k limit count d s c).next })
  array_read = record { is = array_any k limit d col (λ (x : List ℕ) (i : ℕ). 0) count 0 s c }

  module _ (r : R) (is : (i : ℕ) → i < count → col r i ≡ get_or (words k limit count d s c).value i d) where
    -- the column of element i is the i-th word that was read
    pub array_columns : Columns (array k limit count d col) s c r
    unfolding element Columns read
    array_columns =
        columns_times (element k limit d col) s r (Unit {0}) (col r) d (λ j at here. (λ on. here tt, tt)) count 0 c
        (λ known i l. ap (col r) (zero-add i) ∙ is i l ∙ ap (λ (o : Read (List ℕ)). get_or o.value i d) (sym array_read.is))

    -- and then the rest
    pub array_then : {B : Type 0} (f : List ℕ → Table R B) → Columns (f (words k limit count d s c).value) s (words k limit count d s c).next r
        → Columns (bind (array k limit count d col) f) s c r
    array_then f rest = columns_bind (array k limit count d col) f s c r array_columns (rw array_read.is rest)

module _ (on : Bool) (s : List ℕ) (c : Cursor) where
  abbrev count : Read ℕ
  count = field s on (u32 pass_counts) 1 c

  abbrev scaled : Read ℕ
  scaled = field s (not (eqb count.value 1)) (u32 downsamples) 0 count.next

  abbrev shifts : Read (List ℕ)
  shifts = words (u 2) (count.value - 1) 10 0 s scaled.next

  abbrev factors : Read (List ℕ)
  factors = words (u32 upsamplings) scaled.value 4 0 s shifts.next

  abbrev lasts : Read (List ℕ)
  lasts = words (u32 last_passes) scaled.value 4 0 s factors.next

  abbrev all_passes : Passes
  all_passes = record {
    num_passes = count.value;
    num_ds = scaled.value;
    shift = shifts.value;
    downsample = factors.value;
    last_pass = lasts.value;
  }

  passes_read_lem : Reads (passes on) s c (record { value = all_passes; next = lasts.next })
  unfolding passes
  passes_read_lem =
      row_then count refl
      (row_then scaled refl
      (bind_then _ _ shifts.value shifts.next (array_read _ _ 10 0 _ s _)
      (bind_then _ _ factors.value factors.next (array_read _ _ 4 0 _ s _)
      (bind_then _ _ lasts.value lasts.next (array_read _ _ 4 0 _ s _) at_end))))

  passes_given : Columns (passes on) s c all_passes
  unfolding passes Columns
  passes_given = (
    λ on. refl,
    (
      λ on. refl,
      array_then (u 2) (count.value - 1) 10 0 _ s scaled.next all_passes (λ i l. refl) _
          (array_then (u32 upsamplings) scaled.value 4 0 _ s shifts.next all_passes (λ i l. refl) _
          (array_then (u32 last_passes) scaled.value 4 0 _ s factors.next all_passes (λ i l. refl) _ tt)),
    ),
  )

  pub passes_columns : Columns (passes on) s c (read (passes on) s c).value
  passes_columns = rw passes_read_lem.is passes_given

-- ---- the header's two parts. Their columns are of a whole header, whose parts are those that were read.

module _ (f : Facts) (s : List ℕ) (c : Cursor) where
  abbrev opened : Read Opening
  opened = read (opening f) s c

  abbrev sized : Read (List ℕ)
  sized = words (u32 upsamplings) (sent_upsampling f opened.value) f.extra 1 s opened.next

  abbrev shaped : Read Scales
  shaped = read (scales f opened.value) s sized.next

  abbrev passed : Read Passes
  passed = read (passes (eqb opened.value.all_default 0 && not (eqb opened.value.frame_type 2))) s shaped.next

  abbrev placed : Read Placement
  placed = read (placement f opened.value) s passed.next

  abbrev begun : Begun
  begun = record {
    front = record { opening = opened.value; scales = shaped.value; passes = passed.value; placement = placed.value };
    upsampling = sized.value;
  }

  pub front_read : Reads (front f) s c (record { value = begun; next = placed.next })
  unfolding front
  front_read =
      within_then _ _ _ opened.value opened.next (record { is = refl })
      (bind_then _ _ sized.value sized.next (array_read _ _ f.extra 1 _ s _)
      (within_then _ _ _ shaped.value shaped.next (record { is = refl })
      (within_then _ _ _ passed.value passed.next (record { is = refl })
      (within_then _ _ _ placed.value placed.next (record { is = refl }) at_end))))

  pub front_columns : opened.value.all_default ≡ 0
      → (h : Header) → h.front ≡ begun.front → h.upsampling ≡ begun.upsampling → Columns (front f) s c h
  unfolding front Columns
  front_columns none h is ups =
      columns_inside _ _ _ s c h (rw is (opening_columns s c f none))
      (array_then (u32 upsamplings) _ f.extra 1 _ s opened.next h (λ i l. ap (λ (x : List ℕ). get_or x i 1) ups) _
      (columns_inside _ _ _ s sized.next h (rw is (scales_columns s sized.next f opened.value))
      (columns_inside _ _ _ s shaped.next h (rw is (passes_columns _ s shaped.next))
      (columns_inside _ _ _ s passed.next h (rw is (placement_columns s passed.next f opened.value)) tt))))

module _ (f : Facts) (o : Opening) (p : Placement) (s : List ℕ) (c : Cursor) where
  abbrev colour : Read Blending
  colour = read (blending (sends_blending o) (not (eqb f.extra 0)) (covers_image f p) by_own) s c

  abbrev channels : Read (List Blending)
  channels = read (extras (sends_blending o) f.extra (covers_image f p) (source_decider f colour.value.mode)) s colour.next

  abbrev closed : Read Closing
  closed = read (closing f o (resets colour.value.mode (covers_image f p))) s channels.next

  abbrev named : Read (List ℕ)
  named = words (u 8) closed.value.name_length closed.value.name_length 0 s closed.next

  abbrev filtered : Read RestorationFilter
  filtered = read (restoration (eqb o.all_default 0) (eqb o.encoding 1)) s named.next

  abbrev skipped : Read ℕ
  skipped = read (extensions (eqb o.all_default 0)) s filtered.next

  abbrev ended : Ended
  ended = record {
    back = record { blending = colour.value; closing = closed.value; filter = filtered.value };
    blending = channels.value;
    name = named.value;
  }

  pub back_read : Reads (back f o p) s c (record { value = ended; next = skipped.next })
  unfolding back
  back_read =
      within_then _ _ _ colour.value colour.next (record { is = refl })
      (bind_then _ _ channels.value channels.next (record { is = channels_any _ _ f.extra 0 s colour.next })
      (within_then _ _ _ closed.value closed.next (record { is = refl })
      (bind_then _ _ named.value named.next (array_read _ _ closed.value.name_length 0 _ s _)
      (within_then _ _ _ filtered.value filtered.next (record { is = refl })
      (within_then _ _ _ skipped.value skipped.next (record { is = refl }) at_end)))))

  -- what isn't kept of the filter was read as it would be written, and no extension was asked for
  pub record BackSent : Type 0 where
    pub filter : FilterSent (eqb o.all_default 0) (eqb o.encoding 1) s named.next
    pub extensions : (field s (eqb o.all_default 0) u64 0 filtered.next).value ≡ 0

  -- an extra channel's numbers stand in one element, and then the rest
  module _ (at : ℕ → Header → Blending) (h : Header) (is : (i : ℕ) → i < f.extra → at i h ≡ get_or channels.value i no_blending) where
    abbrev own : Table Blending Blending
    own = blending (sends_blending o) true (covers_image f p) (source_decider f colour.value.mode)

    channels_read : read (times f.extra 0 (λ i. within (at i) own)) s colour.next ≡ channels
    channels_read = channels_any at own f.extra 0 s colour.next

    channels_columns : Columns (times f.extra 0 (λ i. within (at i) own)) s colour.next h
    channels_columns =
        columns_times (λ i. within (at i) own) s h (Unit {0}) (λ i. at i h) no_blending
        (λ j c here.
        columns_within (at j) own s c h (rw (here tt, read_within (at j) own s c) (blending_columns s c (sends_blending o) true (covers_image f p) (source_decider f colour.value.mode))))
        f.extra 0 colour.next
        (λ known k l. ap (λ (j : ℕ). at j h) (zero-add k) ∙ is k l ∙ ap (λ (x : Read (List Blending)). get_or x.value k no_blending) (sym channels_read))

    channels_then : {B : Type 0} (g : List Blending → Table Header B) → Columns (g channels.value) s channels.next h
        → Columns (bind (times f.extra 0 (λ i. within (at i) own)) g) s colour.next h
    channels_then g rest = columns_bind _ g s colour.next h channels_columns (rw channels_read rest)

  pub back_columns : BackSent → (h : Header) → h.back ≡ ended.back → h.blending ≡ ended.blending → h.name ≡ ended.name → Columns (back f o p) s c h
  unfolding back Columns
  back_columns sent h is blends names =
      columns_inside _ _ _ s c h (rw is (blending_columns s c (sends_blending o) (not (eqb f.extra 0)) (covers_image f p) by_own))
      (channels_then _ h (λ i l. ap (λ (x : List Blending). get_or x i no_blending) blends) _
      (columns_inside _ _ _ s channels.next h (rw is (closing_columns s channels.next f o (resets colour.value.mode (covers_image f p))))
      (array_then (u 8) _ closed.value.name_length 0 _ s closed.next h (λ i l. ap (λ (x : List ℕ). get_or x i 0) names) _
      (columns_inside _ _ _ s named.next h (rw is (restoration_columns (eqb o.all_default 0) (eqb o.encoding 1) s named.next sent.filter))
      (columns_inside _ _ _ s filtered.next h (extensions_columns s (eqb o.all_default 0) filtered.next sent.extensions) tt)))))

-- ---- the whole header

module _ (f : Facts) (s : List ℕ) (c : Cursor) where
  abbrev ahead : Read Begun
  ahead = read (front f) s c

  abbrev behind : Read Ended
  behind = read (back f ahead.value.front.opening ahead.value.front.placement) s ahead.next

  abbrev whole : Header
  whole = record {
    front = ahead.value.front;
    upsampling = ahead.value.upsampling;
    back = behind.value.back;
    blending = behind.value.blending;
    name = behind.value.name;
  }

  header_read : Reads (header f) s c (record { value = whole; next = behind.next })
  unfolding header
  header_read = bind_then _ _ ahead.value ahead.next (record { is = refl }) (bind_then _ _ behind.value behind.next (record { is = refl }) at_end)

  -- `all_default` was read as 0, and what else isn't kept as it would be written
  pub record HeaderSent : Type 0 where
    pub all_default : (read (opening f) s c).value.all_default ≡ 0
    pub back : BackSent f ahead.value.front.opening ahead.value.front.placement s ahead.next

  header_given : HeaderSent → Columns (header f) s c whole
  unfolding header Columns
  header_given sent =
      let begun = front_read f s c in
      let ended = back_read f ahead.value.front.opening ahead.value.front.placement s ahead.next in
      columns_bind _ _ s c whole
      (front_columns f s c sent.all_default whole (ap (λ (x : Read Begun). x.value.front) begun.is) (ap (λ (x : Read Begun). x.value.upsampling) begun.is))
      (columns_bind _ _ s ahead.next whole
      (back_columns f ahead.value.front.opening ahead.value.front.placement s ahead.next sent.back whole
      (ap (λ (x : Read Ended). x.value.back) ended.is) (ap (λ (x : Read Ended). x.value.blending) ended.is) (ap (λ (x : Read Ended). x.value.name) ended.is))
      tt)

  -- of the header that was read
  pub header_columns : HeaderSent → Columns (header f) s c (read (header f) s c).value
  header_columns sent = rw header_read.is (header_given sent)
