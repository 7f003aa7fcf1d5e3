-- Demand 1, whole: each public function that can refuse, over what it promises, ends with an answer or with one of its numbers. Each part is
-- named after its function, and is a law of the files of proofs/; `every_function` of proofs/Functions.antt has them all. Where a function answers a
-- `Result`, `Answers` says it of that answer, in the words of the function's promise: a value, or an `Err` of just that refusal (`answers_lem`).
use Rattle.std.specs.Prelude.{ℕ, ◌≡◌, List, Bool, true, false, ltb, length, eqb, Result, Ok, Err}
use Rattle.bits.specs.declared.Refusal.{Refusal}
use Rattle.bits.specs.declared.Cursor.{Cursor}
use Rattle.bits.specs.Refusals.{pick, refusal, none, answered}
use Rattle.bits.specs.Bits.{bit_count}
use Rattle.bits.specs.Table.{read, failed}
use Rattle.bits.specs.declared.Choices.{Choices}
use Rattle.bits.specs.declared.Sum.{Sum}
use Rattle.bits.specs.Codec.{u, bool, u32, cases, u64, f16, padding, skip, field}
use Rattle.bits.specs.Extensions.{whole, extensions}
use Rattle.filter.specs.Filter.{restoration}
use Rattle.filter.specs.Gabor.{gabor}
use Rattle.filter.specs.Epf.{epf}
use Rattle.grid.specs.declared.Frame.{Frame}
use Rattle.grid.specs.declared.Rect.{Rect}
use Rattle.grid.specs.Measured.{grid_of, grid_or_refused}
use Rattle.grid.specs.Groups.{sampled, told, rect_for, size_of, lf_index_of, index_for, touch_for, number_or_refused, rect_or_refused, size_or_refused, touch_or_refused}
use Rattle.header.specs.declared.Facts.{Facts}
use Rattle.header.specs.declared.entry.HeaderRead.{HeaderRead}
use Rattle.header.specs.Record.{zero_header}
use Rattle.header.specs.Entry.{judged, told as header_told, Headed}
use Rattle.order.specs.declared.SectionNumber.{SectionNumber}
use Rattle.order.specs.declared.SentNumber.{SentNumber}
use Rattle.order.specs.Order.{checked}
use Rattle.order.specs.Tables.{inverted, inverse_after}
use Rattle.order.specs.Numbers.{sent_of, section_of, sent_or_refused, section_or_refused}
use Rattle.sections.specs.declared.TocGroupKind.{TocGroupKind}
use Rattle.sections.specs.Kinds.{section_of_kind, kind_of, numbers_in, kind_or_refused}
use Rattle.sections.specs.Lookups.{section_of_sample, place_of, place_or_refused, sent_of_section, section_of_sent}
use Rattle.layout.specs.declared.Layout.{Layout}
use Rattle.layout.specs.Layouts.{layout_of, layout_or_refused, section_in}
use Rattle.toc.specs.Reading.{TocAnswer, Tables, tables, first_reading, second_reading, Done}
use Rattle.listing.specs.Put.{fitted, Texted}
use Rattle.listing.specs.Text.{refused_text, order_text}
use Rattle.listing.specs.Listed.{listing, listing_refusal}
use Rattle.listing_job.specs.Job.{job_text}
use Rattle.c_words.specs.Answers.{Given}
use Rattle.c_words.specs.Records.{section_number, sent_number, number_answer, touch_answer, section_answer, sent_answer, placed_answer, grid_answer, kind_answer, place_answer, section_of_numbers}
use Rattle.c_words.specs.Layouts.{layout_answer, section_by}
use Rattle.c_words.specs.Contents.{no_room, roomed_reading, Listed}
use Rattle.c_words.specs.Heading.{Buffers, HeadRead, no_record}
use Rattle.export.specs.Told.{untold, Told}
use Rattle.theorems.specs.Refusing.{Refuses, Ends, Answers, NumberEnds, TouchEnds, RectEnds, SizeEnds, GridEnds, of_frame, of_index, of_found, SectionEnds, SentEnds, KindEnds, PlaceEnds, LayoutEnds, of_index_room, of_layout, of_order, of_inverse, of_entry, of_sent, Tells, of_toc, of_toc_order, header_said, of_facts, of_header, of_filter, TextEnds, of_text, of_listing, among, rules, placed, Hands, of_bits, of_enum, of_padding, of_half, WordEnds, lent, ListLent, TocWordEnds, of_frame_room, of_layout_room, of_sent_room, of_toc_room}

pub record EveryFunction : Type 0 where
  -- the geometry of a frame; then with a group or a point
  pub measure : (f : Frame) → GridEnds of_frame (grid_of f) × Answers (grid_or_refused (grid_of f)) (grid_of f).refusal
  pub sample_width_lem : (f : Frame) (by : ℕ) → NumberEnds of_frame (sampled f f.width by)
      × Answers (number_or_refused (sampled f f.width by)) (sampled f f.width by).refusal
  pub sample_height_lem : (f : Frame) (by : ℕ) → NumberEnds of_frame (sampled f f.height by)
      × Answers (number_or_refused (sampled f f.height by)) (sampled f f.height by).refusal
  pub color_sample_width : (f : Frame) → NumberEnds of_frame (told (grid_of f) (grid_of f).width)
      × Answers (number_or_refused (told (grid_of f) (grid_of f).width)) (grid_of f).refusal
  pub color_sample_height : (f : Frame) → NumberEnds of_frame (told (grid_of f) (grid_of f).height)
      × Answers (number_or_refused (told (grid_of f) (grid_of f).height)) (grid_of f).refusal
  pub group_dim : (f : Frame) → NumberEnds of_frame (told (grid_of f) (grid_of f).side)
      × Answers (number_or_refused (told (grid_of f) (grid_of f).side)) (grid_of f).refusal
  pub lf_group_dim : (f : Frame) → NumberEnds of_frame (told (grid_of f) (grid_of f).lf_side)
      × Answers (number_or_refused (told (grid_of f) (grid_of f).lf_side)) (grid_of f).refusal
  pub groups_per_row : (f : Frame) → NumberEnds of_frame (told (grid_of f) (grid_of f).columns)
      × Answers (number_or_refused (told (grid_of f) (grid_of f).columns)) (grid_of f).refusal
  pub lf_groups_per_row : (f : Frame) → NumberEnds of_frame (told (grid_of f) (grid_of f).lf_columns)
      × Answers (number_or_refused (told (grid_of f) (grid_of f).lf_columns)) (grid_of f).refusal
  pub num_groups : (f : Frame) → NumberEnds of_frame (told (grid_of f) (grid_of f).groups)
      × Answers (number_or_refused (told (grid_of f) (grid_of f).groups)) (grid_of f).refusal
  pub num_lf_groups : (f : Frame) → NumberEnds of_frame (told (grid_of f) (grid_of f).lf_groups)
      × Answers (number_or_refused (told (grid_of f) (grid_of f).lf_groups)) (grid_of f).refusal
  pub section_count : (f : Frame) → NumberEnds of_frame (told (grid_of f) (grid_of f).sections)
      × Answers (number_or_refused (told (grid_of f) (grid_of f).sections)) (grid_of f).refusal
  pub group_rect_lem : (f : Frame) (i : ℕ) → RectEnds of_index (rect_for (grid_of f) (grid_of f).side i)
      × Answers (rect_or_refused (rect_for (grid_of f) (grid_of f).side i)) (rect_for (grid_of f) (grid_of f).side i).refusal
  pub lf_group_rect : (f : Frame) (i : ℕ) → RectEnds of_index (rect_for (grid_of f) (grid_of f).lf_side i)
      × Answers (rect_or_refused (rect_for (grid_of f) (grid_of f).lf_side i)) (rect_for (grid_of f) (grid_of f).lf_side i).refusal
  pub group_size_for : (f : Frame) (i : ℕ) → SizeEnds of_index (size_of (rect_for (grid_of f) (grid_of f).side i))
      × Answers (size_or_refused (size_of (rect_for (grid_of f) (grid_of f).side i))) (size_of (rect_for (grid_of f) (grid_of f).side i)).refusal
  pub lf_group_size_for : (f : Frame) (i : ℕ) → SizeEnds of_index (size_of (rect_for (grid_of f) (grid_of f).lf_side i))
      × Answers (size_or_refused (size_of (rect_for (grid_of f) (grid_of f).lf_side i)))
      (size_of (rect_for (grid_of f) (grid_of f).lf_side i)).refusal
  pub lf_group_idx_from_group_idx : (f : Frame) (i : ℕ) → NumberEnds of_index (lf_index_of (grid_of f) i)
      × Answers (number_or_refused (lf_index_of (grid_of f) i)) (lf_index_of (grid_of f) i).refusal
  pub group_idx_from_coord : (f : Frame) (x y : ℕ) → NumberEnds of_index (index_for (grid_of f) x y)
      × Answers (number_or_refused (index_for (grid_of f) x y)) (index_for (grid_of f) x y).refusal
  pub is_group_collides_region : (f : Frame) (i : ℕ) (region : Rect) → TouchEnds of_index (touch_for (grid_of f) (grid_of f).side i region)
      × Answers (touch_or_refused (touch_for (grid_of f) (grid_of f).side i region)) (touch_for (grid_of f) (grid_of f).side i region).refusal
  pub is_lf_group_collides_region : (f : Frame) (i : ℕ) (region : Rect) → TouchEnds of_index (touch_for (grid_of f) (grid_of f).lf_side i region)
      × Answers (touch_or_refused (touch_for (grid_of f) (grid_of f).lf_side i region)) (touch_for (grid_of f) (grid_of f).lf_side i region).refusal
  pub found : (known : Bool) → Refuses of_found 0 (pick known none (refusal 14 0))
      × Answers (pick known (Ok (tt {0})) (Err (refusal 14 0))) (pick known none (refusal 14 0))
  -- orders, sections and layouts
  pub check_order : (count : ℕ) (l : List ℕ) → Refuses of_order 0 (checked count l)
      × Answers (answered (checked count l) (tt {0})) (checked count l)
  pub invert : (count : ℕ) (order table : List ℕ) → Ends of_inverse 0 (inverted count order table) table (inverse_after count order table)
      × Answers (answered (inverted count order table) (tt {0})) (inverted count order table)
  pub sent_of_lem : (order : List ℕ) (count : ℕ) (section : SectionNumber) → SentEnds of_entry (sent_of order count section)
      × Answers (sent_or_refused (sent_of order count section)) (sent_of order count section).refusal
  pub section_of_lem : (inverse : List ℕ) (count : ℕ) (sent : SentNumber) → SectionEnds of_entry (section_of inverse count sent)
      × Answers (section_or_refused (section_of inverse count sent)) (section_of inverse count sent).refusal
  pub section_of_kind_lem : (f : Frame) (kind : TocGroupKind) → SectionEnds of_index (section_of_kind f kind)
      × Answers (section_or_refused (section_of_kind f kind)) (section_of_kind f kind).refusal
  pub kind_of_lem : (f : Frame) (section : SectionNumber) → KindEnds of_index (kind_of f section)
      × ((a : Result TocGroupKind Refusal) → numbers_in a ≡ kind_or_refused (kind_of f section) → Answers a (kind_of f section).refusal)
  pub section_of_sample_lem : (f : Frame) (x y pass : ℕ) → SectionEnds of_index (section_of_sample f x y pass)
      × Answers (section_or_refused (section_of_sample f x y pass)) (section_of_sample f x y pass).refusal
  pub section_at : (f : Frame) (offsets sizes : List ℕ) (section : SectionNumber) → PlaceEnds of_index_room (place_of f offsets sizes section)
      × Answers (place_or_refused (place_of f offsets sizes section)) (place_of f offsets sizes section).refusal
  pub sent_of_section_lem : (f : Frame) (order : List ℕ) (section : SectionNumber) → SentEnds of_sent (sent_of_section f order section)
      × Answers (sent_or_refused (sent_of_section f order section)) (sent_of_section f order section).refusal
  pub section_of_sent_lem : (f : Frame) (inverse : List ℕ) (sent : SentNumber) → SectionEnds of_sent (section_of_sent f inverse sent)
      × Answers (section_or_refused (section_of_sent f inverse sent)) (section_of_sent f inverse sent).refusal
  pub layout_of_lem : (f : Frame) → LayoutEnds of_frame (layout_of f) × Answers (layout_or_refused (layout_of f)) (layout_of f).refusal
  pub section_in_lem : (l : Layout) (x y pass : ℕ) → SectionEnds of_layout (section_in l x y pass)
      × Answers (section_or_refused (section_in l x y pass)) (section_in l x y pass).refusal
  -- the section entries
  pub read_toc : (s : List ℕ) (f : Frame) (place : ℕ) (t : Tables) (result : TocAnswer) (o z p i : List ℕ)
      → Done (first_reading s f place t) t result o z p i → Tells of_toc true (bit_count s) t (tables o z p i) result
  pub read_toc_with_order : (s : List ℕ) (f : Frame) (place : ℕ) (lent : List ℕ) (t : Tables) (result : TocAnswer) (o z p i : List ℕ)
      → Done (second_reading s f place lent t) t result o z p i → Tells of_toc_order false (bit_count s) t (tables o z p i) result
  -- the header
  pub judge_header : (n : ℕ) (f : Facts) (name upsampling blending : ℕ) → Refuses of_facts 0 (judged n f name upsampling blending)
      × Answers (answered (judged n f name upsampling blending) (tt {0})) (judged n f name upsampling blending)
  pub read_frame_header : (f : Facts) (s : List ℕ) (r : Result HeaderRead Refusal) (name name' upsampling upsampling' blending blending' : List ℕ)
      → Headed f s r name name' upsampling upsampling' blending blending'
      → ((header_told r).given ≡ eqb (header_told r).refusal.number 0)
      × Ends of_header (bit_count s) (header_told r).refusal (header_said zero_header 0 name upsampling blending)
      (header_said (header_told r).header (header_told r).end name' upsampling' blending')
  -- texts; `list_frame` with any text
  pub write_refused : (r : Refusal) (before : List ℕ) (a : Result ℕ Refusal) (after : List ℕ)
      → Texted (fitted (refused_text r) before) (refused_text r) before a after → TextEnds of_text a before after
  pub write_order_needed : (place : ℕ) (before : List ℕ) (a : Result ℕ Refusal) (after : List ℕ)
      → Texted (fitted (order_text place) before) (order_text place) before a after → TextEnds of_text a before after
  pub write_listing : (f : Frame) (offsets sizes order before : List ℕ) (a : Result ℕ Refusal) (after : List ℕ)
      → Texted (listing_refusal f offsets sizes order before) (listing f offsets sizes order) before a after → TextEnds of_listing a before after
  pub list_frame : (input before : List ℕ) (a : Result ℕ Refusal) (after : List ℕ) → Texted (fitted (job_text input) before) (job_text input) before a after
      → TextEnds of_text a before after
  -- readers
  pub read_bits_if : (s : List ℕ) (c : Cursor) (on : Bool) (n d : ℕ) → Hands of_bits s c (field s on (u n) d c).next
  pub read_bits : (s : List ℕ) (c : Cursor) (n : ℕ) → Hands of_bits s c (field s true (u n) 0 c).next
  pub read_bool_if : (s : List ℕ) (c : Cursor) (on : Bool) (d : ℕ) → Hands of_bits s c (field s on bool d c).next
  pub read_bool : (s : List ℕ) (c : Cursor) → Hands of_bits s c (field s true bool 0 c).next
  pub zero_pad_to_byte : (s : List ℕ) (c : Cursor) → Hands of_padding s c (field s true padding 0 c).next
  pub refuse_if : (l : List ℕ) → rules l ≡ true → (s : List ℕ) (c : Cursor) (bad : Bool) (number back : ℕ)
      → among l number ≡ true → among placed number ≡ true → Hands l s c (failed bad number back c)
  pub read_u32_if : (s : List ℕ) (c : Cursor) (on : Bool) (k : Choices) (d : ℕ) → Hands of_bits s c (field s on (u32 k) d c).next
  pub read_u32 : (s : List ℕ) (c : Cursor) (k : Choices) → Hands of_bits s c (field s true (u32 k) 0 c).next
  pub read_enum_if : (s : List ℕ) (c : Cursor) (on : Bool) (k : Choices) (n d : ℕ) → Hands of_enum s c (field s on (cases k n) d c).next
  pub read_u64_if : (s : List ℕ) (c : Cursor) (on : Bool) (d : ℕ) → Hands of_bits s c ((field s on u64 d c)).next
  pub read_u64 : (s : List ℕ) (c : Cursor) → Hands of_bits s c ((field s true u64 0 c)).next
  pub read_f16_if : (s : List ℕ) (c : Cursor) (on : Bool) (d : ℕ) → Hands of_half s c (field s on f16 d c).next
  pub skip_bits_if : (s : List ℕ) (c : Cursor) (on : Bool) (n : Sum) → Hands of_bits s c (field s on (skip (whole n)) 0 c).next
  pub read_extensions_if : (s : List ℕ) (c : Cursor) (on : Bool) → Hands of_bits s c (read (extensions on) s c).next
  pub read_gabor_if : (s : List ℕ) (c : Cursor) (on : Bool) → Hands of_filter s c ((read (gabor on) s c)).next
  pub read_epf_if : (s : List ℕ) (c : Cursor) (on modular : Bool) → Hands of_half s c ((read (epf on modular) s c)).next
  pub read_restoration_filter_if : (s : List ℕ) (c : Cursor) (on modular : Bool)
      → Hands of_filter s c ((read (restoration on modular) s c)).next
  -- the C functions, over the frame of the six numbers, and what they are made of; the listing with any text
  pub section_named : (f : Frame) (kind pass group : ℕ) → SectionEnds of_index (section_of_numbers f kind pass group)
      × Answers (section_or_refused (section_of_numbers f kind pass group)) (section_of_numbers f kind pass group).refusal
  pub section_by_lem : (words : List ℕ) (x y pass : ℕ) → SectionEnds of_layout_room (section_by words x y pass)
      × Answers (section_or_refused (section_by words x y pass)) (section_by words x y pass).refusal
  pub no_room_lem : (n : ℕ) (f : Frame) → Refuses of_toc_room 0 (no_room n f)
  pub no_record_lem : (n : ℕ) (f : Facts) → Refuses of_facts 0 (no_record n f)
  pub hingevale_measure : (f : Frame) (before : List ℕ) (word : ℕ) (after : List ℕ) → Given (grid_answer (grid_of f)) before word after
      → WordEnds of_frame_room 0 word before after
  pub hingevale_sample_width : (f : Frame) (before : List ℕ) (word : ℕ) (after : List ℕ) → (by : ℕ)
      → Given (number_answer (sampled f f.width by)) before word after → WordEnds of_frame_room 0 word before after
  pub hingevale_sample_height : (f : Frame) (before : List ℕ) (word : ℕ) (after : List ℕ) → (by : ℕ)
      → Given (number_answer (sampled f f.height by)) before word after → WordEnds of_frame_room 0 word before after
  pub hingevale_group_rect : (f : Frame) (before : List ℕ) (word : ℕ) (after : List ℕ) → (i : ℕ)
      → Given (placed_answer (rect_for (grid_of f) (grid_of f).side i)) before word after → WordEnds of_index_room 0 word before after
  pub hingevale_lf_group_rect : (f : Frame) (before : List ℕ) (word : ℕ) (after : List ℕ) → (i : ℕ)
      → Given (placed_answer (rect_for (grid_of f) (grid_of f).lf_side i)) before word after → WordEnds of_index_room 0 word before after
  pub hingevale_group_idx_from_coord : (f : Frame) (before : List ℕ) (word : ℕ) (after : List ℕ) → (x y : ℕ)
      → Given (number_answer (index_for (grid_of f) x y)) before word after → WordEnds of_index_room 0 word before after
  pub hingevale_lf_group_idx_from_group_idx : (f : Frame) (before : List ℕ) (word : ℕ) (after : List ℕ) → (i : ℕ)
      → Given (number_answer (lf_index_of (grid_of f) i)) before word after → WordEnds of_index_room 0 word before after
  pub hingevale_is_group_collides_region : (f : Frame) (before : List ℕ) (word : ℕ) (after : List ℕ) → (i : ℕ) (region : Rect)
      → Given (touch_answer (touch_for (grid_of f) (grid_of f).side i region)) before word after → WordEnds of_index_room 0 word before after
  pub hingevale_is_lf_group_collides_region : (f : Frame) (before : List ℕ) (word : ℕ) (after : List ℕ) → (i : ℕ) (region : Rect)
      → Given (touch_answer (touch_for (grid_of f) (grid_of f).lf_side i region)) before word after → WordEnds of_index_room 0 word before after
  pub hingevale_section_of_kind : (f : Frame) (before : List ℕ) (word : ℕ) (after : List ℕ) → (kind pass group : ℕ)
      → Given (section_answer (section_of_numbers f kind pass group)) before word after → WordEnds of_index_room 0 word before after
  pub hingevale_kind_of : (f : Frame) (before : List ℕ) (word : ℕ) (after : List ℕ) → (section : ℕ)
      → Given (kind_answer (kind_of f (section_number section))) before word after → WordEnds of_index_room 0 word before after
  pub hingevale_section_of_sample : (f : Frame) (before : List ℕ) (word : ℕ) (after : List ℕ) → (x y pass : ℕ)
      → Given (section_answer (section_of_sample f x y pass)) before word after → WordEnds of_index_room 0 word before after
  pub hingevale_layout_of : (f : Frame) (before : List ℕ) (word : ℕ) (after : List ℕ) → Given (layout_answer (layout_of f)) before word after
      → WordEnds of_frame_room 0 word before after
  pub hingevale_section_at : (f : Frame) (before : List ℕ) (word : ℕ) (after : List ℕ) → (offsets sizes : List ℕ) (section : ℕ)
      → Given (place_answer (place_of f offsets sizes (section_number section))) before word after → WordEnds of_index_room 0 word before after
  pub hingevale_sent_of_section : (f : Frame) (before : List ℕ) (word : ℕ) (after : List ℕ) → (order : List ℕ) (section : ℕ)
      → Given (sent_answer (sent_of_section f order (section_number section))) before word after → WordEnds of_sent_room 0 word before after
  pub hingevale_section_of_sent : (f : Frame) (before : List ℕ) (word : ℕ) (after : List ℕ) → (inverse : List ℕ) (sent : ℕ)
      → Given (section_answer (section_of_sent f inverse (sent_number sent))) before word after → WordEnds of_sent_room 0 word before after
  pub hingevale_section_in : (words : List ℕ) (x y pass : ℕ) (before : List ℕ) (word : ℕ) (after : List ℕ)
      → Given (section_answer (section_by words x y pass)) before word after → WordEnds of_layout_room 0 word before after
  pub hingevale_read_toc : (s : List ℕ) (f : Frame) (place : ℕ) (t : Tables) (word : ℕ) (o z p i out out' : List ℕ)
      → Listed (roomed_reading s f out (first_reading s f place t)) t word o z p i out out'
      → TocWordEnds of_toc true (bit_count s) word (lent t out) (lent (tables o z p i) out')
  pub hingevale_read_toc_with_order : (s : List ℕ) (f : Frame) (place : ℕ) (order : List ℕ) (t : Tables) (word : ℕ) (o z p i out out' : List ℕ)
      → Listed (roomed_reading s f out (second_reading s f place order t)) t word o z p i out out'
      → TocWordEnds of_toc_order false (bit_count s) word (lent t out) (lent (tables o z p i) out')
  pub hingevale_read_frame_header : (f : Facts) (s : List ℕ) (word : ℕ) (before after : Buffers) → HeadRead f s word before after
      → WordEnds of_header (bit_count s) word before after
  pub hingevale_list : (input before after out out' : List ℕ) (word : ℕ)
      → Told (untold (ltb (length out) 1) (job_text input) before) (job_text input) before after out out' word
      → WordEnds {A = ListLent} of_text 0 word (record { bytes = before; words = out }) (record { bytes = after; words = out' })
