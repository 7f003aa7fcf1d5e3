-- No list of numbers is longer than it has to be: of each number there is an input on which the function refuses with it.
use Rattle.std.specs.Prelude.{ℕ, ◌≡◌, Bool, true, List, [], ◌∷◌, length}
use Rattle.bits.specs.declared.Refusal.{Refusal}
use Rattle.bits.specs.Refusals.{pick, refusal, none, start}
use Rattle.bits.specs.Codec.{Codec, u, bool, u32, cases, u64, f16, padding, skip, val, one_of, field}
use Rattle.bits.specs.Table.{read}
use Rattle.bits.specs.Extensions.{extensions}
use Rattle.filter.specs.Gabor.{gabor}
use Rattle.filter.specs.Epf.{epf}
use Rattle.filter.specs.Filter.{restoration}
use Rattle.grid.specs.declared.Frame.{Frame}
use Rattle.grid.specs.Measured.{grid_of}
use Rattle.grid.specs.Groups.{sampled, rect_for, size_of, lf_index_of, index_for, touch_for}
use Rattle.header.specs.declared.Facts.{Facts}
use Rattle.header.specs.Entry.{judged, stands, answered}
use Rattle.order.specs.Order.{checked}
use Rattle.order.specs.Tables.{inverted}
use Rattle.order.specs.Numbers.{sent_of, section_of}
use Rattle.sections.specs.declared.TocGroupKind.TheVariants.{HfGlobal}
use Rattle.sections.specs.Kinds.{section_of_kind, kind_of}
use Rattle.sections.specs.Lookups.{section_of_sample, place_of, sent_of_section, section_of_sent}
use Rattle.layout.specs.declared.Layout.{Layout}
use Rattle.layout.specs.Layouts.{layout_of, section_in}
use Rattle.toc.specs.Reading.{Tables, tables, toc_numbers, Reading, first_reading, second_reading}
use Rattle.listing.specs.Put.{fitted}
use Rattle.listing.specs.Text.{refused_text, order_text}
use Rattle.listing.specs.Listed.{listing_refusal}
use Rattle.c_words.specs.Answers.{refusal_for}
use Rattle.c_words.specs.Records.{rect, section_number, sent_number, number_answer, touch_answer, section_answer, sent_answer, placed_answer, grid_answer, kind_answer, place_answer, section_of_numbers}
use Rattle.c_words.specs.Layouts.{layout_answer, section_by}
use Rattle.c_words.specs.Contents.{no_room, roomed_reading}
use Rattle.c_words.specs.Heading.{Buffers, no_record, judged_all}
use Rattle.theorems.specs.Refusing.{of_frame, of_index, of_found, of_frame_room, of_index_room, of_layout, of_layout_room, of_order, of_inverse, of_entry, of_sent, of_sent_room, of_toc, of_toc_order, of_toc_room, of_facts, of_header, of_text, of_listing, of_bits, of_enum, of_padding, of_half, of_filter}

-- an input for each of the numbers, where f is what the function refuses of an input
abbrev pub Comes : {I : Type 0} → (I → Refusal) → List ℕ → Type 0
Comes {I} f [] = Unit {0}
Comes {I} f (n ∷ more) = ((i : I) × ((f i).number ≡ n)) × Comes f more

-- a frame, and what is lent
abbrev Lent : Type 0
Lent = Frame × List ℕ

-- what a section entry refuses, with the same table lent four times
abbrev of : Reading → Refusal
of q = (toc_numbers q.answer).refusal

abbrev four : List ℕ → Tables
four t = tables t t t t

-- a field at the first bit
abbrev first : Codec → List ℕ → Refusal
first k s = (field s true k 0 (start 0)).next.fault

pub record EveryNumber : Type 0 where
  -- grid; a number of the grid has the grid's refusal
  pub measure : Comes (λ (f : Frame). (grid_of f).refusal) of_frame
  pub sample_width_lem : Comes (λ (f : Frame). (sampled f f.width 1).refusal) of_frame
  pub sample_height_lem : Comes (λ (f : Frame). (sampled f f.height 1).refusal) of_frame
  pub group_rect_lem : Comes (λ (f : Frame). (rect_for (grid_of f) (grid_of f).side 1).refusal) of_index
  pub lf_group_rect : Comes (λ (f : Frame). (rect_for (grid_of f) (grid_of f).lf_side 1).refusal) of_index
  pub group_size_for : Comes (λ (f : Frame). (size_of (rect_for (grid_of f) (grid_of f).side 1)).refusal) of_index
  pub lf_group_size_for : Comes (λ (f : Frame). (size_of (rect_for (grid_of f) (grid_of f).lf_side 1)).refusal) of_index
  pub lf_group_idx_from_group_idx : Comes (λ (f : Frame). (lf_index_of (grid_of f) 1).refusal) of_index
  pub group_idx_from_coord : Comes (λ (f : Frame). (index_for (grid_of f) 128 0).refusal) of_index
  pub is_group_collides_region : Comes (λ (f : Frame). (touch_for (grid_of f) (grid_of f).side 1 (rect 0 0 1 1)).refusal) of_index
  pub is_lf_group_collides_region : Comes (λ (f : Frame). (touch_for (grid_of f) (grid_of f).lf_side 1 (rect 0 0 1 1)).refusal) of_index
  pub found : Comes (λ (known : Bool). pick known none (refusal 14 0)) of_found
  -- orders: a table and a count, and the number that is looked up
  pub check_order : Comes (λ (x : List ℕ × ℕ). checked x.1 x.0) of_order
  pub invert : Comes (λ (x : List ℕ × ℕ × List ℕ). inverted x.1 x.0 x.2) of_inverse
  pub sent_of_lem : Comes (λ (x : List ℕ × ℕ). (sent_of x.0 x.1 (section_number 1)).refusal) of_entry
  pub section_of_lem : Comes (λ (x : List ℕ × ℕ). (section_of x.0 x.1 (sent_number 1)).refusal) of_entry
  -- sections and layouts
  pub section_of_kind_lem : Comes (λ (f : Frame). (section_of_kind f HfGlobal).refusal) of_index
  pub kind_of_lem : Comes (λ (f : Frame). (kind_of f (section_number 1)).refusal) of_index
  pub section_of_sample_lem : Comes (λ (f : Frame). (section_of_sample f 1 0 0).refusal) of_index
  pub section_at : Comes (λ (x : Lent). (place_of x.0 x.1 x.1 (section_number 1)).refusal) of_index_room
  pub sent_of_section_lem : Comes (λ (x : Lent). (sent_of_section x.0 x.1 (section_number 1)).refusal) of_sent
  pub section_of_sent_lem : Comes (λ (x : Lent). (section_of_sent x.0 x.1 (sent_number 1)).refusal) of_sent
  pub layout_of_lem : Comes (λ (f : Frame). (layout_of f).refusal) of_frame
  pub section_in_lem : Comes (λ (l : Layout). (section_in l 0 0 0).refusal) of_layout
  -- the section entries: bytes, a frame, a place, the same table for all four, and a lent order
  pub read_toc : Comes (λ (x : List ℕ × Frame × ℕ × List ℕ). of (first_reading x.0 x.1 x.2 (four x.3))) of_toc
  pub read_toc_with_order : Comes (λ (x : List ℕ × Frame × ℕ × List ℕ × List ℕ). of (second_reading x.0 x.1 x.2 x.4 (four x.3))) of_toc_order
  -- the header: the input's length or its bytes, the facts, and how many bytes of name are lent
  pub judge_header : Comes (λ (x : ℕ × Facts × ℕ). judged x.0 x.1 x.2 0 0) of_facts
  pub read_frame_header :
      Comes (λ (x : List ℕ × Facts × ℕ). (answered x.1 (judged (length x.0) x.1 x.2 0 0) (stands x.1 x.0)).refusal) of_header
  -- texts
  pub write_refused : Comes (λ (out : List ℕ). fitted (refused_text none) out) of_text
  pub write_order_needed : Comes (λ (out : List ℕ). fitted (order_text 0) out) of_text
  pub list_frame : Comes (λ (x : List ℕ × List ℕ). fitted x.0 x.1) of_text
  pub write_listing : Comes (λ (x : Frame × List ℕ × List ℕ × List ℕ). listing_refusal x.0 x.1 x.1 x.2 x.3) of_listing
  -- readers, from the first bit of bytes
  pub read_bits : Comes (first (u 1)) of_bits
  pub read_bool : Comes (first bool) of_bits
  pub read_u32 : Comes (first (u32 (one_of (val 0) (val 1) (val 2) (val 3)))) of_bits
  pub read_u64 : Comes (first u64) of_bits
  pub skip_bits_if : Comes (first (skip 1)) of_bits
  pub read_enum_if : Comes (first (cases (one_of (val 0) (val 1) (val 2) (val 3)) 3)) of_enum
  pub read_f16_if : Comes (first f16) of_half
  pub zero_pad_to_byte : Comes (λ (x : List ℕ × ℕ). (field x.0 true padding 0 (start x.1)).next.fault) of_padding
  pub read_extensions_if : Comes (λ (s : List ℕ). (read (extensions true) s (start 0)).next.fault) of_bits
  pub read_epf_if : Comes (λ (s : List ℕ). (read (epf true true) s (start 0)).next.fault) of_half
  pub read_gabor_if : Comes (λ (s : List ℕ). (read (gabor true) s (start 0)).next.fault) of_filter
  pub read_restoration_filter_if : Comes (λ (s : List ℕ). (read (restoration true true) s (start 0)).next.fault) of_filter
  -- the C functions: what the status word is of, with the lent words
  pub no_room_lem : Comes (λ (x : ℕ × Frame). no_room x.0 x.1) of_toc_room
  pub no_record_lem : Comes (λ (x : ℕ × Facts). no_record x.0 x.1) of_facts
  pub section_named : Comes (λ (f : Frame). (section_of_numbers f 5 0 0).refusal) of_index
  pub section_by_lem : Comes (λ (words : List ℕ). (section_by words 0 0 0).refusal) of_layout_room
  pub hingevale_list : Comes (λ (x : Bool × List ℕ × List ℕ). pick x.0 (refusal 3 0) (fitted x.1 x.2)) of_text
  pub hingevale_measure : Comes (λ (x : Lent). refusal_for (grid_answer (grid_of x.0)) x.1) of_frame_room
  pub hingevale_sample_width : Comes (λ (x : Lent). refusal_for (number_answer (sampled x.0 x.0.width 1)) x.1) of_frame_room
  pub hingevale_sample_height : Comes (λ (x : Lent). refusal_for (number_answer (sampled x.0 x.0.height 1)) x.1) of_frame_room
  pub hingevale_layout_of : Comes (λ (x : Lent). refusal_for (layout_answer (layout_of x.0)) x.1) of_frame_room
  pub hingevale_group_rect : Comes (λ (x : Lent). refusal_for (placed_answer (rect_for (grid_of x.0) (grid_of x.0).side 1)) x.1) of_index_room
  pub hingevale_lf_group_rect :
      Comes (λ (x : Lent). refusal_for (placed_answer (rect_for (grid_of x.0) (grid_of x.0).lf_side 1)) x.1) of_index_room
  pub hingevale_group_idx_from_coord : Comes (λ (x : Lent). refusal_for (number_answer (index_for (grid_of x.0) 128 0)) x.1) of_index_room
  pub hingevale_lf_group_idx_from_group_idx : Comes (λ (x : Lent). refusal_for (number_answer (lf_index_of (grid_of x.0) 1)) x.1) of_index_room
  pub hingevale_is_group_collides_region :
      Comes (λ (x : Lent). refusal_for (touch_answer (touch_for (grid_of x.0) (grid_of x.0).side 1 (rect 0 0 1 1))) x.1) of_index_room
  pub hingevale_is_lf_group_collides_region :
      Comes (λ (x : Lent). refusal_for (touch_answer (touch_for (grid_of x.0) (grid_of x.0).lf_side 1 (rect 0 0 1 1))) x.1) of_index_room
  pub hingevale_section_of_kind : Comes (λ (x : Lent). refusal_for (section_answer (section_of_numbers x.0 5 0 0)) x.1) of_index_room
  pub hingevale_kind_of : Comes (λ (x : Lent). refusal_for (kind_answer (kind_of x.0 (section_number 1))) x.1) of_index_room
  pub hingevale_section_of_sample : Comes (λ (x : Lent). refusal_for (section_answer (section_of_sample x.0 1 0 0)) x.1) of_index_room
  pub hingevale_section_at : Comes (λ (x : Lent). refusal_for (place_answer (place_of x.0 (0 ∷ []) (0 ∷ []) (section_number 1))) x.1) of_index_room
  pub hingevale_sent_of_section :
      Comes (λ (x : Frame × List ℕ × List ℕ). refusal_for (sent_answer (sent_of_section x.0 x.1 (section_number 1))) x.2) of_sent_room
  pub hingevale_section_of_sent :
      Comes (λ (x : Frame × List ℕ × List ℕ). refusal_for (section_answer (section_of_sent x.0 x.1 (sent_number 1))) x.2) of_sent_room
  pub hingevale_section_in : Comes (λ (x : List ℕ × List ℕ). refusal_for (section_answer (section_by x.0 0 0 0)) x.1) of_layout_room
  pub hingevale_read_toc :
      Comes (λ (x : List ℕ × Frame × ℕ × List ℕ). of (roomed_reading x.0 x.1 x.3 (first_reading x.0 x.1 x.2 (four x.3)))) of_toc
  pub hingevale_read_toc_with_order :
      Comes (λ (x : List ℕ × Frame × ℕ × List ℕ × List ℕ).
      of (roomed_reading x.0 x.1 x.3 (second_reading x.0 x.1 x.2 x.4 (four x.3)))) of_toc_order
  pub hingevale_read_frame_header :
      Comes (λ (x : List ℕ × Facts × Buffers). (answered x.1 (judged_all x.0 x.1 x.2) (stands x.1 x.0)).refusal) of_header
