-- Every number of a list is given: an input for each, which the checker computes. An input that is too long is told by its length alone.
use Prim.Native.Nat.{ℕ}
use mathlib.Core.Path.{◌≡◌, refl, ap}
use mathlib.Core.Bool.{true, false}
use mathlib.Core.List.{List, [], ◌∷◌}
use lib.Dec.{ltb}
use lib.Ieee.{nan}
use lib.IntN.{pos}
use lib.ListN.{length, replicate, length-replicate}
use Rattle.bits.specs.Table.{read, bind, within, times, failed}
use Rattle.bits.specs.Codec.{field, more}
use Rattle.bits.specs.Steps.{run, cut}
use Rattle.bits.specs.Bits.{bits_at}
use Rattle.bits.specs.Extensions.{extensions, lengths}
use Rattle.filter.specs.Filter.{restoration}
use Rattle.filter.specs.Gabor.{gabor, channel}
use Rattle.filter.specs.Epf.{epf, sharp, scale, sigma}
use Rattle.filter.specs.Values.{float, floats}
use Rattle.filter.specs.Weights.{unbalanced}
use Rattle.grid.specs.declared.Frame.{Frame}
use Rattle.grid.specs.Sizes.{sections_of, up, sample}
use Rattle.grid.specs.Measured.{grid_of, good_record, laid, refused_grid}
use Rattle.grid.specs.Groups.{has, judge, numbered, touching, placed, sampled, rect_for, size_of, lf_index_of, index_for, touch_for}
use Rattle.header.specs.declared.Facts.{Facts}
use Rattle.header.specs.Header.{header, front, back}
use Rattle.header.specs.Opening.{opening}
use Rattle.header.specs.Shape.{passes, scales, placement}
use Rattle.header.specs.Arrays.{element}
use Rattle.header.specs.Blending.{covers_side, covers_image, source_decider, has_source, blending}
use Rattle.header.specs.Closing.{closing}
use Rattle.header.specs.Entry.{judged, stands, refused_header, answered}
use Rattle.order.specs.Order.{is_order, checked, all_below, distinct, has as occurs}
use Rattle.order.specs.Tables.{inverted}
use Rattle.order.specs.Sums.{sum_to}
use Rattle.order.specs.Numbers.{looked_up, entry_at, sent_of, section_of}
use Rattle.sections.specs.Kinds.{has_kind, kind_at, section_answer, section_of_kind, kind_of}
use Rattle.sections.specs.Lookups.{has_sample, section_of_sample, place_refusal, place_by, place_of, sent_of_section, section_of_sent}
use Rattle.layout.specs.Layouts.{nowhere, layout_of, has_in, section_in}
use Rattle.toc.specs.Sizes.{toc_rows, size_rows}
use Rattle.toc.specs.Reading.{tables, toc_numbers, room_for, judged_by, judged_order, toc_of, sized_answer, first_read, second_read, refused_read, first_reading, second_reading}
use Rattle.decimal.specs.Decimal.{spelled, decimal}
use Rattle.listing.specs.Text.{column, columns_of, heading, kind_name, row_text, rows_from, total_text, refused_text, order_text}
use Rattle.listing.specs.Listed.{rect_by, kind_in, row_at, listing_text, listing_refusal}
use Rattle.c_words.specs.Records.{frame, section_of_numbers}
use Rattle.c_words.specs.Layouts.{section_by}
use Rattle.c_words.specs.Contents.{no_room, roomed_reading}
use Rattle.c_words.specs.Heading.{Buffers, buffers, no_record, judged_all}
use Rattle.theorems.specs.Comes.{EveryNumber}

-- frames: upsampling 3, no width, 65,537 sections, one sample
abbrev bad : Frame
bad = frame 1 1 3 0 0 1

abbrev empty : Frame
empty = frame 0 1 1 0 0 1

abbrev wide : Frame
wide = frame 7456257 128 1 0 0 1

abbrev one : Frame
one = frame 1 1 1 0 0 1

-- facts: no width, and one sample
abbrev bad_facts : Facts
bad_facts = record { width = 0; height = 1; xyb = false; grey = false; extra = 0; animation = false; timecodes = false }

abbrev facts : Facts
facts = record { width = 1; height = 1; xyb = false; grey = false; extra = 0; animation = false; timecodes = false }

-- tables and words
abbrev three : List ℕ
three = 0 ∷ 0 ∷ 0 ∷ []

abbrev eight : List ℕ
eight = 0 ∷ 0 ∷ 0 ∷ 0 ∷ 0 ∷ 0 ∷ 0 ∷ 0 ∷ []

abbrev room : List ℕ
room = replicate 200 0

-- headers whose blend mode is 5, whose first weight has exponent 31, and whose first two weights come to -1/4
abbrev mode5 : List ℕ
mode5 = 0 ∷ 176 ∷ []

abbrev weight31 : List ℕ
weight31 = 0 ∷ 64 ∷ 12 ∷ 192 ∷ 7 ∷ []

abbrev quarter : List ℕ
quarter = 0 ∷ 64 ∷ 12 ∷ 64 ∷ 11 ∷ 0 ∷ 0 ∷ []

-- over 16,777,216 bytes
unfoldable zeros : ℕ → List ℕ
zeros n = replicate n 0

zeros_length : (n : ℕ) → length (zeros n) ≡ n
unfolding zeros
zeros_length n = length-replicate {A = ℕ} n 0

abbrev long : List ℕ
long = zeros 16777217

too_long : ltb 16777216 (length long) ≡ true
too_long = ap (λ n. ltb 16777216 n) (zeros_length 16777217)

first_long : (s t : List ℕ) → ltb 16777216 (length s) ≡ true → (toc_numbers (first_reading s one 0 (tables t t t t)).answer).refusal.number ≡ 2
unfolding first_reading judged_by refused_read
first_long s t h = rw h

second_long : (s t : List ℕ) → ltb 16777216 (length s) ≡ true → (toc_numbers (second_reading s one 0 [] (tables t t t t)).answer).refusal.number ≡ 2
unfolding second_reading judged_order judged_by refused_read
second_long s t h = rw h

header_long : (s : List ℕ) → ltb 16777216 (length s) ≡ true → (answered facts (judged (length s) facts 1071 0 0) (stands facts s)).refusal.number ≡ 2
unfolding answered judged refused_header
header_long s h = rw h

-- room for a header's words
abbrev lent : Buffers
lent = buffers (replicate 1071 0) [] [] (replicate 51 0) (replicate 2 (pos 0)) (replicate 22 nan)

head_long : (s : List ℕ) → ltb 16777216 (length s) ≡ true → (answered facts (judged_all s facts lent) (stands facts s)).refusal.number ≡ 2
unfolding answered judged_all judged refused_header
head_long s h = rw h

pub every_number : EveryNumber
unfolding read bind within times failed field more run cut bits_at extensions lengths restoration gabor channel epf sharp scale sigma float floats unbalanced grid_of good_record laid refused_grid sections_of up sample has judge numbered touching placed sampled rect_for size_of lf_index_of index_for touch_for header front back opening passes scales placement element covers_side covers_image source_decider has_source blending closing judged refused_header answered is_order checked all_below distinct occurs inverted looked_up entry_at sent_of section_of has_kind kind_at sum_to section_answer section_of_kind kind_of has_sample section_of_sample place_refusal place_by place_of sent_of_section section_of_sent layout_of has_in section_in toc_rows size_rows room_for judged_by judged_order toc_of sized_answer first_read second_read refused_read first_reading second_reading spelled decimal column columns_of heading kind_name row_text rows_from total_text refused_text order_text rect_by kind_in row_at listing_text listing_refusal section_of_numbers section_by no_room roomed_reading no_record judged_all
every_number = record {
  measure = ((bad, refl), ((empty, refl), ((wide, refl), tt)));
  sample_width_lem = ((bad, refl), ((empty, refl), ((wide, refl), tt)));
  sample_height_lem = ((bad, refl), ((empty, refl), ((wide, refl), tt)));
  group_rect_lem = ((bad, refl), ((empty, refl), ((wide, refl), ((one, refl), tt))));
  lf_group_rect = ((bad, refl), ((empty, refl), ((wide, refl), ((one, refl), tt))));
  group_size_for = ((bad, refl), ((empty, refl), ((wide, refl), ((one, refl), tt))));
  lf_group_size_for = ((bad, refl), ((empty, refl), ((wide, refl), ((one, refl), tt))));
  lf_group_idx_from_group_idx = ((bad, refl), ((empty, refl), ((wide, refl), ((one, refl), tt))));
  group_idx_from_coord = ((bad, refl), ((empty, refl), ((wide, refl), ((one, refl), tt))));
  is_group_collides_region = ((bad, refl), ((empty, refl), ((wide, refl), ((one, refl), tt))));
  is_lf_group_collides_region = ((bad, refl), ((empty, refl), ((wide, refl), ((one, refl), tt))));
  found = ((false, refl), tt);
  check_order = ((([], 65537), refl), ((([], 1), refl), tt));
  invert = ((([], 65537, []), refl), ((([], 1, []), refl), ((([], 1, three), refl), tt)));
  sent_of_lem = ((([], 65537), refl), ((([], 1), refl), (((0 ∷ [], 1), refl), tt)));
  section_of_lem = ((([], 65537), refl), ((([], 1), refl), (((0 ∷ [], 1), refl), tt)));
  section_of_kind_lem = ((bad, refl), ((empty, refl), ((wide, refl), ((one, refl), tt))));
  kind_of_lem = ((bad, refl), ((empty, refl), ((wide, refl), ((one, refl), tt))));
  section_of_sample_lem = ((bad, refl), ((empty, refl), ((wide, refl), ((one, refl), tt))));
  section_at = (((bad, []), refl), (((empty, []), refl), (((wide, []), refl), (((one, []), refl), (((one, three), refl), tt)))));
  sent_of_section_lem = (((bad, []), refl), (((empty, []), refl), (((wide, []), refl), (((one, []), refl), (((one, 0 ∷ []), refl), tt)))));
  section_of_sent_lem = (((bad, []), refl), (((empty, []), refl), (((wide, []), refl), (((one, []), refl), (((one, 0 ∷ []), refl), tt)))));
  layout_of_lem = ((bad, refl), ((empty, refl), ((wide, refl), tt)));
  section_in_lem = ((nowhere, refl), tt);
  read_toc = (
    ((long, one, 0, []), first_long long [] too_long),
    (
      (([], bad, 0, []), refl),
      (
        (([], empty, 0, []), refl),
        (
          (([], wide, 0, []), refl),
          (
            (([], one, 0, []), refl),
            ((([], one, 1, three), refl), ((([], one, 0, three), refl), (((2 ∷ [], one, 0, three), refl), tt))),
          ),
        ),
      ),
    ),
  );
  read_toc_with_order = (
    ((long, one, 0, [], []), second_long long [] too_long),
    (
      (([], bad, 0, [], []), refl),
      (
        (([], empty, 0, [], []), refl),
        (
          (([], wide, 0, [], []), refl),
          (
            (([], one, 0, [], []), refl),
            (
              (([], one, 1, three, []), refl),
              ((([], one, 0, three, []), refl), ((([], one, 0, three, 0 ∷ []), refl), (((2 ∷ [], one, 1, three, 0 ∷ []), refl), tt))),
            ),
          ),
        ),
      ),
    ),
  );
  judge_header = (((16777217, facts, 1071), refl), (((0, bad_facts, 1071), refl), (((0, facts, 0), refl), tt)));
  read_frame_header = (
    ((long, facts, 1071), header_long long too_long),
    (
      (([], bad_facts, 1071), refl),
      (
        (([], facts, 0), refl),
        (
          (([], facts, 1071), refl),
          (
            ((mode5, facts, 1071), refl),
            (((weight31, facts, 1071), refl), (((quarter, facts, 1071), refl), tt)),
          ),
        ),
      ),
    ),
  );
  write_refused = (([], refl), tt);
  write_order_needed = (([], refl), tt);
  list_frame = (((three, []), refl), tt);
  write_listing =
      (((bad, [], [], []), refl), (((empty, [], [], []), refl), (((wide, [], [], []), refl), (((one, [], [], []), refl), (((one, three, [], room), refl), tt)))));
  read_bits = (([], refl), tt);
  read_bool = (([], refl), tt);
  read_u32 = (([], refl), tt);
  read_u64 = (([], refl), tt);
  skip_bits_if = (([], refl), tt);
  read_enum_if = (([], refl), ((3 ∷ [], refl), tt));
  read_f16_if = (([], refl), ((0 ∷ 124 ∷ [], refl), tt));
  zero_pad_to_byte = ((([], 1), refl), (((2 ∷ [], 1), refl), tt));
  read_extensions_if = (([], refl), tt);
  read_epf_if = (([], refl), ((5 ∷ 224 ∷ 3 ∷ [], refl), tt));
  read_gabor_if = (([], refl), ((3 ∷ 240 ∷ 1 ∷ [], refl), ((3 ∷ 208 ∷ 2 ∷ 0 ∷ 0 ∷ [], refl), tt)));
  read_restoration_filter_if = (([], refl), ((6 ∷ 224 ∷ 3 ∷ [], refl), ((6 ∷ 160 ∷ 5 ∷ 0 ∷ 0 ∷ [], refl), tt)));
  no_room_lem = (((16777217, one), refl), (((0, bad), refl), (((0, empty), refl), (((0, wide), refl), (((0, one), refl), tt)))));
  no_record_lem = (((16777217, facts), refl), (((0, bad_facts), refl), (((0, facts), refl), tt)));
  section_named = ((bad, refl), ((empty, refl), ((wide, refl), ((one, refl), tt))));
  section_by_lem = (([], refl), ((eight, refl), tt));
  hingevale_list = (((true, [], []), refl), tt);
  hingevale_measure = (((bad, []), refl), (((empty, []), refl), (((wide, []), refl), (((one, []), refl), tt))));
  hingevale_sample_width = (((bad, []), refl), (((empty, []), refl), (((wide, []), refl), (((one, []), refl), tt))));
  hingevale_sample_height = (((bad, []), refl), (((empty, []), refl), (((wide, []), refl), (((one, []), refl), tt))));
  hingevale_layout_of = (((bad, []), refl), (((empty, []), refl), (((wide, []), refl), (((one, []), refl), tt))));
  hingevale_group_rect = (((bad, []), refl), (((empty, []), refl), (((wide, []), refl), (((one, []), refl), (((one, eight), refl), tt)))));
  hingevale_lf_group_rect = (((bad, []), refl), (((empty, []), refl), (((wide, []), refl), (((one, []), refl), (((one, eight), refl), tt)))));
  hingevale_group_idx_from_coord = (((bad, []), refl), (((empty, []), refl), (((wide, []), refl), (((one, []), refl), (((one, eight), refl), tt)))));
  hingevale_lf_group_idx_from_group_idx =
      (((bad, []), refl), (((empty, []), refl), (((wide, []), refl), (((one, []), refl), (((one, eight), refl), tt)))));
  hingevale_is_group_collides_region =
      (((bad, []), refl), (((empty, []), refl), (((wide, []), refl), (((one, []), refl), (((one, eight), refl), tt)))));
  hingevale_is_lf_group_collides_region =
      (((bad, []), refl), (((empty, []), refl), (((wide, []), refl), (((one, []), refl), (((one, eight), refl), tt)))));
  hingevale_section_of_kind = (((bad, []), refl), (((empty, []), refl), (((wide, []), refl), (((one, []), refl), (((one, eight), refl), tt)))));
  hingevale_kind_of = (((bad, []), refl), (((empty, []), refl), (((wide, []), refl), (((one, []), refl), (((one, eight), refl), tt)))));
  hingevale_section_of_sample = (((bad, []), refl), (((empty, []), refl), (((wide, []), refl), (((one, []), refl), (((one, eight), refl), tt)))));
  hingevale_section_at = (((bad, []), refl), (((empty, []), refl), (((wide, []), refl), (((one, []), refl), (((one, eight), refl), tt)))));
  hingevale_sent_of_section = (
    ((bad, [], []), refl),
    (((empty, [], []), refl), (((wide, [], []), refl), (((one, [], []), refl), (((one, [], eight), refl), (((one, 0 ∷ [], eight), refl), tt))))),
  );
  hingevale_section_of_sent = (
    ((bad, [], []), refl),
    (((empty, [], []), refl), (((wide, [], []), refl), (((one, [], []), refl), (((one, [], eight), refl), (((one, 0 ∷ [], eight), refl), tt))))),
  );
  hingevale_section_in = ((([], []), refl), (((eight, eight), refl), tt));
  hingevale_read_toc = (
    ((long, one, 0, three), first_long long three too_long),
    (
      (([], bad, 0, []), refl),
      (
        (([], empty, 0, []), refl),
        (
          (([], wide, 0, []), refl),
          (
            (([], one, 0, []), refl),
            ((([], one, 1, three), refl), ((([], one, 0, three), refl), (((2 ∷ [], one, 0, three), refl), tt))),
          ),
        ),
      ),
    ),
  );
  hingevale_read_toc_with_order = (
    ((long, one, 0, three, []), second_long long three too_long),
    (
      (([], bad, 0, [], []), refl),
      (
        (([], empty, 0, [], []), refl),
        (
          (([], wide, 0, [], []), refl),
          (
            (([], one, 0, [], []), refl),
            (
              (([], one, 1, three, []), refl),
              ((([], one, 0, three, []), refl), ((([], one, 0, three, 0 ∷ []), refl), (((2 ∷ [], one, 1, three, 0 ∷ []), refl), tt))),
            ),
          ),
        ),
      ),
    ),
  );
  hingevale_read_frame_header = (
    ((long, facts, lent), head_long long too_long),
    (
      (([], bad_facts, lent), refl),
      (
        (([], facts, buffers [] [] [] [] [] []), refl),
        (
          (([], facts, lent), refl),
          (
            ((mode5, facts, lent), refl),
            (((weight31, facts, lent), refl), (((quarter, facts, lent), refl), tt)),
          ),
        ),
      ),
    ),
  );
}
