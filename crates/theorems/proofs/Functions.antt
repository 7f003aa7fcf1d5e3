-- Demand 1, whole: the laws of all functions together.
use Rattle.theorems.specs.Functions.{EveryFunction}
use Rattle.grid.specs.Measured.{grid_of}
use Rattle.grid.specs.Groups.{sampled, told, rect_for, size_of, lf_index_of, index_for, touch_for}
use Rattle.header.specs.Entry.{judged}
use Rattle.order.specs.Order.{checked}
use Rattle.order.specs.Tables.{inverted}
use Rattle.order.specs.Numbers.{sent_of, section_of}
use Rattle.sections.specs.Kinds.{section_of_kind}
use Rattle.sections.specs.Lookups.{section_of_sample, place_of, sent_of_section, section_of_sent}
use Rattle.layout.specs.Layouts.{layout_of, section_in}
use Rattle.c_words.specs.Records.{section_of_numbers}
use Rattle.c_words.specs.Layouts.{section_by}
use Rattle.theorems.proofs.Refusing.{answers_lem}
use Rattle.theorems.proofs.Answers.{grid_answers, number_answers, touch_answers, rect_answers, size_answers, sent_answers, section_answers, place_answers, layout_answers, kind_answers}
use Rattle.theorems.proofs.GridEnds as GridEnds
use Rattle.theorems.proofs.SectionEnds as SectionEnds
use Rattle.theorems.proofs.TocEnds as TocEnds
use Rattle.theorems.proofs.HeaderEnds as HeaderEnds
use Rattle.theorems.proofs.ListingEnds as ListingEnds
use Rattle.theorems.proofs.ReaderEnds as ReaderEnds
use Rattle.theorems.proofs.WordEnds as WordEnds

pub every_function : EveryFunction
every_function = record {
  measure = λ f. (GridEnds.measure f, grid_answers (grid_of f));
  sample_width_lem = λ f by. (GridEnds.sample_width_lem f by, number_answers (sampled f f.width by));
  sample_height_lem = λ f by. (GridEnds.sample_height_lem f by, number_answers (sampled f f.height by));
  color_sample_width = λ f. (GridEnds.color_sample_width f, number_answers (told (grid_of f) (grid_of f).width));
  color_sample_height = λ f. (GridEnds.color_sample_height f, number_answers (told (grid_of f) (grid_of f).height));
  group_dim = λ f. (GridEnds.group_dim f, number_answers (told (grid_of f) (grid_of f).side));
  lf_group_dim = λ f. (GridEnds.lf_group_dim f, number_answers (told (grid_of f) (grid_of f).lf_side));
  groups_per_row = λ f. (GridEnds.groups_per_row f, number_answers (told (grid_of f) (grid_of f).columns));
  lf_groups_per_row = λ f. (GridEnds.lf_groups_per_row f, number_answers (told (grid_of f) (grid_of f).lf_columns));
  num_groups = λ f. (GridEnds.num_groups f, number_answers (told (grid_of f) (grid_of f).groups));
  num_lf_groups = λ f. (GridEnds.num_lf_groups f, number_answers (told (grid_of f) (grid_of f).lf_groups));
  section_count = λ f. (GridEnds.section_count f, number_answers (told (grid_of f) (grid_of f).sections));
  group_rect_lem = λ f i. (GridEnds.group_rect_lem f i, rect_answers (rect_for (grid_of f) (grid_of f).side i));
  lf_group_rect = λ f i. (GridEnds.lf_group_rect f i, rect_answers (rect_for (grid_of f) (grid_of f).lf_side i));
  group_size_for = λ f i. (GridEnds.group_size_for f i, size_answers (size_of (rect_for (grid_of f) (grid_of f).side i)));
  lf_group_size_for = λ f i. (GridEnds.lf_group_size_for f i, size_answers (size_of (rect_for (grid_of f) (grid_of f).lf_side i)));
  lf_group_idx_from_group_idx = λ f i. (GridEnds.lf_group_idx_from_group_idx f i, number_answers (lf_index_of (grid_of f) i));
  group_idx_from_coord = λ f x y. (GridEnds.group_idx_from_coord f x y, number_answers (index_for (grid_of f) x y));
  is_group_collides_region = λ f i region.
      (GridEnds.is_group_collides_region f i region, touch_answers (touch_for (grid_of f) (grid_of f).side i region));
  is_lf_group_collides_region = λ f i region.
      (GridEnds.is_lf_group_collides_region f i region, touch_answers (touch_for (grid_of f) (grid_of f).lf_side i region));
  found = GridEnds.found;
  check_order = λ count l. (SectionEnds.check_order count l, answers_lem (checked count l) tt);
  invert = λ count order table. (SectionEnds.invert count order table, answers_lem (inverted count order table) tt);
  sent_of_lem = λ order count section. (SectionEnds.sent_of_lem order count section, sent_answers (sent_of order count section));
  section_of_lem = λ inverse count sent. (SectionEnds.section_of_lem inverse count sent, section_answers (section_of inverse count sent));
  section_of_kind_lem = λ f kind. (SectionEnds.section_of_kind_lem f kind, section_answers (section_of_kind f kind));
  kind_of_lem = λ f section. (SectionEnds.kind_of_lem f section, kind_answers f section);
  section_of_sample_lem = λ f x y pass. (SectionEnds.section_of_sample_lem f x y pass, section_answers (section_of_sample f x y pass));
  section_at = λ f offsets sizes section. (SectionEnds.section_at f offsets sizes section, place_answers (place_of f offsets sizes section));
  sent_of_section_lem = λ f order section. (SectionEnds.sent_of_section_lem f order section, sent_answers (sent_of_section f order section));
  section_of_sent_lem = λ f inverse sent. (SectionEnds.section_of_sent_lem f inverse sent, section_answers (section_of_sent f inverse sent));
  layout_of_lem = λ f. (SectionEnds.layout_of_lem f, layout_answers (layout_of f));
  section_in_lem = λ l x y pass. (SectionEnds.section_in_lem l x y pass, section_answers (section_in l x y pass));
  read_toc = TocEnds.read_toc;
  read_toc_with_order = TocEnds.read_toc_with_order;
  judge_header = λ n f name upsampling blending.
      (HeaderEnds.judge_header n f name upsampling blending, answers_lem (judged n f name upsampling blending) tt);
  read_frame_header = HeaderEnds.read_frame_header;
  write_refused = ListingEnds.write_refused;
  write_order_needed = ListingEnds.write_order_needed;
  write_listing = ListingEnds.write_listing;
  list_frame = ListingEnds.list_frame;
  read_bits_if = ReaderEnds.read_bits_if;
  read_bits = ReaderEnds.read_bits;
  read_bool_if = ReaderEnds.read_bool_if;
  read_bool = ReaderEnds.read_bool;
  zero_pad_to_byte = ReaderEnds.zero_pad_to_byte;
  refuse_if = ReaderEnds.refuse_if;
  read_u32_if = ReaderEnds.read_u32_if;
  read_u32 = ReaderEnds.read_u32;
  read_enum_if = ReaderEnds.read_enum_if;
  read_u64_if = ReaderEnds.read_u64_if;
  read_u64 = ReaderEnds.read_u64;
  read_f16_if = ReaderEnds.read_f16_if;
  skip_bits_if = ReaderEnds.skip_bits_if;
  read_extensions_if = ReaderEnds.read_extensions_if;
  read_gabor_if = ReaderEnds.read_gabor_if;
  read_epf_if = ReaderEnds.read_epf_if;
  read_restoration_filter_if = ReaderEnds.read_restoration_filter_if;
  section_named = λ f kind pass group. (WordEnds.section_named f kind pass group, section_answers (section_of_numbers f kind pass group));
  section_by_lem = λ words x y pass. (WordEnds.section_by_lem words x y pass, section_answers (section_by words x y pass));
  no_room_lem = WordEnds.no_room_lem;
  no_record_lem = WordEnds.no_record_lem;
  hingevale_measure = WordEnds.hingevale_measure;
  hingevale_sample_width = WordEnds.hingevale_sample_width;
  hingevale_sample_height = WordEnds.hingevale_sample_height;
  hingevale_group_rect = WordEnds.hingevale_group_rect;
  hingevale_lf_group_rect = WordEnds.hingevale_lf_group_rect;
  hingevale_group_idx_from_coord = WordEnds.hingevale_group_idx_from_coord;
  hingevale_lf_group_idx_from_group_idx = WordEnds.hingevale_lf_group_idx_from_group_idx;
  hingevale_is_group_collides_region = WordEnds.hingevale_is_group_collides_region;
  hingevale_is_lf_group_collides_region = WordEnds.hingevale_is_lf_group_collides_region;
  hingevale_section_of_kind = WordEnds.hingevale_section_of_kind;
  hingevale_kind_of = WordEnds.hingevale_kind_of;
  hingevale_section_of_sample = WordEnds.hingevale_section_of_sample;
  hingevale_layout_of = WordEnds.hingevale_layout_of;
  hingevale_section_at = WordEnds.hingevale_section_at;
  hingevale_sent_of_section = WordEnds.hingevale_sent_of_section;
  hingevale_section_of_sent = WordEnds.hingevale_section_of_sent;
  hingevale_section_in = WordEnds.hingevale_section_in;
  hingevale_read_toc = WordEnds.hingevale_read_toc;
  hingevale_read_toc_with_order = WordEnds.hingevale_read_toc_with_order;
  hingevale_read_frame_header = WordEnds.hingevale_read_frame_header;
  hingevale_list = WordEnds.hingevale_list;
}
