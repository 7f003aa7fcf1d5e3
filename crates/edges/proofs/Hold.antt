-- Every example of the table holds of the definitions: the checker computes it.
use mathlib.Core.Path.{refl}
use lib.Ieee.{of_int, div, of_bits, round}
use Rattle.edges.specs.Cases.{Edges}
use Rattle.bits.specs.Table.{read, bind, within, times, failed}
use Rattle.bits.specs.Codec.{field, more}
use Rattle.bits.specs.Steps.{run, cut}
use Rattle.bits.specs.Bits.{bits_at}
use Rattle.bits.specs.Half.{half}
use Rattle.bits.specs.Extensions.{extensions, lengths}
use Rattle.filter.specs.Filter.{restoration, filter_default}
use Rattle.filter.specs.Gabor.{gabor, channel, gabor_of, gabor_default}
use Rattle.filter.specs.Epf.{epf, sharp, scale, sigma, sharp_default, scale_default, sigma_default, epf_default}
use Rattle.filter.specs.Values.{float, floats, decimal as float-decimal, quotient}
use Rattle.filter.specs.Weights.{unbalanced}
use Rattle.grid.specs.Sizes.{sections_of, up, sample}
use Rattle.grid.specs.Measured.{grid_of, good_record, laid, refused_grid}
use Rattle.grid.specs.Groups.{rect_for, cell_of, clipped, has, judge, placed}
use Rattle.header.specs.Header.{header, front, back}
use Rattle.header.specs.Opening.{opening}
use Rattle.header.specs.Shape.{passes, scales, placement}
use Rattle.header.specs.Arrays.{element}
use Rattle.header.specs.Blending.{covers_side, covers_image, source_decider, has_source, blending}
use Rattle.header.specs.Closing.{closing}
use Rattle.header.specs.Record.{header_of}
use Rattle.header.specs.Entry.{judged, refused_header, answered}
use Rattle.order.specs.Order.{is_order, checked, all_below, distinct, has as occurs}
use Rattle.order.specs.Sums.{sum_to}
use Rattle.order.specs.Tables.{tabulate, index_of, inverse_of, identity, filled}
use Rattle.sections.specs.Kinds.{has_kind, section_number, kind_at, section_answer, section_of_kind, kind_of}
use Rattle.sections.specs.Lookups.{place_refusal, place_by, place_of}
use Rattle.toc.specs.Sizes.{toc_rows, size_rows, sent_before, offsets_by, sizes_by}
use Rattle.toc.specs.Reading.{room_for, judged_by, judged_order, toc_of, sized_answer, first_read, second_read, refused_read, first_reading, second_reading, tables_of, written}
use Rattle.decimal.specs.Decimal.{spelled, decimal, digits_alone, leads, value_from, parsed, judged as decimal-judged}
use Rattle.decimal.specs.UpTo.{up_to, behind, numbered}
use Rattle.listing.specs.Text.{column, columns_of, heading, kind_name, row_text, rows_from, total_text}
use Rattle.listing.specs.Listed.{rect_by, kind_in, row_at, listing_text}
use Rattle.listing_job.specs.Line.{limits, facts_from, stop_before, line_read}
use Rattle.listing_job.specs.Job.{read_text, reading_text, header_text, job_text}

pub every_edge : Edges
unfolding read bind within times failed field more run cut bits_at extensions lengths restoration filter_default gabor channel gabor_of gabor_default epf sharp scale sigma sharp_default scale_default sigma_default epf_default float floats unbalanced grid_of good_record laid refused_grid rect_for cell_of clipped has judge placed header front back opening passes scales placement element covers_side covers_image source_decider has_source blending closing header_of judged refused_header answered is_order checked tabulate index_of inverse_of identity filled has_kind section_number kind_at section_answer section_of_kind kind_of place_refusal place_by place_of toc_rows size_rows sent_before offsets_by sizes_by room_for judged_by judged_order toc_of sized_answer first_read second_read refused_read first_reading second_reading tables_of written sections_of up sample all_below distinct occurs sum_to half of_int div of_bits round float-decimal quotient spelled decimal digits_alone leads value_from parsed decimal-judged up_to behind numbered column columns_of heading kind_name row_text rows_from total_text rect_by kind_in row_at listing_text limits facts_from stop_before line_read read_text reading_text header_text job_text
every_edge = record {
  P1 = refl;
  P2 = refl;
  P3 = (refl, refl, refl, refl, refl, refl, refl);
  P4 = refl;
  P5 = (refl, refl, refl, refl, refl, refl);
  P6 = (refl, refl);
  P7 = (refl, refl);
  P8 = (refl, refl);
  P9 = (refl, refl, refl, refl);
  P10 = refl;
  P11 = refl;
  P12 = (refl, refl);
}
