-- The theorem's conditions can be met: by the frame of P4, whose header is one bit and whose table has five sections, and by P5, where an order is
-- lent. The header and the answers are computed; what follows is the theorem's.
use Prim.Native.Nat.{ℕ}
use native.Mathlib.Omega.{arith}
use mathlib.Core.Path.{◌≡◌, refl, sym, ap}
use mathlib.Core.List.{List, [], ◌∷◌}
use lib.ListN.{length, get_or, take, replicate}
use Rattle.bits.specs.declared.Read.{Read}
use Rattle.std.specs.Prelude.{Result, Ok}
use Rattle.bits.specs.declared.Refusal.{Refusal}
use Rattle.bits.specs.Table.{read, bind, within, times, failed}
use Rattle.bits.specs.Codec.{field, more}
use Rattle.bits.specs.Steps.{run, cut}
use Rattle.bits.specs.Bits.{bits_at}
use Rattle.bits.specs.Extensions.{extensions, lengths}
use Rattle.filter.specs.Filter.{restoration}
use Rattle.filter.specs.Gabor.{gabor, channel, gabor_of}
use Rattle.filter.specs.Epf.{epf, sharp, scale, sigma}
use Rattle.filter.specs.Values.{float, floats}
use Rattle.filter.specs.Weights.{unbalanced}
use Rattle.grid.specs.declared.Frame.{Frame}
use Rattle.grid.specs.Sizes.{sections_of, up, sample}
use Rattle.grid.specs.Measured.{grid_of, good_record, laid, refused_grid}
use Rattle.grid.specs.Groups.{judge}
use Rattle.header.specs.Header.{Header, header, front, back}
use Rattle.header.specs.Opening.{opening}
use Rattle.header.specs.Shape.{passes, scales, placement}
use Rattle.header.specs.Arrays.{element}
use Rattle.header.specs.Blending.{covers_side, covers_image, source_decider, has_source, blending, words}
use Rattle.header.specs.Closing.{closing}
use Rattle.header.specs.declared.entry.HeaderRead.{HeaderRead}
use Rattle.header.specs.Entry.{judged, stands, refused_header, answered, buffer_after, Headed, HeaderTold, told}
use Rattle.header.specs.Record.{header_of, frame_of}
use Rattle.order.specs.Order.{is_order, checked, all_below, distinct, has as occurs}
use Rattle.order.specs.Sums.{sum_to}
use Rattle.order.specs.Tables.{tabulate, index_of, inverse_of, identity, filled}
use Rattle.order.specs.Numbers.{sent_of, entry_at, looked_up}
use Rattle.sections.specs.Kinds.{section_number, section_answer}
use Rattle.sections.specs.Lookups.{sample_kind, has_sample, section_of_sample, place_refusal, place_by, place_of, sent_of_section}
use Rattle.toc.specs.declared.Toc.{Toc}
use Rattle.toc.specs.Sizes.{toc_rows, size_rows, sent_before, offsets_by, sizes_by}
use Rattle.toc.specs.Reading.{Table, Tables, tables, Reading, room_for, judged_by, judged_order, toc_of, sized_answer, first_read, second_read, refused_read, first_reading, second_reading, tables_of, written, after, toc_numbers}
use Rattle.edges.specs.Cases.{facts, listed, five}
use Rattle.demand.specs.Frames.{BytesToBytes}
use Rattle.theorems.proofs.Once.{header_by}
use Rattle.demand.proofs.Frames.{first_frame, second_frame}

-- a name buffer of 1,071 bytes, and no extra channels
abbrev name : List ℕ
name = replicate 1071 0

abbrev before : Refusal
before = judged (length listed) (facts 300 100) (length name) 0 0

abbrev h : Read Header
h = stands (facts 300 100) listed

-- what is due of the header entry, an answer with those numbers, and what a lent buffer holds afterwards
abbrev due : HeaderTold
due = answered (facts 300 100) before h

abbrev r : Result HeaderRead Refusal
r = Ok (record { header = header_by due.header; end = due.end })

abbrev a : HeaderTold
a = told r

abbrev held : List ℕ → List ℕ → List ℕ
held new buffer = buffer_after before h new buffer

asked :
    Headed (facts 300 100) listed r name (held h.value.name name) [] (held h.value.upsampling []) [] (held (words h.value.blending) [])
unfolding read bind within times failed field more run cut bits_at extensions lengths restoration gabor channel gabor_of epf sharp scale sigma float floats unbalanced header front back opening passes scales placement element covers_side covers_image source_decider has_source blending closing header_of judged refused_header answered
asked = record { answer = refl; named = refl; upsampled = refl; blended = refl }

-- a frame of 300 by 100 samples with so many passes
abbrev sized : ℕ → Frame
sized n = record { width = 300; height = 100; upsampling = 1; lf_level = 0; group_size_shift = 1; num_passes = n }

-- the header is accepted, its frame has one pass, and it ends behind its one bit
header_read : (a.refusal.number ≡ 0) × (frame_of a.header ≡ sized 1) × (a.end ≡ 1)
unfolding read bind within times failed field more run cut bits_at extensions lengths restoration gabor channel gabor_of epf sharp scale sigma float floats unbalanced header front back opening passes scales placement element covers_side covers_image source_decider has_source blending closing header_of judged refused_header answered
header_read = (refl, refl, refl)

-- a table of five sections is answered there, and one with an order at the place of the padding
abbrev toc : Toc
toc = record { count = 5; bookmark = 9; total_byte_size = 1033 }

abbrev order : List ℕ
order = 2 ∷ 0 ∷ 1 ∷ 3 ∷ 4 ∷ []

abbrev first : Frame → ℕ → Reading
first f place = first_reading listed f place five

abbrev second : Frame → Reading
second f = second_reading listed f 8 order five

tables_read : ((first (sized 1) 1).answer ≡ Table toc) × ((second (sized 1)).answer ≡ Table toc)
unfolding read bind within times field run cut bits_at grid_of good_record laid refused_grid sections_of up sample is_order checked all_below distinct occurs tabulate identity toc_rows size_rows sum_to sent_before room_for judged_by judged_order toc_of sized_answer first_read second_read refused_read first_reading second_reading
tables_read = (refl, refl)

-- ---- the theorem of them

first_table : (first (frame_of a.header) a.end).answer ≡ Table toc
first_table = rw (header_read.1, header_read.2) tables_read.0

second_table : (second (frame_of a.header)).answer ≡ Table toc
second_table = rw header_read.1 tables_read.1

pub first_met :
    BytesToBytes (facts 300 100) listed a toc (identity 5) (first (frame_of a.header) a.end).sizes
    (after (first (frame_of a.header) a.end) five)
first_met =
    first_frame (facts 300 100) listed r name _ [] _ [] _ asked header_read.0 five toc _ _ _ _
    (record { answer = ap toc_numbers (sym first_table); offsets = refl; sizes = refl; order = refl; inverse = refl })

pub second_met : BytesToBytes (facts 300 100) listed a toc order (second (frame_of a.header)).sizes (after (second (frame_of a.header)) five)
second_met =
    second_frame (facts 300 100) listed r name _ [] _ [] _ asked header_read.0 8 order five toc _ _ _ _
    (record { answer = ap toc_numbers (sym second_table); offsets = refl; sizes = refl; order = refl; inverse = refl })

-- ---- what wrong programs would answer there: each differs from what the theorem says

-- the four tables of the second, and its sizes as they were sent
abbrev words5 : Tables
words5 = tables (19 ∷ 9 ∷ 19 ∷ 22 ∷ 1022 ∷ []) (3 ∷ 10 ∷ 0 ∷ 1000 ∷ 20 ∷ []) order (1 ∷ 2 ∷ 0 ∷ 3 ∷ 4 ∷ [])

abbrev sent5 : List ℕ
sent5 = 10 ∷ 0 ∷ 3 ∷ 1000 ∷ 20 ∷ []

left_there : (after (second (sized 1)) five ≡ words5) × ((second (sized 1)).sizes ≡ sent5)
unfolding read bind within times field run cut bits_at grid_of good_record laid refused_grid sections_of up sample is_order checked all_below distinct occurs tabulate index_of inverse_of filled size_rows sum_to sent_before offsets_by sizes_by room_for judged_by judged_order toc_of sized_answer second_read refused_read second_reading tables_of written
left_there = (refl, refl)

-- the sent number of section 0 out of the other order table is 1, where 2 is due
other_table_answers : (sent_of_section (sized 1) (take 5 words5.inverse) (record { 0 = 0 })).sent.0 ≡ 1
unfolding grid_of good_record laid refused_grid sections_of up sample is_order checked all_below distinct occurs sent_of entry_at looked_up sent_of_section
other_table_answers = refl

pub other_table : (sent_of_section (sized 1) (take 5 (after (second (sized 1)) five).inverse) (record { 0 = 0 })).sent.0 ≡ get_or order 0 0 → ⊥
other_table e = omega (arith, rw left_there.0 at e, other_table_answers)

-- the size of section 0 at its sent number is 0, where 3 was sent
size_at_sent_answers : (place_of (sized 1) words5.offsets words5.sizes (record { 0 = get_or order 0 0 })).size ≡ 0
unfolding grid_of good_record laid refused_grid sections_of up sample judge place_refusal place_by place_of
size_at_sent_answers = refl

pub size_at_sent :
    (place_of (sized 1) (after (second (sized 1)) five).offsets (after (second (sized 1)) five).sizes (record { 0 = get_or order 0 0 })).size
    ≡ get_or (second (sized 1)).sizes (get_or order 0 0) 0 → ⊥
size_at_sent e = omega (arith, rw (left_there.0, left_there.1) at e, size_at_sent_answers)

-- a look-up that ignores the pass: in a frame of two passes section 3, where pass 1 has section 5
pub no_pass : (section_of_sample (sized 2) 0 0 0).section.0 ≡ (section_of_sample (sized 2) 0 0 1).section.0 → ⊥
unfolding grid_of good_record laid refused_grid sections_of up sample judge section_of_sample has_sample sample_kind section_number section_answer
no_pass e = omega arith
