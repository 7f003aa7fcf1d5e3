-- P1 to P12: bytes, facts or numbers, and what is due of the definitions that the public functions promise. One record, a field an example.
use Rattle.std.specs.Prelude.{ℕ, ◌≡◌, true, false, List, [], ◌∷◌, ◌++◌, pos, negsuc, length}
use Prim.Native.Char.{code}
use Prim.Native.String.{String, [] as []ˢ, ◌∷◌ as ◌∷ˢ◌}
use Rattle.bits.specs.Refusals.{refusal, none, start}
use Rattle.bits.specs.Codec.{signed}
use Rattle.bits.specs.Table.{read}
use Rattle.filter.specs.Values.{decimal, quotient}
use Rattle.filter.specs.Gabor.{gabor}
use Rattle.grid.specs.declared.Frame.{Frame}
use Rattle.grid.specs.Sizes.{sections}
use Rattle.grid.specs.Measured.{grid_of}
use Rattle.grid.specs.Groups.{rect_for}
use Rattle.types.specs.declared.FrameType.TheVariants.{RegularFrame}
use Rattle.types.specs.declared.Encoding.TheVariants.{VarDct, Modular}
use Rattle.types.specs.declared.BlendMode.TheVariants.{Replace}
use Rattle.types.specs.Types.{frame_type_number, encoding_number, blend_mode_number}
use Rattle.header.specs.declared.Facts.{Facts}
use Rattle.header.specs.declared.shape.Placement.{Placement}
use Rattle.header.specs.Record.{HeaderNumbers, zero_header, frame_of}
use Rattle.header.specs.Blending.{covers_image, resets}
use Rattle.header.specs.Entry.{judged, stands, HeaderTold, answered}
use Rattle.sections.specs.declared.TocGroupKind.{TocGroupKind}
use Rattle.sections.specs.declared.TocGroupKind.TheVariants.{LfGlobal, LfGroup, HfGlobal}
use Rattle.sections.specs.Kinds.{section_of_kind}
use Rattle.sections.specs.Lookups.{PlaceAnswer, place_of}
use Rattle.toc.specs.Reading.{TocAnswer, Table, Refused, Tables, tables, Reading, second_reading, after}
use Rattle.listing_job.specs.Job.{job_text}

-- ---- how an example is asked

-- a text's bytes
abbrev pub bytes : String → List ℕ
bytes []ˢ = []
bytes (c ∷ˢ s) = code c ∷ bytes s

-- a width and a height, and otherwise nothing
abbrev pub facts : ℕ → ℕ → Facts
facts w h = record { width = w; height = h; xyb = false; grey = false; extra = 0; animation = false; timecodes = false }

-- what the header entry answers, lent a name buffer of 1,071 bytes
abbrev pub entered : Facts → List ℕ → HeaderTold
entered f s = answered f (judged (length s) f 1071 0 0) (stands f s)

abbrev pub width_at : Frame → ℕ → ℕ
width_at f i = (rect_for (grid_of f) (grid_of f).side i).rect.width

-- where the section of a kind lies, through the look-ups by kind and by section
abbrev pub place_of_kind : Frame → Tables → TocGroupKind → PlaceAnswer
place_of_kind f t kind = place_of f t.offsets t.sizes (section_of_kind f kind).section

abbrev pub at : ℕ → ℕ → PlaceAnswer
at offset size = record { offset = offset; size = size; refusal = none }

-- ---- the examples' own numbers

-- all defaults of an image of 300 by 100
abbrev pub defaults : HeaderNumbers
defaults = record {
  frame_type = frame_type_number RegularFrame;
  encoding = encoding_number VarDct;
  flags = 0;
  do_ycbcr = false;
  encoded_color_channels = 3;
  jpeg_upsampling = 0 ∷ 0 ∷ 0 ∷ [];
  upsampling = 1;
  group_size_shift = 1;
  x_qm_scale = 2;
  b_qm_scale = 2;
  passes = record {
    num_passes = 1;
    num_ds = 0;
    shift = 0 ∷ 0 ∷ 0 ∷ 0 ∷ 0 ∷ 0 ∷ 0 ∷ 0 ∷ 0 ∷ 0 ∷ [];
    downsample = 0 ∷ 0 ∷ 0 ∷ 0 ∷ [];
    last_pass = 0 ∷ 0 ∷ 0 ∷ 0 ∷ [];
  };
  lf_level = 0;
  have_crop = false;
  x0 = pos 0;
  y0 = pos 0;
  width = 300;
  height = 100;
  blending_info = record { mode = blend_mode_number Replace; alpha_channel = 0; clamp = false; source = 0 };
  duration = 0;
  timecode = 0;
  is_last = true;
  save_as_reference = 0;
  resets_canvas = true;
  save_before_ct = false;
  name_length = 0;
  restoration_filter = record {
    gab = record {
      enabled = true;
      weights =
          decimal 115169525 1000000000
          ∷ decimal 61248592 1000000000
          ∷ decimal 115169525 1000000000
          ∷ decimal 61248592 1000000000
          ∷ decimal 115169525 1000000000
          ∷ decimal 61248592 1000000000
          ∷ [];
    };
    epf = record {
      enabled = true;
      iters = 2;
      params = record {
        sharp_lut = decimal 0 1 ∷ quotient 1 7 ∷ quotient 2 7 ∷ quotient 3 7 ∷ quotient 4 7 ∷ quotient 5 7 ∷ quotient 6 7 ∷ decimal 1 1 ∷ [];
        channel_scale = decimal 40 1 ∷ decimal 5 1 ∷ decimal 35 10 ∷ [];
        quant_mul = decimal 46 100;
        pass0_sigma_scale = decimal 9 10;
        pass2_sigma_scale = decimal 65 10;
        border_sad_mul = quotient 2 3;
        sigma_for_modular = decimal 1 1;
      };
    };
  };
}

-- the frame of the listing: all defaults, and its table of five sections
abbrev pub listed : List ℕ
listed = 0x01 ∷ 0x28 ∷ 0x00 ∷ 0x00 ∷ 0x0c ∷ 0x00 ∷ 0xfa ∷ 0x50 ∷ 0x00 ∷ []

abbrev pub listed_frame : Frame
listed_frame = frame_of (entered (facts 300 100) listed).header

-- four lent tables of five words
abbrev pub five : Tables
five = tables (7 ∷ 7 ∷ 7 ∷ 7 ∷ 7 ∷ []) (7 ∷ 7 ∷ 7 ∷ 7 ∷ 7 ∷ []) (7 ∷ 7 ∷ 7 ∷ 7 ∷ 7 ∷ []) (7 ∷ 7 ∷ 7 ∷ 7 ∷ 7 ∷ [])

-- the second entry on those bytes at place 8, with an order
abbrev pub ordered : List ℕ → Reading
ordered order = second_reading listed listed_frame 8 order five

-- a row of groups of 128 samples
abbrev pub wide : ℕ → Frame
wide w = record { width = w; height = 128; upsampling = 1; lf_level = 0; group_size_shift = 0; num_passes = 1 }

-- Gabor enabled and custom, the first channel's weights B400 and the one given, the others 0
abbrev pub weights : ℕ → List ℕ
weights third = 0x03 ∷ 0xd0 ∷ third ∷ 0 ∷ 0 ∷ 0 ∷ 0 ∷ 0 ∷ 0 ∷ 0 ∷ 0 ∷ 0 ∷ 0 ∷ []

-- a crop with y0 = 0, width 301 and height 100; x0 as it is read
abbrev pub cropped : ℕ → Placement
cropped x = record { lf_level = 0; have_crop = 1; x0 = x; y0 = 0; width = 301; height = 100 }

-- ---- the table

pub record Edges : Type 0 where
  -- P1 no bytes: 4 at 0
  pub P1 : ◌≡◌ {A = HeaderTold} (entered (facts 300 100) []) (record { given = false; header = zero_header; end = 0; refusal = refusal 4 0 })
  -- P2 byte 01: all defaults, ends at bit 1
  pub P2 : ◌≡◌ {A = HeaderTold} (entered (facts 300 100) (0x01 ∷ [])) (record { given = true; header = defaults; end = 1; refusal = none })
  -- P3 08 00 09: Modular, shift 0, last frame, ends at bit 22; widths 128, 128, 44; six sections
  pub P3 :
      let a : HeaderTold = entered (facts 300 100) (0x08 ∷ 0x00 ∷ 0x09 ∷ []) in
      let f : Frame = frame_of a.header in
      (a.refusal ≡ none) × (a.header.encoding ≡ encoding_number Modular) × (a.header.group_size_shift ≡ 0) × (a.header.is_last ≡ true) × (a.end ≡ 22)
      × ((width_at f 0 ∷ width_at f 1 ∷ width_at f 2 ∷ []) ≡ (128 ∷ 128 ∷ 44 ∷ []))
      × ((grid_of f).sections ≡ 6)
  -- P4 the listing's sections: the whole text of the listing, from the facts and the bytes
  pub P4 :
      job_text (bytes "300\t100\t0\t0\t0\t0\t0\n" ++ listed)
      ≡ (bytes "section\tkind\tpass\tgroup\tsent\toffset\tsize\tleft\ttop\twidth\theight\n"
      ++ (bytes "0\tLfGlobal\t-\t-\t0\t9\t10\t-\t-\t-\t-\n"
      ++ (bytes "1\tLfGroup\t-\t0\t1\t19\t0\t0\t0\t300\t100\n"
      ++ (bytes "2\tHfGlobal\t-\t-\t2\t19\t3\t-\t-\t-\t-\n"
      ++ (bytes "3\tGroupPass\t0\t0\t3\t22\t1000\t0\t0\t256\t100\n"
      ++ (bytes "4\tGroupPass\t0\t1\t4\t1022\t20\t256\t0\t44\t100\n"
      ++ bytes "total\t1033\n"))))))
  -- P5 the second entry on those bytes at place 8 with order 2, 0, 1, 3, 4: LfGlobal 19 size 3, LfGroup 9 size 10, HfGlobal 19 size 0; inverse 1, 2,
  -- 0, 3, 4
  pub P5 :
      let r : Reading = ordered (2 ∷ 0 ∷ 1 ∷ 3 ∷ 4 ∷ []) in
      let t : Tables = after r five in
      (◌≡◌ {A = TocAnswer} r.answer (Table (record { count = 5; bookmark = 9; total_byte_size = 1033 })))
      × (place_of_kind listed_frame t LfGlobal ≡ at 19 3)
      × (place_of_kind listed_frame t (LfGroup 0) ≡ at 9 10)
      × (place_of_kind listed_frame t HfGlobal ≡ at 19 0)
      × (t.order ≡ (2 ∷ 0 ∷ 1 ∷ 3 ∷ 4 ∷ []))
      × (t.inverse ≡ (1 ∷ 2 ∷ 0 ∷ 3 ∷ 4 ∷ []))
  -- P6 order 0, 0, 1, 2, 3: 13, and nothing written
  pub P6 :
      let r : Reading = ordered (0 ∷ 0 ∷ 1 ∷ 2 ∷ 3 ∷ []) in
      (◌≡◌ {A = TocAnswer} r.answer (Refused (refusal 13 0))) × (◌≡◌ {A = Tables} (after r five) five)
  -- P7 shift 0, height 128, one pass: width 7,456,256 gives 65,536 sections
  pub P7 : ((grid_of (wide 7456256)).sections ≡ 65536) × ((grid_of (wide 7456256)).refusal ≡ none)
  -- P8 width 7,456,257 gives 65,537, refused
  pub P8 : (sections (wide 7456257) ≡ 65537) × ((grid_of (wide 7456257)).refusal ≡ refusal 10 0)
  -- P9 signed 1, 2, 3, 1,073,760,511: -1, 1, -2, -536,880,256
  pub P9 : (signed 1 ≡ negsuc 0) × (signed 2 ≡ pos 1) × (signed 3 ≡ negsuc 1) × (signed 1073760511 ≡ negsuc 536880255)
  -- P10 weights B400 and 0000: 7 where they begin
  pub P10 : (read (gabor true) (weights 0x02) (start 0)).next.fault ≡ refusal 7 2
  -- P11 B400 and 0001: accepted
  pub P11 : (read (gabor true) (weights 0x06) (start 0)).next ≡ start 98
  -- P12 crop x0 = -1, width 301, y0 = 0, height 100 on 300 by 100, Replace: resets; x0 = 1 doesn't
  pub P12 :
      (resets (blend_mode_number Replace) (covers_image (facts 300 100) (cropped 1)) ≡ true)
      × (resets (blend_mode_number Replace) (covers_image (facts 300 100) (cropped 2)) ≡ false)
