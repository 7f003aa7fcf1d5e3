-- The record that is kept of a header. Its enums are named by their numbers.
use Rattle.std.specs.Prelude.{ℕ, Bool, false, not, ◌&&◌, List, [], ◌∷◌, eqb, ℤ, pos, replicate}
use Rattle.bits.specs.Refusals.{pick}
use Rattle.bits.specs.Codec.{signed}
use Rattle.filter.specs.declared.RestorationFilter.{RestorationFilter}
use Rattle.filter.specs.Filter.{filter_disabled}
use Rattle.grid.specs.declared.Frame.{Frame}
use Rattle.types.specs.declared.Encoding.TheVariants.{Modular}
use Rattle.types.specs.Types.{frame_type_number, encoding_number, blend_mode_number, is_encoding}
use Rattle.header.specs.declared.Facts.{Facts}
use Rattle.header.specs.declared.FrameHeader.{FrameHeader}
use Rattle.header.specs.declared.blending.Blending.{Blending}
use Rattle.header.specs.declared.blending.BlendingInfo.{BlendingInfo}
use Rattle.header.specs.declared.opening.Opening.{Opening}
use Rattle.header.specs.declared.shape.Passes.{Passes}
use Rattle.header.specs.declared.parts.Front.{Front}
use Rattle.header.specs.declared.parts.Back.{Back}
use Rattle.header.specs.Blending.{covers_image, resets}

-- `BlendingInfo`, its mode by number
pub record BlendingNumbers : Type 0 where
  pub mode : ℕ
  pub alpha_channel : ℕ
  pub clamp : Bool
  pub source : ℕ

-- the header's record, its enums by their numbers
pub record HeaderNumbers : Type 0 where
  pub frame_type : ℕ
  pub encoding : ℕ
  pub flags : ℕ
  pub do_ycbcr : Bool
  pub encoded_color_channels : ℕ
  pub jpeg_upsampling : List ℕ
  pub upsampling : ℕ
  pub group_size_shift : ℕ
  pub x_qm_scale : ℕ
  pub b_qm_scale : ℕ
  pub passes : Passes
  pub lf_level : ℕ
  pub have_crop : Bool
  pub x0 : ℤ
  pub y0 : ℤ
  pub width : ℕ
  pub height : ℕ
  pub blending_info : BlendingNumbers
  pub duration : ℕ
  pub timecode : ℕ
  pub is_last : Bool
  pub save_as_reference : ℕ
  pub resets_canvas : Bool
  pub save_before_ct : Bool
  pub name_length : ℕ
  pub restoration_filter : RestorationFilter

-- what its blending says
abbrev pub info_numbers : BlendingInfo → BlendingNumbers
info_numbers i = record { mode = blend_mode_number i.mode; alpha_channel = i.alpha_channel; clamp = i.clamp; source = i.source }

-- what a record says
abbrev pub numbers_of : FrameHeader → HeaderNumbers
numbers_of h = record {
  frame_type = frame_type_number h.frame_type;
  encoding = encoding_number h.encoding;
  flags = h.flags.0;
  do_ycbcr = h.do_ycbcr;
  encoded_color_channels = h.encoded_color_channels;
  jpeg_upsampling = h.jpeg_upsampling;
  upsampling = h.upsampling;
  group_size_shift = h.group_size_shift;
  x_qm_scale = h.x_qm_scale;
  b_qm_scale = h.b_qm_scale;
  passes = h.passes;
  lf_level = h.lf_level;
  have_crop = h.have_crop;
  x0 = h.x0;
  y0 = h.y0;
  width = h.width;
  height = h.height;
  blending_info = info_numbers h.blending_info;
  duration = h.duration;
  timecode = h.timecode;
  is_last = h.is_last;
  save_as_reference = h.save_as_reference;
  resets_canvas = h.resets_canvas;
  save_before_ct = h.save_before_ct;
  name_length = h.name_length;
  restoration_filter = h.restoration_filter;
}

-- 1 for a grey Modular frame that is neither YCbCr nor XYB, else 3
abbrev pub color_channels : Facts → Opening → ℕ
color_channels f o = pick ((is_encoding o.encoding Modular && not (eqb o.do_ycbcr 1)) && (not f.xyb && f.grey)) 1 3

abbrev pub blending_of : Blending → BlendingNumbers
blending_of b = record { mode = b.mode; alpha_channel = b.alpha_channel; clamp = eqb b.clamp 1; source = b.source }

-- the record of what was read
unfoldable pub header_of : Facts → Front → Back → HeaderNumbers
header_of f a b = record {
  frame_type = a.opening.frame_type;
  encoding = a.opening.encoding;
  flags = a.opening.flags;
  do_ycbcr = eqb a.opening.do_ycbcr 1;
  encoded_color_channels = color_channels f a.opening;
  jpeg_upsampling = a.opening.jpeg0 ∷ a.opening.jpeg1 ∷ a.opening.jpeg2 ∷ [];
  upsampling = a.opening.upsampling;
  group_size_shift = a.scales.group_size_shift;
  x_qm_scale = a.scales.x_qm_scale;
  b_qm_scale = a.scales.b_qm_scale;
  passes = a.passes;
  lf_level = a.placement.lf_level;
  have_crop = eqb a.placement.have_crop 1;
  x0 = signed a.placement.x0;
  y0 = signed a.placement.y0;
  width = a.placement.width;
  height = a.placement.height;
  blending_info = blending_of b.blending;
  duration = b.closing.duration;
  timecode = b.closing.timecode;
  is_last = eqb b.closing.is_last 1;
  save_as_reference = b.closing.save_as_reference;
  resets_canvas = resets b.blending.mode (covers_image f a.placement);
  save_before_ct = eqb b.closing.save_before_ct 1;
  name_length = b.closing.name_length;
  restoration_filter = b.filter;
}

abbrev pub no_passes : Passes
no_passes = record { num_passes = 0; num_ds = 0; shift = replicate 10 0; downsample = replicate 4 0; last_pass = replicate 4 0 }

-- what stands beside a refusal
unfoldable pub zero_header : HeaderNumbers
zero_header = record {
  frame_type = 0;
  encoding = 0;
  flags = 0;
  do_ycbcr = false;
  encoded_color_channels = 0;
  jpeg_upsampling = replicate 3 0;
  upsampling = 0;
  group_size_shift = 0;
  x_qm_scale = 0;
  b_qm_scale = 0;
  passes = no_passes;
  lf_level = 0;
  have_crop = false;
  x0 = pos 0;
  y0 = pos 0;
  width = 0;
  height = 0;
  blending_info = record { mode = 0; alpha_channel = 0; clamp = false; source = 0 };
  duration = 0;
  timecode = 0;
  is_last = false;
  save_as_reference = 0;
  resets_canvas = false;
  save_before_ct = false;
  name_length = 0;
  restoration_filter = filter_disabled;
}

-- the six numbers that geometry needs
abbrev pub frame_of : HeaderNumbers → Frame
frame_of h = record {
  width = h.width;
  height = h.height;
  upsampling = h.upsampling;
  lf_level = h.lf_level;
  group_size_shift = h.group_size_shift;
  num_passes = h.passes.num_passes;
}
