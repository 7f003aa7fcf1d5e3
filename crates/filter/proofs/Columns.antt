-- The columns of the filters' tables give back what was read: the law of bits' `Columns`, of each table and of the whole bundle. A float's column is
-- the pattern that was read. The Bool in front of values is written as 0 exactly where they are the defaults, and some bits aren't kept: where a
-- record speaks of `Sent`, it asks that these were read as they would be written.
use Prim.Native.Nat.{ℕ, ◌+◌, ◌*◌, ◌<◌}
use native.Mathlib.Omega.{arith}
use native.Mathlib.Nat.{zero-add}
use mathlib.Core.Path.{◌≡◌, refl, sym, ◌∙◌, ap}
use mathlib.Core.Bool.{Bool, true, false, not, ◌&&◌}
use mathlib.Core.List.{List}
use lib.Dec.{eqb}
use lib.ListN.{get_or}
use lib.Ieee.{Float, nan}
use borrow.Author.Tests.{eqb-true, eqb-false, not-true}
use Rattle.bits.specs.declared.Read.{Read}
use Rattle.bits.specs.declared.Cursor.{Cursor}
use Rattle.bits.specs.Refusals.{pick}
use Rattle.bits.specs.Half.{half}
use Rattle.bits.specs.Codec.{u, bool, u64, f16, field}
use Rattle.bits.specs.Table.{Table, read, bind}
use Rattle.bits.specs.Extensions.{extensions}
use Rattle.bits.proofs.Bits.{and_left, and_right}
use Rattle.bits.proofs.Rows.{Reads, row_then, bind_then, within_then, at_end}
use Rattle.bits.proofs.Columns.{Columns, columns_bind, columns_inside, columns_times, times_any, extensions_columns}
use Rattle.bits.proofs.Values.{bool_small, half_small}
use Rattle.filter.specs.declared.gabor.Gabor.{Gabor}
use Rattle.filter.specs.declared.gabor.Channel.{Channel}
use Rattle.filter.specs.declared.settings.EpfSigma.{EpfSigma}
use Rattle.filter.specs.declared.settings.EpfParams.{EpfParams}
use Rattle.filter.specs.declared.epf.EdgePreservingFilter.{EdgePreservingFilter}
use Rattle.filter.specs.Values.{pattern, pattern_at, custom, float, floats}
use Rattle.filter.specs.Gabor.{weights_of, gabor_default, gabor_disabled, channel, gabor_of, gabor}
use Rattle.filter.specs.Epf.{sharp_default, scale_default, sigma_default, epf_disabled, sharp, scale, sigmas, sigma_of, sigma, settings, four_of, epf_of, epf}
use Rattle.filter.specs.Filter.{restoration}
use Rattle.filter.proofs.PatternLaws.{pattern_half}
use Rattle.filter.proofs.GaborLaws.{of_custom}

-- ---- floats

-- a float's column is the pattern that was read
module _ {R : Type 0} (on : Bool) (d : ℕ) (column : R → ℕ) (s : List ℕ) (c : Cursor) (r : R) (small : d < 65536)
    (is : on ≡ true → column r ≡ pattern (half (field s on f16 d c).value))
  where
    pattern_back : on ≡ true → column r ≡ (field s on f16 d c).value
    pattern_back here = is here ∙ pattern_half (field s on f16 d c).value (half_small s on d c small)

    pub float_columns : Columns (float on d column) s c r
    unfolding float Columns
    float_columns = (pattern_back, tt)

    -- and then the rest
    pub float_then : {B : Type 0} (f : Float → Table R B) → Columns (f (half (field s on f16 d c).value)) s (field s on f16 d c).next r
        → Columns (bind (float on d column) f) s c r
    unfolding float bind Columns
    float_then f rest = (pattern_back, rest)

-- what is read doesn't depend on the columns
float_read_lem : {R : Type 0} (on : Bool) (d : ℕ) (column : R → ℕ) (s : List ℕ) (c : Cursor)
    → Reads (float on d column) s c (record { value = half (field s on f16 d c).value; next = (field s on f16 d c).next })
unfolding float
float_read_lem on d column s c = row_then (field s on f16 d c) refl at_end

-- so many floats, by themselves
abbrev alone : Bool → ℕ → List ℕ → Cursor → Read (List Float)
alone on count s c = read (floats on count (λ (l : List Float). l)) s c

floats_read : {R : Type 0} (on : Bool) (count : ℕ) (values : R → List Float) (s : List ℕ) (c : Cursor)
    → Reads (floats on count values) s c (record { value = (alone on count s c).value; next = (alone on count s c).next })
unfolding floats
floats_read on count values s c = record {
  is = times_any _ _ s (λ j at. (float_read_lem on 0 _ s at).is ∙ sym (float_read_lem on 0 _ s at).is) count 0 c;
}

pub floats_columns : {R : Type 0} (on : Bool) (count : ℕ) (values : R → List Float) (s : List ℕ) (c : Cursor) (r : R)
    → (on ≡ true → (k : ℕ) → k < count → get_or (values r) k nan ≡ get_or (read (floats on count values) s c).value k nan)
    → Columns (floats on count values) s c r
unfolding floats
floats_columns on count values s c r h =
    columns_times (λ i. float on 0 λ r. pattern_at (values r) i) s r (on ≡ true) (λ j. get_or (values r) j nan) nan
    (λ j at is.
    float_columns on 0 (λ r. pattern_at (values r) j) s at r (omega arith) (λ here. ap pattern (is here ∙ ap (λ (o : Read Float). o.value) (float_read_lem on 0 _ s at).is))) count 0 c
    (λ here k l. ap (λ (j : ℕ). get_or (values r) j nan) (zero-add k) ∙ h here k l)

-- values that are sent only where a Bool says so, which is read only where it is asked for
asked : (on : Bool) (s : List ℕ) (c : Cursor) → eqb (field s on bool 0 c).value 1 ≡ true → on ≡ true
unfolding field
asked true s c e = refl
asked false s c e = e

-- ---- Gabor

pub channel_columns : (on : Bool) (i : ℕ) (s : List ℕ) (c : Cursor) (r : Gabor)
    → (on ≡ true → get_or r.weights (2 * i) nan ≡ (read (channel on i) s c).value.first)
    → (on ≡ true → get_or r.weights (2 * i + 1) nan ≡ (read (channel on i) s c).value.second)
    → Columns (channel on i) s c r
unfolding channel Columns read
channel_columns on i s c r first second =
    let a : Read ℕ = field s on f16 0 c in
    let b : Read ℕ = field s on f16 0 a.next in (
      λ here. ap pattern (first here) ∙ pattern_half a.value (half_small s on 0 c (omega arith)),
      (λ here. ap pattern (second here) ∙ pattern_half b.value (half_small s on 0 a.next (omega arith)), tt),
    )

bit_by : (e : ℕ) → e < 2 → (b : Bool) → eqb e 1 ≡ b → pick b 1 0 ≡ e
bit_by e h true q = sym (eqb-true e 1 q)
bit_by e h false q = omega (arith, eqb-false e 1 q)

enabled_by : (a b : Bool) (w : Gabor) → w.enabled ≡ true → (pick a (pick b w gabor_default) gabor_disabled).enabled ≡ a
unfolding gabor_default gabor_disabled
enabled_by true true w e = e
enabled_by true false w e = refl
enabled_by false b w e = refl

-- whether it is enabled is the number that was read
enabled_back : (enabled own : ℕ) (x y z : Channel) → enabled < 2 → pick (gabor_of enabled own x y z).enabled 1 0 ≡ enabled
unfolding gabor_of
enabled_back enabled own x y z h =
    ap (λ (b : Bool). pick b 1 0) (enabled_by (eqb enabled 1) (eqb own 1) (record { enabled = true; weights = weights_of x y z }) refl)
    ∙ bit_by enabled h (eqb enabled 1) refl

module _ (on : Bool) (s : List ℕ) (c : Cursor) where
  abbrev enabled : Read ℕ
  enabled = field s on bool 1 c

  abbrev own : Read ℕ
  own = field s (on && eqb enabled.value 1) bool 0 enabled.next

  abbrev first : Read Channel
  first = read (channel (eqb own.value 1) 0) s own.next

  abbrev second : Read Channel
  second = read (channel (eqb own.value 1) 1) s first.next

  abbrev third : Read Channel
  third = read (channel (eqb own.value 1) 2) s second.next

  abbrev made : Gabor
  made = gabor_of enabled.value own.value first.value second.value third.value

  gabor_read_lem : Reads (gabor on) s c (record { value = made; next = third.next })
  unfolding gabor
  gabor_read_lem =
      row_then enabled refl
      (row_then own refl
      (bind_then _ _ first.value first.next (record { is = refl })
      (bind_then _ _ second.value second.next (record { is = refl })
      (bind_then _ _ third.value third.next (record { is = refl }) at_end))))

  -- the Bool in front of the weights was read as it would be written
  abbrev pub GaborSent : Type 0
  GaborSent = (on && eqb enabled.value 1) ≡ true → custom (read (gabor on) s c).value.weights gabor_default.weights ≡ own.value

  custom_weights : eqb own.value 1 ≡ true → weights_of first.value second.value third.value ≡ made.weights
  custom_weights here =
      let live = and_right on (eqb enabled.value 1) (asked (on && eqb enabled.value 1) s enabled.next here) in
      ap (λ (g : Gabor). g.weights) (of_custom enabled.value own.value first.value second.value third.value (eqb-true enabled.value 1 live) (eqb-true own.value 1 here))

  weight_is : (i : ℕ) → eqb own.value 1 ≡ true
      → get_or made.weights i nan ≡ get_or (weights_of first.value second.value third.value) i nan
  weight_is i here = ap (λ (w : List Float). get_or w i nan) (sym (custom_weights here))

  gabor_given : ((read (gabor on) s c).value ≡ made) → GaborSent → Columns (gabor on) s c made
  unfolding gabor Columns
  gabor_given is sent = (
    λ here. enabled_back enabled.value own.value first.value second.value third.value (bool_small s on 1 c (omega arith)),
    (
      λ here. rw is at (sent here),
      columns_bind _ _ s own.next made (channel_columns (eqb own.value 1) 0 s own.next made (weight_is 0) (weight_is 1))
          (columns_bind _ _ s first.next made (channel_columns (eqb own.value 1) 1 s first.next made (weight_is 2) (weight_is 3))
          (columns_bind _ _ s second.next made (channel_columns (eqb own.value 1) 2 s second.next made (weight_is 4) (weight_is 5)) tt)),
    ),
  )

  pub gabor_columns : GaborSent → Columns (gabor on) s c (read (gabor on) s c).value
  gabor_columns sent =
      let is : (read (gabor on) s c).value ≡ made = ap (λ (o : Read Gabor). o.value) gabor_read_lem.is in
      rw is (gabor_given is sent)

-- ---- the edge-preserving filter

module _ (on : Bool) (s : List ℕ) (c : Cursor) where
  abbrev told : Read ℕ
  told = field s on bool 0 c

  abbrev luts : Read (List Float)
  luts = alone (eqb told.value 1) 8 s told.next

  abbrev factors : Read (List Float)
  factors = alone (eqb told.value 1) 3 s told.next

  abbrev ignored : Read ℕ
  ignored = field s (eqb told.value 1) (u 32) 0 factors.next

  sharp_read_lem : Reads (sharp on) s c (record { value = pick (eqb told.value 1) luts.value sharp_default; next = luts.next })
  unfolding sharp
  sharp_read_lem = row_then told refl (bind_then _ _ luts.value luts.next (floats_read _ 8 _ s _) at_end)

  scale_read_lem : Reads (scale on) s c (record { value = pick (eqb told.value 1) factors.value scale_default; next = ignored.next })
  unfolding scale
  scale_read_lem = row_then told refl (bind_then _ _ factors.value factors.next (floats_read _ 3 _ s _) (row_then ignored refl at_end))

  -- the Bool in front of the values was read as it would be written
  abbrev pub SharpSent : Type 0
  SharpSent = on ≡ true → custom (read (sharp on) s c).value sharp_default ≡ told.value

  pub record ScaleSent : Type 0 where
    pub told : on ≡ true → custom (read (scale on) s c).value scale_default ≡ (field s on bool 0 c).value
    -- and the 32 bits that are ignored as 0
    pub ignored : eqb (field s on bool 0 c).value 1 ≡ true → ignored.value ≡ 0

  -- values behind their Bool: the record has those that were read, or the default ones
  values_columns : (n : ℕ) (values : EpfParams → List Float) (default : List Float) (r : EpfParams)
      → (on ≡ true → values r ≡ pick (eqb told.value 1) (alone (eqb told.value 1) n s told.next).value default)
      → Columns (floats (eqb told.value 1) n values) s told.next r
  values_columns n values default r is =
      floats_columns (eqb told.value 1) n values s told.next r (λ here k l.
      let own = alone (eqb told.value 1) n s told.next in
      let sent : values r ≡ own.value = is (asked on s c here) ∙ rw here in
      let same : (read (floats (eqb told.value 1) n values) s told.next).value ≡ own.value = ap (λ (o : Read (List Float)). o.value) (floats_read (eqb told.value 1) n values s told.next).is in
      ap (λ (v : List Float). get_or v k nan) (sent ∙ sym same))

  -- where they are asked for, the record has what was read
  module _ (r : EpfParams) where
    pub sharp_columns : (on ≡ true → r.sharp_lut ≡ (read (sharp on) s c).value) → SharpSent → Columns (sharp on) s c r
    unfolding sharp Columns
    sharp_columns is sent = (
      λ here. rw (is here) (sent here),
      columns_bind _ _ s told.next r
          (values_columns 8 (λ (r : EpfParams). r.sharp_lut) sharp_default r (λ here. is here ∙ ap (λ (o : Read (List Float)). o.value) sharp_read_lem.is))
          tt,
    )

    pub scale_columns : (on ≡ true → r.channel_scale ≡ (read (scale on) s c).value) → ScaleSent → Columns (scale on) s c r
    unfolding scale Columns
    scale_columns is sent = (
      λ here. rw (is here) (sent.told here),
      columns_bind _ _ s told.next r
          (values_columns 3 (λ (r : EpfParams). r.channel_scale) scale_default r (λ here. is here ∙ ap (λ (o : Read (List Float)). o.value) scale_read_lem.is))
          (λ here. rw (floats_read (eqb told.value 1) 3 (λ (r : EpfParams). r.channel_scale) s told.next).is (sym (sent.ignored here)), tt),
    )

module _ (on modular : Bool) (s : List ℕ) (c : Cursor) where
  abbrev given : Read ℕ
  given = field s on bool 0 c

  abbrev quant : Read ℕ
  quant = field s (eqb given.value 1 && not modular) f16 0 given.next

  abbrev pass0 : Read ℕ
  pass0 = field s (eqb given.value 1) f16 0 quant.next

  abbrev pass2 : Read ℕ
  pass2 = field s (eqb given.value 1) f16 0 pass0.next

  abbrev border : Read ℕ
  border = field s (eqb given.value 1) f16 0 pass2.next

  abbrev four : EpfSigma
  four = sigma_of (eqb given.value 1) modular (half quant.value) (half pass0.value) (half pass2.value) (half border.value)

  sigma_read_lem : Reads (sigma on modular) s c (record { value = four; next = border.next })
  unfolding sigma
  sigma_read_lem =
      row_then given refl
      (bind_then _ _ (half quant.value) quant.next (float_read_lem _ 0 _ s _)
      (bind_then _ _ (half pass0.value) pass0.next (float_read_lem _ 0 _ s _)
      (bind_then _ _ (half pass2.value) pass2.next (float_read_lem _ 0 _ s _)
      (bind_then _ _ (half border.value) border.next (float_read_lem _ 0 _ s _) at_end))))

  abbrev pub SigmaSent : Type 0
  SigmaSent = on ≡ true → custom (sigmas (read (sigma on modular) s c).value) (sigmas sigma_default) ≡ given.value

  module _ (r : EpfSigma) (is : on ≡ true → r ≡ (read (sigma on modular) s c).value) where
    -- where they are sent, the four are those that were read
    sigma_is : eqb given.value 1 ≡ true
        → r ≡ record {
          quant_mul = pick modular sigma_default.quant_mul (half quant.value);
          pass0_sigma_scale = half pass0.value;
          pass2_sigma_scale = half pass2.value;
          border_sad_mul = half border.value;
        }
    sigma_is here = is (asked on s c here) ∙ ap (λ (o : Read EpfSigma). o.value) sigma_read_lem.is ∙ rw here

    pub sigma_columns : SigmaSent → Columns (sigma on modular) s c r
    unfolding sigma Columns
    sigma_columns sent = (
      λ here. rw (is here) (sent here),
      float_then _ 0 _ s given.next r (omega arith)
          (λ here. ap (λ (e : EpfSigma). pattern e.quant_mul) (sigma_is (and_left _ (not modular) here)) ∙ rw (not-true modular (and_right (eqb given.value 1) (not modular) here))) _
          (float_then _ 0 _ s quant.next r (omega arith) (λ here. ap (λ (e : EpfSigma). pattern e.pass0_sigma_scale) (sigma_is here)) _
          (float_then _ 0 _ s pass0.next r (omega arith) (λ here. ap (λ (e : EpfSigma). pattern e.pass2_sigma_scale) (sigma_is here)) _
          (float_then _ 0 _ s pass2.next r (omega arith) (λ here. ap (λ (e : EpfSigma). pattern e.border_sad_mul) (sigma_is here)) _ tt))),
    )

-- a filter without iterations has 0 of them
iters_back : (b : Bool) (n : ℕ) (p : EpfParams) → eqb n 0 ≡ b → (pick b epf_disabled (record { enabled = true; iters = n; params = p })).iters ≡ n
unfolding epf_disabled
iters_back true n p e = sym (eqb-true n 0 e)
iters_back false n p e = refl

module _ (on modular : Bool) (s : List ℕ) (c : Cursor) where
  abbrev rounds : Read ℕ
  rounds = field s on (u 2) 2 c

  abbrev live : Bool
  live = on && not (eqb rounds.value 0)

  abbrev lut : Read (List Float)
  lut = read (sharp (live && not modular)) s rounds.next

  abbrev scales : Read (List Float)
  scales = read (scale live) s lut.next

  abbrev sigma_out : Read EpfSigma
  sigma_out = read (sigma live modular) s scales.next

  abbrev flat : Read ℕ
  flat = field s (live && modular) f16 15360 sigma_out.next

  abbrev params : EpfParams
  params = settings lut.value scales.value sigma_out.value (half flat.value)

  abbrev filter_of : EdgePreservingFilter
  filter_of = epf_of rounds.value params

  epf_read_lem : Reads (epf on modular) s c (record { value = filter_of; next = flat.next })
  unfolding epf
  epf_read_lem =
      row_then rounds refl
      (within_then _ _ _ lut.value lut.next (record { is = refl })
      (within_then _ _ _ scales.value scales.next (record { is = refl })
      (within_then _ _ _ sigma_out.value sigma_out.next (record { is = refl })
      (bind_then _ _ (half flat.value) flat.next (float_read_lem _ 15360 _ s _) at_end))))

  -- the three Bools and the ignored bits
  pub record EpfSent : Type 0 where
    pub sharp : SharpSent (live && not modular) s rounds.next
    pub scale : ScaleSent live s lut.next
    pub sigma : SigmaSent live modular s scales.next

  -- where there are iterations, the settings are those that were read
  live_params : live ≡ true → filter_of.params ≡ params
  live_params here = rw (not-true (eqb rounds.value 0) (and_right on (not (eqb rounds.value 0)) here))

  epf_given : EpfSent → Columns (epf on modular) s c (filter_of)
  unfolding epf Columns
  epf_given sent = (
    λ here. iters_back (eqb rounds.value 0) rounds.value params refl,
    columns_inside _ _ _ s rounds.next (filter_of)
        (sharp_columns (live && not modular) s rounds.next filter_of.params (λ here. ap (λ (p : EpfParams). p.sharp_lut) (live_params (and_left live (not modular) here))) sent.sharp)
        (columns_inside _ _ _ s lut.next (filter_of)
        (scale_columns live s lut.next filter_of.params (λ here. ap (λ (p : EpfParams). p.channel_scale) (live_params here)) sent.scale)
        (columns_inside _ _ _ s scales.next (filter_of)
        (sigma_columns live modular s scales.next (four_of filter_of.params) (λ here. ap four_of (live_params here)) sent.sigma)
        (float_then _ 15360 _ s sigma_out.next (filter_of) (omega arith)
        (λ here. ap (λ (p : EpfParams). pattern p.sigma_for_modular) (live_params (and_left live modular here))) _ tt))),
  )

  pub epf_columns : EpfSent → Columns (epf on modular) s c (read (epf on modular) s c).value
  epf_columns sent = rw epf_read_lem.is (epf_given sent)

-- ---- the whole bundle

module _ (on modular : Bool) (s : List ℕ) (c : Cursor) where
  abbrev all : Read ℕ
  all = field s on bool 1 c

  abbrev asks : Bool
  asks = on && eqb all.value 0

  abbrev gab : Read Gabor
  gab = read (gabor asks) s all.next

  abbrev edges : Read EdgePreservingFilter
  edges = read (epf asks modular) s gab.next

  abbrev behind : Read ℕ
  behind = read (extensions asks) s edges.next

  restoration_read : Reads (restoration on modular) s c (record { value = record { gab = gab.value; epf = edges.value }; next = behind.next })
  unfolding restoration
  restoration_read =
      row_then all refl
      (within_then _ _ _ gab.value gab.next (record { is = refl })
      (within_then _ _ _ edges.value edges.next (record { is = refl })
      (within_then _ _ _ behind.value behind.next (record { is = refl }) at_end)))

  -- all_default was read as 0, each Bool as it would be written, and no extension was asked for
  pub record FilterSent : Type 0 where
    pub all_default : on ≡ true → all.value ≡ 0
    pub gabor : GaborSent asks s all.next
    pub epf : EpfSent asks modular s gab.next
    pub extensions : (field s asks u64 0 edges.next).value ≡ 0

  restoration_given : FilterSent → Columns (restoration on modular) s c (record { gab = gab.value; epf = edges.value })
  unfolding restoration Columns
  restoration_given sent = (
    λ here. sym (sent.all_default here),
    columns_inside _ _ _ s all.next _ (gabor_columns asks s all.next sent.gabor)
        (columns_inside _ _ _ s gab.next _ (epf_columns asks modular s gab.next sent.epf)
        (columns_inside _ _ _ s edges.next _ (extensions_columns s asks edges.next sent.extensions) tt)),
  )

  pub restoration_columns : FilterSent → Columns (restoration on modular) s c (read (restoration on modular) s c).value
  restoration_columns sent = rw restoration_read.is (restoration_given sent)
