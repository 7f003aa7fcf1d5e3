-- The entry: which refusal when, the record of what was read, and the lent buffers.
use Prim.Native.Nat.{ℕ, ◌*◌, ◌≤◌, ◌<◌}
use native.Mathlib.Omega.{arith}
use mathlib.Core.Path.{◌≡◌, refl, sym, ◌∙◌, ap}
use mathlib.Core.Bool.{Bool, true, false, ◌&&◌}
use mathlib.Core.List.{List, [], ◌∷◌}
use lib.Dec.{eqb}
use Rattle.std.specs.Prelude.{Result, Ok, Err}
use lib.IntN.{ℤ}
use lib.ListN.{length, take}
use lib.Seq.{sets, length-sets}
use borrow.Author.Tests.{eq-eqb, ne_eqb}
use Rattle.bits.specs.declared.Read.{Read}
use Rattle.bits.specs.declared.Refusal.{Refusal}
use Rattle.bits.specs.declared.Cursor.{Cursor}
use Rattle.bits.specs.Refusals.{pick, start, answered as or_refused}
use Rattle.bits.specs.Codec.{u, u32, bool, field, signed}
use Rattle.bits.specs.Bits.{bits_at, there}
use Rattle.bits.specs.Steps.{cut_at, run}
use Rattle.bits.specs.Table.{read}
use Rattle.bits.proofs.Values.{bits_small, case_small}
use Rattle.header.specs.declared.Facts.{Facts}
use Rattle.header.specs.declared.FrameHeader.{FrameHeader}
use Rattle.header.specs.declared.blending.Blending.{Blending}
use Rattle.header.specs.declared.blending.BlendingInfo.{BlendingInfo}
use Rattle.header.specs.declared.blending.Decider.{Decider}
use Rattle.types.specs.declared.BlendMode.{BlendMode}
use Rattle.types.specs.declared.FrameType.{FrameType}
use Rattle.types.specs.declared.Encoding.{Encoding}
use Rattle.header.specs.declared.parts.Front.{Front}
use Rattle.header.specs.declared.parts.Back.{Back}
use Rattle.header.specs.declared.parts.FrontRead.{FrontRead}
use Rattle.header.specs.declared.parts.BackRead.{BackRead}
use Rattle.header.specs.declared.entry.HeaderRead.{HeaderRead}
use Rattle.types.specs.Types.{frame_type_number, encoding_number, blend_mode_number}
use Rattle.header.specs.Arrays.{array}
use Rattle.header.specs.Private.{Arrayed, extras, Extras, upsampling_from, blending_from, Fronted, Backed, ChannelsKept, ChannelsGiven, Filled, Defaulted, Named, default_front, default_back}
use Rattle.header.specs.Opening.{opening, upsamplings}
use Rattle.header.specs.Blending.{modes, covers_image, source_decider, blending, words}
use Rattle.header.specs.Header.{Header, Begun, Ended, sent_upsampling, sends_blending, front, back, header}
use Rattle.header.specs.Record.{HeaderNumbers, info_numbers, numbers_of, color_channels, blending_of, header_of}
use Rattle.header.specs.Entry.{judged, stands, refusal_of, HeaderTold, told, refused_header, answered, Headed}
use Rattle.header.proofs.Walks.{read_then, times_length, words_length, in_front}
use Rattle.header.proofs.Columns.{front_read, back_read}
use Rattle.header.proofs.AllDefault.{header_off}

-- the two parts are the header
pub header_law : (f : Facts) (s : List ℕ) (a : FrontRead) (b : BackRead) (w w' x x' : List ℕ) → Fronted f s a w w' → Backed f a.value.opening a.value.placement s a.next b x x'
    → stands f s ≡ record {
      value = record {
        front = a.value;
        upsampling = (read (array (u32 upsamplings) (sent_upsampling f a.value.opening) f.extra 1 (λ (x : List ℕ) (i : ℕ). 0)) s a.upsampling_at).value;
        back = b.value;
        blending = (read (extras (sends_blending a.value.opening) f.extra (covers_image f a.value.placement) (source_decider f b.value.blending.mode)) s b.blending_at).value;
        name = (read (array (u 8) b.value.closing.name_length b.value.closing.name_length 0 (λ (x : List ℕ) (i : ℕ). 0)) s b.name_at).value;
      };
      next = b.next;
    }
unfolding header read
header_law f s a b w w' x x' fa fb =
    let ups = (read (array (u32 upsamplings) (sent_upsampling f a.value.opening) f.extra 1 (λ (x : List ℕ) (i : ℕ). 0)) s a.upsampling_at).value in
    let first : ◌≡◌ {A = Read Begun} (record { value = record { front = a.value; upsampling = ups }; next = a.next }) (read (front f) s (start 0)) =
    sym (λ i. record { value = record { front = fa.value i; upsampling = fa.upsampling i }; next = fa.next i }) in
    let second : ◌≡◌ {A = Ended} (read (back f a.value.opening a.value.placement) s a.next).value (record {
      back = b.value;
      blending = (read (extras (sends_blending a.value.opening) f.extra (covers_image f a.value.placement) (source_decider f b.value.blending.mode)) s b.blending_at).value;
      name = (read (array (u 8) b.value.closing.name_length b.value.closing.name_length 0 (λ (x : List ℕ) (i : ℕ). 0)) s b.name_at).value;
    }) = λ i. record { back = fb.value i; blending = fb.blending i; name = fb.name i } in
    read_then (front f) _ s (start 0) (record { value = record { front = a.value; upsampling = ups }; next = a.next }) first
    ∙ read_then (back f a.value.opening a.value.placement) _ s a.next (read (back f a.value.opening a.value.placement) s a.next) refl
    ∙ rw (second, fb.next)

one_by : (s : List ℕ) (t : Bool) (v : ℕ) (all : Read ℕ) → all ≡ pick t (record { value = v; next = start 1 }) (cut_at s 0 1) → all.value ≡ 1 → all.next ≡ start 1
one_by s true v all e h = ap (λ (x : Read ℕ). x.next) e
one_by s false v all e h = absurd (omega (arith, ap (λ (x : Read ℕ). x.value) e, h))

-- the first bit, where it is one: it is what the header's first field reads, and the cursor behind it has no fault
module _ (s : List ℕ) (b : Cursor) (all : Read ℕ) (pb : b ≡ start 0) (pa : all ≡ field s true bool 0 b) (one : all.value ≡ 1) where
  one_read : ◌≡◌ {A = Read ℕ} (record { value = 1; next = all.next }) (field s true bool 1 (start 0))
  unfolding field
  one_read = ap (λ (v : ℕ). record { value = v; next = all.next }) (sym one) ∙ rw pb at pa

  behind_one : all.next ≡ start 1
  unfolding field run
  behind_one = one_by s (there s 0 1) (bits_at s 0 1) all (rw pb at pa) one

-- what was judged first: a refusal that is handed on, or none
refused_by : {A : Type 0} (r e : Refusal) (a : A) (b : Bool) → eqb r.number 0 ≡ b → ◌≡◌ {A = Result A Refusal} (pick b (Ok a) (Err r)) (Err e) → (r ≡ e) × (b ≡ false)
refused_by r e a true h q = cc
refused_by r e a false h q = (cc, refl)

accepted_by : {A : Type 0} (r : Refusal) (a x : A) (b : Bool) → eqb r.number 0 ≡ b → ◌≡◌ {A = Result A Refusal} (pick b (Ok a) (Err r)) (Ok x) → b ≡ true
accepted_by r a x true h q = refl
accepted_by r a x false h q = cc

module _ (f : Facts) (s name upsampling blending : List ℕ) where
  abbrev before : Refusal
  before = judged (length s) f (length name) (length upsampling) (length blending)

  -- refused before anything was read
  pub refused_first : {A : Type 0} (t : A) (e : Refusal) → ◌≡◌ {A = Result A Refusal} (or_refused before t) (Err e) → Headed f s (Err e) name name upsampling upsampling blending blending
  unfolding answered
  refused_first t e q =
      let by = refused_by before e t (eqb before.number 0) refl q in
      let no : eqb before.number 0 ≡ false = by.1 in
      record { answer = ap refused_header (sym by.0) ∙ rw (no, no); named = rw (no, no); upsampled = rw (no, no); blended = rw (no, no) }

  module _ {A : Type 0} (t u : A) (go : ◌≡◌ {A = Result A Refusal} (or_refused before t) (Ok u)) where
    yes : eqb before.number 0 ≡ true
    yes = accepted_by before t u (eqb before.number 0) refl go

    -- the header is the bit that says all default
    pub default_all : (b : Cursor) (all : Read ℕ) (r : Result HeaderRead Refusal) (upsampling' blending' : List ℕ) → b ≡ start 0 → all ≡ field s true bool 0 b → all.value ≡ 1
        → Defaulted f all.next.at r upsampling upsampling' blending blending' → Headed f s r name name upsampling upsampling' blending blending'
    unfolding answered
    default_all b all r upsampling' blending' pb pa one d =
        let is = header_off f s all.next (one_read s b all pb pa one) in
        let ok : eqb all.next.fault.number 0 ≡ true = ap (λ (c : Cursor). eqb c.fault.number 0) (behind_one s b all pb pa one) in
        record {
          answer = d.answer ∙ rw (yes, is, ok);
          named = rw (yes, is, ok);
          upsampled = d.upsampled ∙ rw (yes, is, ok);
          blended = d.blended ∙ rw (yes, is, ok);
        }

    module _ (a : FrontRead) (b : BackRead) (w w' x x' : List ℕ) (fa : Fronted f s a w w')
        (fb : Backed f a.value.opening a.value.placement s a.next b x x')
      where
        is : (stands f s).next ≡ b.next
        is = ap (λ (o : Read Header). o.next) (header_law f s a b w w' x x' fa fb)

        -- refused while it was read
        pub refused_later : (b.next.fault.number ≡ 0 → ⊥) → Headed f s (Err b.next.fault) name name upsampling upsampling blending blending
        unfolding answered
        refused_later h =
            let no : eqb b.next.fault.number 0 ≡ false = ne_eqb b.next.fault.number 0 h in
            record { answer = rw (yes, is, no); named = rw (yes, is, no); upsampled = rw (yes, is, no); blended = rw (yes, is, no) }

        -- accepted
        pub accepted_all : b.next.fault.number ≡ 0 → (r : Result HeaderRead Refusal) (name' upsampling' blending' : List ℕ) → Filled f s a b r name name' upsampling upsampling' blending blending'
            → Headed f s r name name' upsampling upsampling' blending blending'
        unfolding answered
        accepted_all h r name' upsampling' blending' fl =
            let ok : eqb b.next.fault.number 0 ≡ true = eq-eqb b.next.fault.number 0 h in
            let all = header_law f s a b w w' x x' fa fb in
            record {
              answer = fl.answer ∙ rw (yes, all, ok);
              named = fl.named ∙ rw (yes, all, ok);
              upsampled = fl.channels.upsampled ∙ rw (yes, all, ok);
              blended = fl.channels.blended ∙ rw (yes, all, ok);
            }

-- there is an answer just where what is told has no refusal's number
told_number : (r : Refusal) (x : HeaderTold) (b : Bool) → x.given ≡ true → x.refusal.number ≡ 0 → eqb r.number 0 ≡ b
    → (pick b x (refused_header r)).given ≡ eqb (pick b x (refused_header r)).refusal.number 0
unfolding refused_header
told_number r x true g z e = rw (g, z)
told_number r x false g z e = sym e

pub headed_number : (f : Facts) (s : List ℕ) (r : Result HeaderRead Refusal) (name name' upsampling upsampling' blending blending' : List ℕ)
    → Headed f s r name name' upsampling upsampling' blending blending' → (told r).given ≡ eqb (told r).refusal.number 0
unfolding answered
headed_number f s r name name' upsampling upsampling' blending blending' h =
    let own = refusal_of (judged (length s) f (length name) (length upsampling) (length blending)) (stands f s) in
    rw h.answer (told_number own _ (eqb own.number 0) refl refl refl)

-- what a table of eight words for the upsampling and one of 32 for the blending keep of up to eight extra channels
pub kept_by : (f : Facts) (s : List ℕ) (a : FrontRead) (b : BackRead) (w w' x x' : List ℕ) → length w ≡ 8 → length x ≡ 32 → Fronted f s a w w'
    → Backed f a.value.opening a.value.placement s a.next b x x' → ChannelsKept f s a b w' x'
kept_by f s a b w w' x x' hw hx fa fb =
    let ups = upsampling_from f a.value.opening s a.upsampling_at in
    let channels = words (blending_from f a.value.opening a.value.placement b.value.blending.mode s b.blending_at) in
    let many : length ups ≡ f.extra = times_length f.extra 0 _ s a.upsampling_at in
    let more : length channels ≡ 4 * f.extra = words_length _ ∙ ap (λ (n : ℕ). 4 * n) (times_length f.extra 0 _ s b.blending_at) in
    record {
      room = (ap length fa.table ∙ length-sets w 0 ups ∙ hw, ap length fb.table ∙ length-sets x 0 channels ∙ hx);
      upsampled = λ low. ap (take f.extra) fa.table ∙ in_front ups w f.extra many (omega (arith, low, hw));
      blended = λ low. ap (take (4 * f.extra)) fb.table ∙ in_front channels x (4 * f.extra) more (omega (arith, low, hx));
    }

-- the extra channels, buffer_after or read again
module _ (f : Facts) (s : List ℕ) (a : FrontRead) (b : BackRead) (upsampling upsampling' blending blending' : List ℕ) where
  pub given_kept : (ups channels : List ℕ) → ChannelsKept f s a b ups channels → f.extra ≤ 8 → upsampling' ≡ sets upsampling 0 (take f.extra ups)
      → blending' ≡ sets blending 0 (take (4 * f.extra) channels) → ChannelsGiven f s a b upsampling upsampling' blending blending'
  given_kept ups channels k low eu eb = record { upsampled = eu ∙ ap (sets upsampling 0) (k.upsampled low); blended = eb ∙ ap (sets blending 0) (k.blended low) }

  pub given_read : (w e : Cursor)
      → Arrayed (u32 upsamplings) (sent_upsampling f a.value.opening) f.extra 1 s a.upsampling_at w upsampling upsampling'
      → Extras (sends_blending a.value.opening) f.extra (covers_image f a.value.placement) (source_decider f b.value.blending.mode) s b.blending_at e blending blending'
      → ChannelsGiven f s a b upsampling upsampling' blending blending'
  given_read w e wu we = record { upsampled = wu.words; blended = we.content }

  -- the record and the arrays of what was read
  pub filled_by : (hd : FrameHeader) (name name' : List ℕ) (n : Cursor) → numbers_of hd ≡ header_of f a.value b.value
      → ChannelsGiven f s a b upsampling upsampling' blending blending'
      → Arrayed (u 8) b.value.closing.name_length b.value.closing.name_length 0 s b.name_at n name name'
      → Filled f s a b (Ok (record { header = hd; end = b.next.at })) name name' upsampling upsampling' blending blending'
  filled_by hd name name' n eh g wn = record { answer = rw eh; named = wn.words; channels = g }

-- the record of what was read
pub assembled : (f : Facts) (a : Front) (b : Back) (k : FrameType) (e : Encoding) (ch : ℕ) (x y : ℤ) (i : BlendingInfo) (full r : Bool)
    → frame_type_number k ≡ a.opening.frame_type → encoding_number e ≡ a.opening.encoding → ch ≡ color_channels f a.opening
    → x ≡ signed a.placement.x0 → y ≡ signed a.placement.y0 → info_numbers i ≡ blending_of b.blending → full ≡ covers_image f a.placement → r ≡ (eqb b.blending.mode 0 && full)
    → ◌≡◌ {A = HeaderNumbers} (numbers_of (record {
      frame_type = k;
      encoding = e;
      flags = record { 0 = a.opening.flags };
      do_ycbcr = eqb a.opening.do_ycbcr 1;
      encoded_color_channels = ch;
      jpeg_upsampling = a.opening.jpeg0 ∷ a.opening.jpeg1 ∷ a.opening.jpeg2 ∷ [];
      upsampling = a.opening.upsampling;
      group_size_shift = a.scales.group_size_shift;
      x_qm_scale = a.scales.x_qm_scale;
      b_qm_scale = a.scales.b_qm_scale;
      passes = a.passes;
      lf_level = a.placement.lf_level;
      have_crop = eqb a.placement.have_crop 1;
      x0 = x;
      y0 = y;
      width = a.placement.width;
      height = a.placement.height;
      blending_info = i;
      duration = b.closing.duration;
      timecode = b.closing.timecode;
      is_last = eqb b.closing.is_last 1;
      save_as_reference = b.closing.save_as_reference;
      resets_canvas = r;
      save_before_ct = eqb b.closing.save_before_ct 1;
      name_length = b.closing.name_length;
      restoration_filter = b.filter;
    })) (header_of f a b)
unfolding header_of
assembled f a b k e ch x y i full r pk pe pc px py pi pf pr = rw (pk, pe, pc, px, py, pi, pr, pf)

pub info_is : (b : Blending) (m : BlendMode) → blend_mode_number m ≡ b.mode
    → info_numbers (record { mode = m; alpha_channel = b.alpha_channel; clamp = eqb b.clamp 1; source = b.source }) ≡ blending_of b
info_is b m e = rw e

-- the record's enums name what was read: u(2), u(1) and a mode below 5
opening_named : (f : Facts) (s : List ℕ) (c : Cursor) → ((read (opening f) s c).value.frame_type < 4) × ((read (opening f) s c).value.encoding < 2)
unfolding opening read
opening_named f s c = (bits_small s _ 2 0 _ (omega arith) (omega arith), bits_small s _ 1 0 _ (omega arith) (omega arith))

blending_named : (on extra full : Bool) (d : Decider) (s : List ℕ) (c : Cursor) → (read (blending on extra full d) s c).value.mode < 5
unfolding blending read
blending_named on extra full d s c = case_small s on modes 5 0 c (omega arith) (omega arith)

pub header_named : (f : Facts) (s : List ℕ) (a : FrontRead) (b : BackRead) (w w' x x' : List ℕ) → Fronted f s a w w' → Backed f a.value.opening a.value.placement s a.next b x x'
    → Named a.value b.value
header_named f s a b w w' x x' fa fb =
    let first : a.value.opening ≡ (read (opening f) s (start 0)).value =
    ap (λ (v : Front). v.opening) (sym fa.value) ∙ ap (λ (o : Read Begun). o.value.front.opening) (front_read f s (start 0)).is in
    let last : b.value.blending ≡ _ =
    ap (λ (v : Back). v.blending) (sym fb.value)
    ∙ ap (λ (o : Read Ended). o.value.back.blending) (back_read f a.value.opening a.value.placement s a.next).is in
    record {
      type = rw first (opening_named f s (start 0)).0;
      encoding = rw first (opening_named f s (start 0)).1;
      mode = rw last (blending_named _ _ _ _ s a.next);
    }

-- and those of the defaults are named
pub default_named : (f : Facts) (a : Front) (b : Back) → a ≡ default_front f → b ≡ default_back → Named a b
unfolding default_front default_back
default_named f a b ea eb = rw (ea, eb) (record { type = omega arith; encoding = omega arith; mode = omega arith })
