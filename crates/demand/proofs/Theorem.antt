-- The proof of demand 3, and the theorem: whatever the bytes, the frame, the place and the lent tables, if an entry answers a table, all of it holds.
use Rattle.sections.specs.Lookups.{PlaceAnswer}
use Rattle.order.specs.Numbers.{SectionAnswer, SentAnswer}
use Prim.Native.Nat.{ℕ, ◌<◌}
use native.Mathlib.Omega.{arith}
use native.Mathlib.Decide.{ℕ_discrete}
use mathlib.Core.Path.{◌≡◌, sym, ◌∙◌, ap}
use mathlib.Core.List.{List}
use mathlib.Core.Logic.{by_cases}
use lib.ListN.{get_or}
use Rattle.bits.specs.declared.Refusal.{Refusal}
use Rattle.bits.specs.Refusals.{none}
use Rattle.bits.proofs.Answered.{answered_yes, answered_ok}
use Rattle.grid.specs.declared.Frame.{Frame}
use Rattle.grid.specs.Sizes.{up, color_width, color_height, group_side}
use Rattle.grid.specs.Measured.{grid_of}
use Rattle.grid.specs.Groups.{index_at}
use Rattle.order.specs.Numbers.{SentAnswer, SectionAnswer}
use Rattle.order.specs.Tables.{identity, inverse_of}
use Rattle.order.proofs.Reach.{order_below}
use Rattle.order.proofs.Inverse.{inverse_order, inverse_there}
use Rattle.sections.specs.declared.KindNumbers.{KindNumbers}
use Rattle.sections.specs.Lookups.{section_of_sample}
use Rattle.sections.specs.Kinds.{KindTold, kind_of}
use Rattle.toc.specs.declared.Toc.{Toc}
use Rattle.toc.specs.Reading.{Table, Tables, tables, Reading, first_reading, second_reading, Done}
use Rattle.toc.proofs.Accepted.{first_accepted, same_answer, first_telling, second_telling}
use Rattle.c_words.proofs.Plain.{plain_rect}
use Rattle.theorems.proofs.Orders.{inverse_back}
use Rattle.theorems.proofs.Tables.{second_accepted}
use Rattle.theorems.proofs.Demand.{Holds, Demand, first_written, second_written}
use Rattle.demand.specs.Whole.{colour_width, colour_height, group_rect, found, place_in, sent_in, section_in, numbered, ThereAndBack, Lies, OneSection, Covers, OneRectangle, Found, Answered, Whole}
use Rattle.demand.proofs.Lookups.{Ready, ready, sent_is, section_is, place_is, starts, width_answer, height_answer, some_sample, width_is, height_is, covered, covers, clipped_in}

-- All is no GroupPass
module _ (f : Frame) (toc : Toc) (due sent : List ℕ) (t : Tables) (r : Ready f toc due sent t) (d : Demand f toc due sent t) where
  -- ---- there and back

  abbrev inverse : List ℕ
  inverse = inverse_of toc.count due

  sent_low : (j : ℕ) → j < toc.count → get_or due j 0 < toc.count
  sent_low j l = order_below toc.count due r.order j l

  section_low : (k : ℕ) → k < toc.count → get_or inverse k 0 < toc.count
  section_low k l = order_below toc.count inverse (inverse_order toc.count due r.order) k l

  there_back : ThereAndBack f toc due t
  there_back = record {
    from_section = λ j l.
        ap (λ (a : SentAnswer). section_in f toc t a.sent) (sent_is f toc due sent t r j l)
        ∙ section_is f toc due sent t r (record { 0 = get_or due j.0 0 }) (sent_low j.0 l)
        ∙ ap (λ (n : ℕ). record { section = record { 0 = n }; refusal = none }) (inverse_back toc.count due r.order j.0 l);
    from_sent = λ k l.
        ap (λ (a : SectionAnswer). sent_in f toc t a.section) (section_is f toc due sent t r k l)
        ∙ sent_is f toc due sent t r (record { 0 = get_or inverse k.0 0 }) (section_low k.0 l)
        ∙ ap (λ (n : ℕ). record { sent = record { 0 = n }; refusal = none }) (inverse_there toc.count due r.order k.0 l);
    sent = sent_is f toc due sent t r;
    sent_below = λ j l. rw (ap (λ (a : SentAnswer). a.sent.0) (sent_is f toc due sent t r j l)) (sent_low j.0 l);
    section = λ k l. ap (λ (a : SectionAnswer). a.refusal) (section_is f toc due sent t r k l);
    section_below = λ k l. rw (ap (λ (a : SectionAnswer). a.section.0) (section_is f toc due sent t r k l)) (section_low k.0 l);
  }

  -- ---- bytes: a byte lies in a section by `section_at` where it does by the tables' words

  lies : (b j : ℕ) → Holds toc t b j → Lies f toc t b j
  lies b j h =
      let e = place_is f toc due sent t r (numbered j) h.section in
      let o : (place_in f t (numbered j)).offset ≡ get_or t.offsets j 0 = ap (λ (p : PlaceAnswer). p.offset) e in
      let z : (place_in f t (numbered j)).size ≡ get_or t.sizes j 0 = ap (λ (p : PlaceAnswer). p.size) e in
      record { section = h.section; from = omega (arith, h.from); to = omega (arith, h.to) }

  holds : (b j : ℕ) → Lies f toc t b j → Holds toc t b j
  holds b j h =
      let e = place_is f toc due sent t r (numbered j) h.section in
      let o : (place_in f t (numbered j)).offset ≡ get_or t.offsets j 0 = ap (λ (p : PlaceAnswer). p.offset) e in
      let z : (place_in f t (numbered j)).size ≡ get_or t.sizes j 0 = ap (λ (p : PlaceAnswer). p.size) e in
      record { section = h.section; from = omega (arith, h.from); to = omega (arith, h.to) }

  bytes : OneSection f toc t
  bytes =
      let one = d.one_byte_one_section in
      record {
        each_byte = λ b from to.
            let at = one.some b from to in
            record { one = at.0; has = lies b at.0 at.1; only = λ j h. one.only b j at.0 (holds b j h) at.1 };
        no_other = λ b j h. one.within b j (holds b j h);
      }

  -- ---- samples

  abbrev grouped : ℕ → ℕ → ℕ
  grouped x y = index_at (up (color_width f) (group_side f)) (group_side f) x y

  covered_by : (x y : ℕ) → x < color_width f → y < color_height f → Covers f x y (grouped x y)
  covered_by x y hx hy =
      let e = d.one_sample_one_rectangle in
      covers f r.frame x y (grouped x y) (e.there x y hx hy) (e.inside x y hx hy)

  samples : OneRectangle f
  samples =
      let e = d.one_sample_one_rectangle in
      record {
        width = width_answer f r.frame;
        height = height_answer f r.frame;
        some = some_sample f r.frame;
        each_sample = λ x y hx hy.
            let has = covered_by x y (omega (arith, width_is f r.frame)) (omega (arith, height_is f r.frame)) in
            record {
              one = grouped x y;
              has = has;
              only = λ i h. e.only x y i (grouped x y) (covered f r.frame x y i h) (covered f r.frame x y (grouped x y) has);
            };
        no_other = λ x y i h.
            let at = clipped_in f r.frame (color_width f) (color_height f) (group_side f) i x y (covered f r.frame x y i h) in
            (omega (arith, at.0, width_is f r.frame), omega (arith, at.1, height_is f r.frame));
      }

  found_due : (x y pass : ℕ) → x < (colour_width f).value → y < (colour_height f).value → pass < f.num_passes → Found f toc sent t x y pass
  found_due x y pass hx hy hp =
      let wx : x < color_width f = omega (arith, width_is f r.frame) in
      let wy : y < color_height f = omega (arith, height_is f r.frame) in
      let at = d.found_where_sent x y pass wx wy hp in
      record {
        answered = at.answered;
        section = at.section;
        all = at.all;
        all_only = λ e.
            by_cases (ℕ_discrete toc.count 1)
            (λ one. one)
            (λ several.
            let is = at.group several (grouped x y) (d.one_sample_one_rectangle.inside x y wx wy) in
            absurd (let z : ◌≡◌ {A = ℕ} 4 0 = sym (ap (λ (a : KindTold). a.numbers.kind) is) ∙ ap (λ (k : KindNumbers). k.kind) e in omega arith));
        group = λ several i h. at.group several i (covered f r.frame x y i h);
        starts = starts f toc due sent t r (found f x y pass) at.section;
      }

  -- ---- the answers themselves

  -- of what is found the kind is answered, too
  found_kind : (x y pass : ℕ) → x < (colour_width f).value → y < (colour_height f).value → pass < f.num_passes
      → (kind_of f (found f x y pass)).refusal.number ≡ 0
  found_kind x y pass hx hy hp =
      let wx : x < color_width f = omega (arith, width_is f r.frame) in
      let wy : y < color_height f = omega (arith, height_is f r.frame) in
      let at = d.found_where_sent x y pass wx wy hp in
      by_cases (ℕ_discrete toc.count 1)
      (λ one. ap (λ (a : KindTold). a.refusal.number) (at.all one))
      (λ several. ap (λ (a : KindTold). a.refusal.number) (at.group several (grouped x y) (d.one_sample_one_rectangle.inside x y wx wy)))

  answers : Answered f toc t
  answers = record {
    width = answered_yes (colour_width f).refusal (colour_width f).value r.frame;
    height = answered_yes (colour_height f).refusal (colour_height f).value r.frame;
    rect = λ i e. answered_yes (group_rect f i).refusal (group_rect f i).rect (ap (λ (x : Refusal). x.number) e);
    rect_only = λ i a e.
        let w = answered_ok (group_rect f i).refusal (group_rect f i).rect a e in
        (plain_rect f (grid_of f).side i w.0, w.1);
    place = λ j l.
        answered_yes (place_in f t j).refusal (record { offset = (place_in f t j).offset; size = (place_in f t j).size })
        (ap (λ (a : PlaceAnswer). a.refusal.number) (place_is f toc due sent t r j l));
    sent = λ j l.
        answered_yes (sent_in f toc t j).refusal (sent_in f toc t j).sent
        (ap (λ (a : SentAnswer). a.refusal.number) (sent_is f toc due sent t r j l));
    section = λ k l.
        answered_yes (section_in f toc t k).refusal (section_in f toc t k).section
        (ap (λ (a : SectionAnswer). a.refusal.number) (section_is f toc due sent t r k l));
    sample = λ x y pass hx hy hp.
        let at = d.found_where_sent x y pass (omega (arith, width_is f r.frame)) (omega (arith, height_is f r.frame)) hp in
        answered_yes (section_of_sample f x y pass).refusal (found f x y pass) (ap (λ (x : Refusal). x.number) at.answered);
    kind = λ x y pass hx hy hp.
        answered_yes (kind_of f (found f x y pass)).refusal (kind_of f (found f x y pass)).numbers (found_kind x y pass hx hy hp);
  }

  pub whole : Whole f toc due sent t
  whole = record {
    there_and_back = there_back;
    bytes = bytes;
    samples = samples;
    found_where_due = found_due;
    answered = answers;
    sections = starts f toc due sent t r;
  }

-- ---- the theorem, over any frame at any place

-- the same order by another name
due_order : (f : Frame) (toc : Toc) (l m sent : List ℕ) (t : Tables) → l ≡ m → Ready f toc l sent t → Ready f toc m sent t
due_order f toc l m sent t e x = rw (← e) x

-- the table that an entry answered is the reading's, for its number and values tell it whole
pub first_table : (s : List ℕ) (f : Frame) (place : ℕ) (t : Tables) (toc : Toc) (o z p i : List ℕ)
    → Done (first_reading s f place t) t (Table toc) o z p i → (first_reading s f place t).answer ≡ Table toc
first_table s f place t toc o z p i d = sym (same_answer (Table toc) (first_reading s f place t).answer (first_telling s f place t) d.answer)

pub second_table : (s : List ℕ) (f : Frame) (place : ℕ) (order : List ℕ) (t : Tables) (toc : Toc) (o z p i : List ℕ)
    → Done (second_reading s f place order t) t (Table toc) o z p i → (second_reading s f place order t).answer ≡ Table toc
second_table s f place order t toc o z p i d =
    sym (same_answer (Table toc) (second_reading s f place order t).answer (second_telling s f place t order) d.answer)

-- the first entry, by its promise: it answered a table, and left o, z, p, i in the four lent tables. The order that is due is the identity.
pub first_whole : (s : List ℕ) (f : Frame) (place : ℕ) (t : Tables) (toc : Toc) (o z p i : List ℕ)
    → Done (first_reading s f place t) t (Table toc) o z p i
    → Whole f toc (identity toc.count) (first_reading s f place t).sizes (tables o z p i)
first_whole s f place t toc o z p i d =
    let q : Reading = first_reading s f place t in
    let ok = first_accepted s f place t toc (first_table s f place t toc o z p i d) in
    whole f toc (identity toc.count) q.sizes (tables o z p i)
    (due_order f toc q.order (identity toc.count) q.sizes (tables o z p i) ok.1 (ready s f t toc q ok.0 o z p i d))
    (first_written s f place t toc o z p i d)

-- the second entry. The order that is due is the lent one.
pub second_whole : (s : List ℕ) (f : Frame) (place : ℕ) (order : List ℕ) (t : Tables) (toc : Toc) (o z p i : List ℕ)
    → Done (second_reading s f place order t) t (Table toc) o z p i
    → Whole f toc order (second_reading s f place order t).sizes (tables o z p i)
second_whole s f place order t toc o z p i d =
    let q : Reading = second_reading s f place order t in
    let ok = second_accepted s f place order t toc (second_table s f place order t toc o z p i d) in
    whole f toc order q.sizes (tables o z p i)
    (due_order f toc q.order order q.sizes (tables o z p i) ok.1 (ready s f t toc q ok.0 o z p i d))
    (second_written s f place order t toc o z p i d)
