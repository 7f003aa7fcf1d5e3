-- Laws of the walk over the sizes: how large a size is, what a turn of the walk adds, and that the walk is the reading of the table of fields.
use Rattle.std.proofs.Common.{◌≡◌, ℕ, zero, suc, ◌+◌, ◌*◌, ◌%◌, ◌^◌, ◌<◌, ◌≤◌, Bool, true, eqb, List, ◌∷◌, length, get_or, take, set, sym, refl, ap, ◌∙◌, add-zero, add-one, arith, lit≤}
use native.Mathlib.Nat.{mod-le}
use Rattle.bits.specs.declared.Read.{Read}
use Rattle.bits.specs.declared.Cursor.{Cursor}
use Rattle.bits.specs.declared.Choice.{Choice}
use Rattle.bits.specs.Refusals.{clear, start as start_at}
use Rattle.bits.specs.Bits.{bits_at, there}
use Rattle.bits.specs.Steps.{run}
use Rattle.bits.specs.Codec.{u32, padding, field, chosen}
use Rattle.bits.specs.Table.{ends, row, read, bind, times}
use Rattle.bits.proofs.Bits.{bits_lt}
use Rattle.bits.proofs.Tables.{read_bind}
use Rattle.bits.proofs.Reading.{of_both}
use Rattle.order.specs.Tables.{tabulate}
use Rattle.order.specs.Sums.{sum_to}
use Rattle.order.proofs.Tables.{tabulate_ext}
use Rattle.order.proofs.Placed.{Placing, placing_more}
use Rattle.toc.specs.declared.reading.Pair.{Pair}
use Rattle.toc.specs.declared.reading.Walk.{Walk}
use Rattle.toc.specs.Sizes.{size_choices, size_row, size_rows}
use Rattle.toc.specs.Private.{cursor_at, size_at, offset_at, Two, padded, summed, walked}

-- a size is below 4211712 + 2^30
pub choice_small : (k : ℕ) → (chosen size_choices k).base + 2 ^ (chosen size_choices k).bits ≤ 1077953536
choice_small k =
    of_both (λ (c : Choice). c.base + 2 ^ c.bits ≤ 1077953536) (eqb k 0) _ _ (lit≤ tt)
    (of_both (λ (c : Choice). c.base + 2 ^ c.bits ≤ 1077953536) (eqb k 1) _ _ (lit≤ tt)
    (of_both (λ (c : Choice). c.base + 2 ^ c.bits ≤ 1077953536) (eqb k 2) _ _ (lit≤ tt) (lit≤ tt)))

pub field_small : (s : List ℕ) (c : Cursor) → (field s true (u32 size_choices) 0 c).value < 1077953536
unfolding field run
field_small s c =
    let p : ℕ = c.at in
    let k : ℕ = bits_at s p 2 in
    let ch : Choice = chosen size_choices k in
    let x : ℕ = bits_at s (p + 2) ch.bits in
    let low : (ch.base + x) % 2 ^ 32 < 1077953536 =
    omega (arith, mod-le (ch.base + x) (2 ^ 32), bits_lt s (p + 2) ch.bits, choice_small k) in
    of_both (λ (r : Read ℕ). r.value < 1077953536) (clear c) _ _
    (of_both (λ (r : Read ℕ). r.value < 1077953536) (there s p 2) _ _
    (of_both (λ (r : Read ℕ). r.value < 1077953536) (there s (p + 2) ch.bits) _ _ low (lit≤ tt))
    (lit≤ tt))
    (lit≤ tt)

pub size_small : (s : List ℕ) (c : Cursor) (k : ℕ) → size_at s c k < 1077953536
unfolding size_at
size_small s c k = field_small s (cursor_at s c k)

pub sum_small : (s : List ℕ) (c : Cursor) (k : ℕ) → sum_to k (size_at s c) ≤ k * 1077953535
unfolding sum_to
sum_small s c zero = omega arith
sum_small s c (suc k) = omega (arith, sum_small s c k, size_small s c k)

-- a walk that has passed k sizes: where it stands, and a start with their sum added
pub record Walking (s : List ℕ) (first : Cursor) (start : ℕ) (at : Cursor) (k sum : ℕ) : Type 0 where
  pub place : at ≡ cursor_at s first k
  pub total : sum ≡ offset_at s first start k

pub walking_none : (s : List ℕ) (first : Cursor) (start : ℕ) → Walking s first start first 0 start
unfolding cursor_at offset_at sum_to
walking_none s first start = record { place = refl; total = sym (add-zero start) }

module _ (s : List ℕ) (first : Cursor) (start : ℕ) (at : Cursor) (k sum : ℕ) (w : Walking s first start at k sum) (x : Read ℕ) (e : x ≡ field s true (u32 size_choices) 0 at) where
  pub walking_size : x.value ≡ size_at s first k
  unfolding size_at
  walking_size = ap (λ (f : Read ℕ). f.value) e ∙ ap (λ (c : Cursor). (field s true (u32 size_choices) 0 c).value) w.place

  pub walking_more : Walking s first start x.next (k + 1) (sum + x.value)
  unfolding cursor_at offset_at sum_to
  walking_more = record {
    place = rw (add-one k) (ap (λ (f : Read ℕ). f.next) e ∙ ap (λ (c : Cursor). (field s true (u32 size_choices) 0 c).next) w.place);
    total = rw (add-one k) (omega (arith, w.total, walking_size));
  }

  pub walking_fits : start ≤ 2305843009213693952 → k < 4294967296 → sum + x.value < 2 ^ 64
  unfolding offset_at
  walking_fits h l = omega (arith, w.total, walking_size, size_small s first k, sum_small s first k)

-- two sizes that were read at once are two turns
module _ (s : List ℕ) (first : Cursor) (start : ℕ) (at : Cursor) (k sum : ℕ) (w : Walking s first start at k sum) (on : Bool) (p : Pair) (t : Two s at on p) where
  abbrev one : Read ℕ
  one = field s true (u32 size_choices) 0 at

  abbrev other : Read ℕ
  other = record { value = p.second; next = start_at p.at }

  pub pair_between : Walking s first start one.next (k + 1) (sum + p.first)
  pair_between = rw t.first (walking_more s first start at k sum w one refl)

  pub pair_first : p.first ≡ size_at s first k
  pair_first = t.first ∙ walking_size s first start at k sum w one refl

  pub pair_second : p.second ≡ size_at s first (k + 1)
  pair_second = walking_size s first start one.next (k + 1) (sum + p.first) pair_between other t.second

  pub pair_first_fits : start ≤ 2305843009213693952 → k < 4294967296 → sum + p.first < 2 ^ 64
  pair_first_fits h l = rw t.first (walking_fits s first start at k sum w one refl h l)

  pub pair_second_fits : start ≤ 2305843009213693952 → k + 1 < 4294967296 → sum + p.first + p.second < 2 ^ 64
  pair_second_fits h l = walking_fits s first start one.next (k + 1) (sum + p.first) pair_between other t.second h l

  pub pair_more : (b : Cursor) → b ≡ start_at p.at → Walking s first start b (k + 2) (sum + p.first + p.second)
  pair_more b eb =
      let turns : k + 1 + 1 ≡ k + 2 = omega arith in
      rw (eb, ← turns) (walking_more s first start one.next (k + 1) (sum + p.first) pair_between other t.second)

-- a turn that fills: a word of number k is written at its section, and two such turns at once
module _ (g : ℕ → ℕ) (l : List ℕ) (count k : ℕ) (before table : List ℕ) (p : Placing g (take count l) before table k) where
  pub turn_more : k < count → k < length l → (next : List ℕ) (v : ℕ) → next ≡ set table (get_or l k 0) v → v ≡ g k → Placing g (take count l) before next (k + 1)
  turn_more low there next v e ev = placing_more g l count before table k p next low there (e ∙ ap (set table (get_or l k 0)) ev)

pub turn_two : (g : ℕ → ℕ) (l : List ℕ) (count k : ℕ) (before table : List ℕ) → Placing g (take count l) before table k → k + 1 < count → k + 1 < length l → (t1 t2 : List ℕ) (v1 v2 : ℕ)
    → t1 ≡ set table (get_or l k 0) v1 → t2 ≡ set t1 (get_or l (k + 1) 0) v2 → v1 ≡ g k → v2 ≡ g (k + 1) → Placing g (take count l) before t2 (k + 2)
turn_two g l count k before table p low there t1 t2 v1 v2 e1 e2 a b =
    let turns : k + 1 + 1 ≡ k + 2 = omega arith in
    rw (← turns) (turn_more g l count (k + 1) before t1 (turn_more g l count k before table p (omega arith) (omega arith) t1 v1 e1 a) low there t2 v2 e2 b)

-- what the walk over the sizes comes to, and the walk between its paddings
pub sum_done : (s : List ℕ) (first : Cursor) (count : ℕ) (at : Cursor) (k total : ℕ) → k ≤ count → count ≤ k → Walking s first 0 at k total
    → ◌≡◌ {A = Read ℕ} (record { value = total; next = at }) (summed s first count)
unfolding summed offset_at
sum_done s first count at k total low high w =
    let same : k ≡ count = omega arith in
    let sum : total ≡ sum_to k (size_at s first) = omega (arith, w.total) in
    rw (← same, ← sum, ← w.place)

pub walk_done : (s : List ℕ) (c : Cursor) (count : ℕ) (first : Cursor) (x : Read ℕ) (last : Cursor) → first ≡ padded s c → x ≡ summed s first count → last ≡ padded s x.next
    → ◌≡◌ {A = Walk} (record { first = first; last = last; total = x.value }) (walked s c count)
unfolding walked summed
walk_done s c count first x last ef ex el = rw (el, ex, ef)

-- the walk begun one size later
cursor_later : (s : List ℕ) (c : Cursor) (k : ℕ) → cursor_at s c (suc k) ≡ cursor_at s (field s true (u32 size_choices) 0 c).next k
unfolding cursor_at
cursor_later s c zero = refl
cursor_later s c (suc k) = ap (λ (d : Cursor). (field s true (u32 size_choices) 0 d).next) (cursor_later s c k)

size_later : (s : List ℕ) (c : Cursor) (k : ℕ) → size_at s c (suc k) ≡ size_at s (field s true (u32 size_choices) 0 c).next k
unfolding size_at
size_later s c k = ap (λ (d : Cursor). (field s true (u32 size_choices) 0 d).value) (cursor_later s c k)

size_first : (s : List ℕ) (c : Cursor) → (field s true (u32 size_choices) 0 c).value ≡ size_at s c 0
unfolding size_at cursor_at
size_first s c = refl

-- the rows of the sizes are read as the walk reads them
pub times_read : (n i : ℕ) (s : List ℕ) (c : Cursor)
    → ◌≡◌ {A = Read (List ℕ)} (read (times n i size_row) s c) (record { value = tabulate n (size_at s c); next = cursor_at s c n })
unfolding read bind times tabulate cursor_at
times_read zero i s c = refl
times_read (suc n) i s c =
    let f : Read ℕ = field s true (u32 size_choices) 0 c in
    let rest = times_read n (suc i) s f.next in
    let words : tabulate n (size_at s f.next) ≡ tabulate n (λ k. size_at s c (suc k)) = tabulate_ext n _ _ (λ k h. sym (size_later s c k)) in
    let head : f.value ≡ size_at s c 0 = size_first s c in
    read_bind (times n (suc i) size_row) (λ (l : List ℕ). ends (f.value ∷ l)) s f.next
    ∙ rw (rest, words, ← cursor_later s c n, head)

pub rows_read : (s : List ℕ) (c : Cursor) (count : ℕ)
    → ◌≡◌ {A = Read (List ℕ)} (read (size_rows count) s c) (record { value = tabulate count (size_at s (padded s c)); next = (walked s c count).last })
unfolding read size_rows walked
rows_read s c count =
    read_bind (times count 0 size_row) (λ (sizes : List ℕ). row true padding 0 (λ r. 0) λ q. ends sizes) s (padded s c)
    ∙ rw (times_read count 0 s (padded s c))
