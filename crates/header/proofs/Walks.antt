-- Laws of arrays: what is left of a walk over one is what its definition has left to read.
use Prim.Native.Nat.{ℕ, zero, suc, ◌+◌, ◌-◌, ◌*◌, ◌/◌, ◌%◌, ◌^◌, ◌≤◌, ◌<◌}
use native.Mathlib.Omega.{arith}
use native.Mathlib.Numerals.{add-one}
use mathlib.Core.Path.{◌≡◌, refl, sym, ◌∙◌, ap}
use mathlib.Core.List.{List, [], ◌∷◌, ◌++◌, append-nil}
use mathlib.Core.Logic.{by_cases}
use native.Mathlib.Decide.{dec_le}
use lib.Dec.{ltb, leb}
use borrow.Author.Tests.{lt-ltb, le-ltb, ltb-true, le-leb, lt-leb, leb-true, not-true, not-false}
use lib.ListN.{length, set, take, drop}
use lib.Seq.{sets, sets-eq, drop-length, take_at}
use Rattle.fill.proofs.Filling.{Filling, filling_none, filling_more, filling_all}
use Rattle.bits.specs.declared.Read.{Read}
use Rattle.bits.specs.declared.Cursor.{Cursor}
use Rattle.bits.specs.declared.pieces.Piece.{Piece}
use mathlib.Core.Bool.{Bool, true, false, not, ◌&&◌, false≢true}
use Rattle.std.proofs.Common.{Option, Some, None}
use Rattle.bits.specs.Refusals.{pick, start, clear}
use Rattle.bits.specs.Bits.{bits_at, bit_count, there}
use Rattle.bits.specs.Steps.{cut, cut_at, run, piece}
use Rattle.bits.specs.Codec.{Codec, u, field}
use Rattle.bits.specs.Table.{Table, ends, read, bind, times}
use Rattle.bits.proofs.Bits.{there_parts}
use Rattle.bits.proofs.Windows.{part_of}
use Rattle.bits.proofs.Tables.{read_bind}
use Rattle.bits.proofs.Columns.{times_any}
use Rattle.bits.proofs.Reading.{field_lt, fault_stays}
use Rattle.header.specs.declared.blending.Blending.{Blending}
use Rattle.header.specs.declared.blending.Decider.{Decider}
use Rattle.header.specs.Arrays.{element, array}
use Rattle.header.specs.Private.{Arrayed, Extras}
use Rattle.header.specs.Blending.{blending, words}

-- a table that repeats: its first element, then the others
pub times_first : {R A : Type 0} (m i : ℕ) (f : ℕ → Table R A) (s : List ℕ) (c : Cursor) (o : Read A) → o ≡ read (f i) s c
    → ◌≡◌ {A = Read (List A)} (read (times (suc m) i f) s c) (record { value = o.value ∷ (read (times m (suc i) f) s o.next).value; next = (read (times m (suc i) f) s o.next).next })
unfolding times read
times_first {A = A} m i f s c o e =
    read_bind (f i) (λ a. bind (times m (suc i) f) λ rest. ends (a ∷ rest)) s c
    ∙ ap (λ (x : Read A). read (bind (times m (suc i) f) λ rest. ends (x.value ∷ rest)) s x.next) (sym e)
    ∙ read_bind (times m (suc i) f) (λ rest. ends (o.value ∷ rest)) s o.next

pub times_length : {R A : Type 0} (m i : ℕ) (f : ℕ → Table R A) (s : List ℕ) (c : Cursor) → length (read (times m i f) s c).value ≡ m
unfolding times read
times_length zero i f s c = refl
times_length {A = A} (suc m) i f s c =
    ap (λ (o : Read (List A)). length o.value) (times_first m i f s c (read (f i) s c) refl) ∙ ap suc (times_length m (suc i) f s (read (f i) s c).next)

abbrev here : Codec → ℕ → ℕ → ℕ → Table (List ℕ) ℕ
here k limit d = element k limit d (λ (x : List ℕ) (i : ℕ). 0)

element_is : (k : Codec) (limit d i : ℕ) (s : List ℕ) (c : Cursor) (f : Read ℕ) → f ≡ field s (ltb i limit) k d c
    → ◌≡◌ {A = Read ℕ} (record { value = f.value; next = f.next }) (read (here k limit d i) s c)
unfolding element read
element_is k limit d i s c f e = rw e

-- after i turns: the table and the cursor, and what is left to read
pub record Left (k : Codec) (limit count d : ℕ) (s before : List ℕ) (c : Cursor) (table : List ℕ) (at : Cursor) (i : ℕ) : Type 0 where
  pub within : i ≤ count
  pub words : Filling before 0 (read (times count 0 (here k limit d)) s c).value table i (read (times (count - i) i (here k limit d)) s at).value
  pub next : (read (times count 0 (here k limit d)) s c).next ≡ (read (times (count - i) i (here k limit d)) s at).next

module _ (k : Codec) (limit count d : ℕ) (s before : List ℕ) (c : Cursor) where
  pub left_none : Left k limit count d s before c before c 0
  left_none =
      let all : count - 0 ≡ count = omega arith in
      record { within = omega arith; words = rw all (filling_none before 0 _); next = rw all }

  module _ (table : List ℕ) (at : Cursor) (i : ℕ) (l : Left k limit count d s before c table at i) where
    pub left_more : i < count → (f : Read ℕ) (v : ℕ) (after : List ℕ) → f ≡ field s (ltb i limit) k d at → v ≡ f.value → after ≡ set table i v
        → Left k limit count d s before c after f.next (i + 1)
    left_more h f v after e ev ea =
        let less : count - i ≡ suc (count - (i + 1)) = omega arith in
        let one = times_first (count - (i + 1)) i (here k limit d) s at (record { value = f.value; next = f.next }) (element_is k limit d i s at f e) in
        let is = ap (λ (m : ℕ). read (times m i (here k limit d)) s at) less ∙ one in
        let rest = (read (times (count - (i + 1)) (i + 1) (here k limit d)) s f.next).value in
        let left : Filling before 0 (read (times count 0 (here k limit d)) s c).value table i (v ∷ rest) = rw (is, ← ev, ← add-one i) at l.words in
        record {
          within = omega arith;
          words = filling_more before 0 _ table i v rest after left ea;
          next = l.next ∙ ap (λ (o : Read (List ℕ)). o.next) is ∙ rw (add-one i);
        }

    pub left_all : count ≤ i → Arrayed k limit count d s c at before table
    unfolding times read
    left_all h =
        let none : count - i ≡ 0 = omega arith in
        record {
          next = sym (l.next ∙ ap (λ (m : ℕ). (read (times m i (here k limit d)) s at).next) none);
          words = filling_all before 0 _ table i (rw none at l.words);
        }

-- a table of just as many words as were read holds just those
pub sets_whole : (vs l : List ℕ) → length vs ≡ length l → sets l 0 vs ≡ vs
sets_whole vs l e =
    let all : 0 + length vs ≡ length l = omega arith in
    sets-eq vs l 0 (omega arith) ∙ ap (λ (n : ℕ). vs ++ drop n l) all ∙ ap (λ (r : List ℕ). vs ++ r) (drop-length l) ∙ append-nil vs

-- a table that has room for the words that were read has them in front
pub in_front : (vs l : List ℕ) (n : ℕ) → length vs ≡ n → n ≤ length l → take n (sets l 0 vs) ≡ vs
in_front vs l n e h = ap (take n) (sets-eq vs l 0 (omega arith)) ∙ take_at vs (drop (0 + length vs) l) n e

-- four words a channel
pub words_length : (bs : List Blending) → length (words bs) ≡ 4 * length bs
unfolding words
words_length [] = refl
words_length (b ∷ bs) =
    let four : suc (suc (suc (suc (4 * length bs)))) ≡ 4 * suc (length bs) = omega arith in
    ap (λ (n : ℕ). suc (suc (suc (suc n)))) (words_length bs) ∙ four

pub byte_lt : (s : List ℕ) (c : Cursor) (f : Read ℕ) → f ≡ field s true (u 8) 0 c → f.value < 256
byte_lt s c f e = rw e (field_lt s 8 c)

-- Bytes four at a time: 32 bits that are there are four bytes that are there.
byte_there : (s : List ℕ) (i limit : ℕ) (c : Cursor) → i < limit → clear c ≡ true → c.at + 8 ≤ bit_count s
    → ◌≡◌ {A = Read ℕ} (record { value = bits_at s c.at 8; next = start (c.at + 8) }) (field s (ltb i limit) (u 8) 0 c)
unfolding field run
byte_there s i limit c low ok room = rw (lt-ltb i limit low, ok, le-leb (c.at + 8) (bit_count s) room)

pub record Four (s : List ℕ) (c : Cursor) (left : ℕ) (x : Piece) : Type 0 where
  pub wanted : 4 ≤ left
  pub fine : clear c ≡ true
  pub room : c.at + 32 ≤ bit_count s
  pub value : x.value ≡ bits_at s c.at 32
  pub next : x.at ≡ c.at + 32

four_by : (s : List ℕ) (c : Cursor) (left : ℕ) (r : Option Piece) (x : Piece) (a b t : Bool) → leb 4 left ≡ a → clear c ≡ b → there s c.at 32 ≡ t
    → r ≡ pick (a && b) (piece s c.at 32) None → r ≡ Some x → Four s c left x
unfolding piece
four_by s c left r x true true true ea eb et er h =
    let is : ◌≡◌ {A = Option Piece} r (Some (record { value = bits_at s c.at 32; at = c.at + 32 })) = er ∙ rw et refl in
    let same : ◌≡◌ {A = Piece} x (record { value = bits_at s c.at 32; at = c.at + 32 }) = cc in
    record {
      wanted = leb-true 4 left ea;
      fine = eb;
      room = (there_parts s c.at 32 et).1;
      value = ap (λ (y : Piece). y.value) same;
      next = ap (λ (y : Piece). y.at) same;
    }
four_by s c left r x true true false ea eb et er h = let none : r ≡ None = er ∙ rw et refl in absurd cc
four_by s c left r x true false t ea eb et er h = absurd cc
four_by s c left r x false b t ea eb et er h = absurd cc

-- what was not taken, and what was
module _ (s : List ℕ) (c : Cursor) (left : ℕ) (i : Bool) (e : i ≡ not (leb 4 left && clear c)) where
  pub four_idle : i ≡ true → ◌≡◌ {A = Option Piece} None (pick (leb 4 left && clear c) (piece s c.at 32) None)
  four_idle h = rw (not-true (leb 4 left && clear c) (sym e ∙ h)) refl

  pub four_taken : i ≡ false → (r : Option Piece) → r ≡ piece s c.at 32 → r ≡ pick (leb 4 left && clear c) (piece s c.at 32) None
  four_taken h r er = rw (not-false (leb 4 left && clear c) (sym e ∙ h)) er

pub four_there : (s : List ℕ) (c : Cursor) (left : ℕ) (r : Option Piece) → r ≡ pick (leb 4 left && clear c) (piece s c.at 32) None → (x : Piece) → r ≡ Some x
    → Four s c left x
four_there s c left r er x = four_by s c left r x (leb 4 left) (clear c) (there s c.at 32) refl refl refl er

module _ (count : ℕ) (s before : List ℕ) (c : Cursor) where
  -- one byte more, of four that begin at p
  one_of : (table : List ℕ) (at : Cursor) (i : ℕ) → Left (u 8) count count 0 s before c table at i → i < count → clear at ≡ true → at.at + 8 ≤ bit_count s
      → (p k x v : ℕ) (after : List ℕ) → p + k ≡ at.at → k + 8 ≤ 32 → x ≡ bits_at s p 32 → v ≡ x / 2 ^ k % 256 → after ≡ set table i v
      → Left (u 8) count count 0 s before c after (start (at.at + 8)) (i + 1)
  one_of table at i l h ok room p k x v after ep hk ex ev ea =
      left_more (u 8) count count 0 s before c table at i l h _ v after (byte_there s i count at h ok room)
      (ev ∙ ap (λ (y : ℕ). y / 2 ^ k % 2 ^ 8) ex ∙ part_of s p 32 k 8 hk ∙ ap (λ (q : ℕ). bits_at s q 8) ep) ea

  module _ (table : List ℕ) (at : Cursor) (i : ℕ) (l : Left (u 8) count count 0 s before c table at i) (x : Piece) (four : Four s at (count - i) x) where
    pub left_four : (v0 v1 v2 v3 : ℕ) (t0 t1 t2 t3 : List ℕ) (b : Cursor)
        → v0 ≡ x.value % 256 → v1 ≡ x.value / 2 ^ 8 % 256 → v2 ≡ x.value / 2 ^ 16 % 256 → v3 ≡ x.value / 2 ^ 24 % 256
        → t0 ≡ set table i v0 → t1 ≡ set t0 (i + 1) v1 → t2 ≡ set t1 (i + 2) v2 → t3 ≡ set t2 (i + 3) v3 → b ≡ start x.at
        → Left (u 8) count count 0 s before c t3 b (i + 4)
    left_four v0 v1 v2 v3 t0 t1 t2 t3 b e0 e1 e2 e3 s0 s1 s2 s3 eb =
        let p : ℕ = at.at in
        let wanted : 4 ≤ count - i = four.wanted in
        let lowest : x.value / 2 ^ 0 ≡ x.value = omega arith in
        let room : p + 32 ≤ bit_count s = four.room in
        let l0 = one_of table at i l (omega arith) four.fine (omega arith) p 0 x.value v0 t0 (omega arith) (omega arith) four.value (rw lowest e0) s0 in
        let l1 = one_of t0 (start (p + 8)) (i + 1) l0 (omega arith) refl (omega arith) p 8 x.value v1 t1 refl (omega arith) four.value e1 s1 in
        let l2 = one_of t1 (start (p + 8 + 8)) (i + 1 + 1) l1 (omega arith) refl (omega arith) p 16 x.value v2 t2 (omega arith) (omega arith) four.value e2 (s2 ∙ ap (λ (j : ℕ). set t1 j v2) (omega arith)) in
        let l3 = one_of t2 (start (p + 8 + 8 + 8)) (i + 1 + 1 + 1) l2 (omega arith) refl (omega arith) p 24 x.value v3 t3 (omega arith) (omega arith) four.value e3 (s3 ∙ ap (λ (j : ℕ). set t2 j v3) (omega arith)) in
        let end : p + 8 + 8 + 8 + 8 ≡ x.at = omega (arith, four.next) in
        let turns : i + 1 + 1 + 1 + 1 ≡ i + 4 = omega arith in
        rw (eb, ← end, ← turns) l3

-- an array reads the same whatever record it stands in
pub array_any : {R R' : Type 0} (k : Codec) (limit d : ℕ) (col : R → ℕ → ℕ) (col' : R' → ℕ → ℕ) (count i : ℕ) (s : List ℕ) (c : Cursor)
    → read (times count i (element k limit d col)) s c ≡ read (times count i (element k limit d col')) s c
unfolding read element
array_any k limit d col col' count i s c = times_any (element k limit d col) (element k limit d col') s (λ j at. refl) count i c

-- a table of just count words, after an array of count elements
pub array_out : {R : Type 0} (k : Codec) (limit count d : ℕ) (col : R → ℕ → ℕ) (s : List ℕ) (c r : Cursor) (before after : List ℕ) → Arrayed k limit count d s c r before after
    → length before ≡ count → ◌≡◌ {A = Read (List ℕ)} (record { value = after; next = r }) (read (array k limit count d col) s c)
array_out k limit count d col s c r before after a e =
    let none : List ℕ → ℕ → ℕ = λ x i. 0 in
    let o = read (array k limit count d none) s c in
    let whole : sets before 0 o.value ≡ o.value = sets_whole o.value before (times_length count 0 (element k limit d none) s c ∙ sym e) in
    let vals : after ≡ o.value = a.words ∙ whole in
    let is : ◌≡◌ {A = Read (List ℕ)} (record { value = after; next = r }) o = rw (vals, a.next) in
    is ∙ array_any k limit d none col count 0 s c

-- one table, then another, from what the first gave
pub read_then : {R A B : Type 0} (t : Table R A) (f : A → Table R B) (s : List ℕ) (c : Cursor) (o : Read A) → o ≡ read t s c → read (bind t f) s c ≡ read (f o.value) s o.next
read_then t f s c o e = read_bind t f s c ∙ rw (← e)

-- extra channels: after i turns, four words each, what is left to read
abbrev each : Bool → Bool → Decider → ℕ → Table Blending Blending
each on full d i = blending on true full d

pub record LeftBlending (on : Bool) (n : ℕ) (full : Bool) (d : Decider) (s before : List ℕ) (c : Cursor) (table : List ℕ) (at : Cursor) (i : ℕ) : Type 0 where
  pub within : i ≤ n
  pub content : Filling before 0 (words (read (times n 0 (each on full d)) s c).value) table (i * 4) (words (read (times (n - i) i (each on full d)) s at).value)
  pub next : (read (times n 0 (each on full d)) s c).next ≡ (read (times (n - i) i (each on full d)) s at).next

module _ (on : Bool) (n : ℕ) (full : Bool) (d : Decider) (s before : List ℕ) (c : Cursor) where
  abbrev all : List ℕ
  all = words (read (times n 0 (each on full d)) s c).value

  pub blending_none : LeftBlending on n full d s before c before c 0
  blending_none =
      let whole : n - 0 ≡ n = omega arith in
      record { within = omega arith; content = rw whole (filling_none before 0 _); next = rw whole }

  module _ (table : List ℕ) (at : Cursor) (i : ℕ) (l : LeftBlending on n full d s before c table at i) where
    pub blending_more : i < n → (b : Read Blending) (t1 t2 t3 t4 : List ℕ) → b ≡ (read (blending on true full d) s at)
        → t1 ≡ set table (i * 4) b.value.mode → t2 ≡ set t1 (i * 4 + 1) b.value.alpha_channel → t3 ≡ set t2 (i * 4 + 2) b.value.clamp → t4 ≡ set t3 (i * 4 + 3) b.value.source
        → LeftBlending on n full d s before c t4 b.next (i + 1)
    unfolding words
    blending_more h b t1 t2 t3 t4 e e1 e2 e3 e4 =
        let less : n - i ≡ suc (n - (i + 1)) = omega arith in
        let o : Read Blending = record { value = b.value; next = b.next } in
        let eo : o ≡ read (blending on true full d) s at = ap (λ (r : Read Blending). record { value = r.value; next = r.next }) e in
        let is = ap (λ (m : ℕ). read (times m i (each on full d)) s at) less ∙ times_first (n - (i + 1)) i (each on full d) s at o eo in
        let after = words (read (times (n - (i + 1)) (i + 1) (each on full d)) s b.next).value in
        let v = b.value in
        let j : ℕ = i * 4 in
        let turn : j + 1 + 1 + 1 + 1 ≡ (i + 1) * 4 = omega arith in
        let two : j + 2 ≡ j + 1 + 1 = omega arith in
        let three : j + 3 ≡ j + 1 + 1 + 1 = omega arith in
        let f0 : Filling before 0 all table j (v.mode ∷ v.alpha_channel ∷ v.clamp ∷ v.source ∷ after) = rw (is, ← add-one i) at l.content in
        let f1 = filling_more before 0 all table j v.mode _ t1 f0 e1 in
        let f2 = filling_more before 0 all t1 (j + 1) v.alpha_channel _ t2 f1 e2 in
        let f3 = filling_more before 0 all t2 (j + 1 + 1) v.clamp _ t3 f2 (e3 ∙ ap (λ (k : ℕ). set t2 k v.clamp) two) in
        let f4 = filling_more before 0 all t3 (j + 1 + 1 + 1) v.source after t4 f3 (e4 ∙ ap (λ (k : ℕ). set t3 k v.source) three) in
        record { within = omega arith; content = rw turn at f4; next = l.next ∙ ap (λ (o : Read (List Blending)). o.next) is ∙ rw (add-one i) }

    pub blending_all : n ≤ i → Extras on n full d s c at before table
    unfolding times read words
    blending_all h =
        let none : n - i ≡ 0 = omega arith in
        record {
          next = sym (l.next ∙ ap (λ (m : ℕ). (read (times m i (each on full d)) s at).next) none);
          content = filling_all before 0 all table (i * 4) (rw none at l.content);
        }

-- a byte that begins at p is cut
abbrev pub byte_cut : List ℕ → ℕ → Cursor
byte_cut s p = (cut_at s p (p + 8)).next

abbrev cut_out : List ℕ → ℕ → Read ℕ
cut_out s p = record { value = 0; next = byte_cut s p }

cut_held : (s : List ℕ) (p : ℕ) → clear (byte_cut s p) ≡ false
unfolding cut
cut_held s p = refl

-- Bytes that are passed over: each is there or isn't, whatever it holds.
module _ (s : List ℕ) (limit : ℕ) where
  abbrev byte : ℕ → Table (List ℕ) ℕ
  byte = here (u 8) limit 0

  one_byte : (i : ℕ) (c : Cursor) → i < limit → clear c ≡ true → there s c.at 8 ≡ true → read (byte i) s c ≡ record { value = bits_at s c.at 8; next = start (c.at + 8) }
  unfolding element read field run
  one_byte i c low ok t = rw (lt-ltb i limit low, ok, t)

  no_byte : (i : ℕ) (c : Cursor) → i < limit → clear c ≡ true → there s c.at 8 ≡ false → read (byte i) s c ≡ cut_out s c.at
  unfolding element read field run
  no_byte i c low ok t = rw (lt-ltb i limit low, ok, t)

  after : (n i : ℕ) (c : Cursor) (o : Read ℕ) → o ≡ read (byte i) s c → (read (times (suc n) i byte) s c).next ≡ (read (times n (suc i) byte) s o.next).next
  after n i c o e = ap (λ (x : Read (List ℕ)). x.next) (times_first n i byte s c o e)

  -- all are there
  bytes_there : (n i p : ℕ) → i + n ≤ limit → p + 8 * n ≤ bit_count s → (read (times n i byte) s (start p)).next ≡ start (p + 8 * n)
  unfolding times read
  bytes_there zero i p low room = ap (λ (x : ℕ). start x) (omega arith)
  bytes_there (suc n) i p low room =
      let here-is : there s p 8 ≡ true = le-leb (p + 8) (bit_count s) (omega arith) in
      after n i (start p) _ (sym (one_byte i (start p) (omega arith) refl here-is))
      ∙ bytes_there n (suc i) (p + 8) (omega arith) (omega arith)
      ∙ ap (λ (x : ℕ). start x) (omega arith)

  -- some aren't
  bytes_cut : (n i p : ℕ) → i + n ≤ limit → (bit_count s - p) / 8 < n → (read (times n i byte) s (start p)).next ≡ byte_cut s (p + 8 * ((bit_count s - p) / 8))
  bytes_cut zero i p low short = absurd (omega arith)
  bytes_cut (suc n) i p low short =
      by_cases (dec_le (p + 8) (bit_count s))
      (λ yes.
      after n i (start p) _ (sym (one_byte i (start p) (omega arith) refl (le-leb (p + 8) (bit_count s) yes)))
      ∙ bytes_cut n (suc i) (p + 8) (omega arith) (omega (arith, yes))
      ∙ ap (λ (x : ℕ). byte_cut s x) (omega (arith, yes)))
      (λ no.
      after n i (start p) _ (sym (no_byte i (start p) (omega arith) refl (lt-leb (p + 8) (bit_count s) (omega (arith, no)))))
      ∙ fault_stays (times n (suc i) byte) s (byte_cut s p) (cut_held s p)
      ∙ ap (λ (x : ℕ). byte_cut s x) (omega (arith, no)))

  -- a cursor with no fault counts by its place alone
  same_byte : (i : ℕ) (c : Cursor) → i < limit → clear c ≡ true → read (byte i) s (start c.at) ≡ read (byte i) s c
  unfolding element read field
  same_byte i c low ok = rw (lt-ltb i limit low, ok)

  at_start : (n i : ℕ) (c : Cursor) → i < limit → clear c ≡ true → (read (times (suc n) i byte) s c).next ≡ (read (times (suc n) i byte) s (start c.at)).next
  at_start n i c low ok =
      let o = read (byte i) s (start c.at) in
      after n i c o (same_byte i c low ok) ∙ sym (after n i (start c.at) o refl)

-- the cursor behind count bytes
abbrev behind : List ℕ → ℕ → Cursor → Cursor
behind s count c = (read (array (u 8) count count 0 (λ (x : List ℕ) (i : ℕ). 0)) s c).next

idle_by : (s : List ℕ) (count : ℕ) (c : Cursor) (some ok : Bool) → ltb 0 count ≡ some → clear c ≡ ok → not (some && ok) ≡ true → c ≡ behind s count c
unfolding times read
idle_by s zero c some ok es eo h = refl
idle_by s (suc n) c true false es eo h = sym (fault_stays (array (u 8) (suc n) (suc n) 0 (λ (x : List ℕ) (i : ℕ). 0)) s c eo)
idle_by s (suc n) c true true es eo h = absurd (false≢true h)
idle_by s (suc n) c false ok es eo h = absurd (false≢true (sym es ∙ lt-ltb 0 (suc n) (omega arith)))

pub passed_idle : (s : List ℕ) (count : ℕ) (c : Cursor) (i : Bool) → i ≡ not (ltb 0 count && clear c) → i ≡ true → c ≡ behind s count c
passed_idle s count c i e h = idle_by s count c (ltb 0 count) (clear c) refl refl (sym e ∙ h)

pub busy : (some ok : Bool) → not (some && ok) ≡ false → (some ≡ true) × (ok ≡ true)
busy true true h = (refl, refl)
busy true false h = absurd (false≢true (sym h))
busy false ok h = absurd (false≢true (sym h))

module _ (s : List ℕ) (c : Cursor) where
  go_there : (count : ℕ) → ltb 0 count ≡ true → clear c ≡ true → c.at + 8 * count ≤ bit_count s → start (c.at + 8 * count) ≡ behind s count c
  go_there zero some ok room = absurd (false≢true (sym (le-ltb 0 0 (omega arith)) ∙ some))
  go_there (suc n) some ok room = sym (at_start s (suc n) n 0 c (omega arith) ok ∙ bytes_there s (suc n) (suc n) 0 c.at (omega arith) room)

  go_cut : (count : ℕ) → ltb 0 count ≡ true → clear c ≡ true → (bit_count s - c.at) / 8 < count → byte_cut s (c.at + 8 * ((bit_count s - c.at) / 8)) ≡ behind s count c
  go_cut zero some ok short = absurd (omega (arith, short))
  go_cut (suc n) some ok short = sym (at_start s (suc n) n 0 c (omega arith) ok ∙ bytes_cut s (suc n) (suc n) 0 c.at (omega arith) short)

  module _ (count : ℕ) (i : Bool) (e : i ≡ not (ltb 0 count && clear c)) (h : i ≡ false) where
    live : (ltb 0 count ≡ true) × (clear c ≡ true)
    live = busy (ltb 0 count) (clear c) (sym e ∙ h)

    pub passed_there : (end : ℕ) → end ≡ bit_count s → c.at ≤ end → count ≤ (end - c.at) / 8 → (r : Cursor) → r ≡ start (c.at + 8 * count) → r ≡ behind s count c
    passed_there end ee past room r er = er ∙ go_there count live.0 live.1 (omega (arith, past, room, ee))

    pub passed_cut : (end : ℕ) → end ≡ bit_count s → (end - c.at) / 8 < count → (r : Cursor) → r ≡ byte_cut s (c.at + 8 * ((end - c.at) / 8)) → r ≡ behind s count c
    passed_cut end ee short r er = er ∙ rw ee (go_cut count live.0 live.1 (rw ee at short))

    pub passed_past : (end : ℕ) → end ≡ bit_count s → end < c.at → (r : Cursor) → r ≡ byte_cut s c.at → r ≡ behind s count c
    passed_past end ee past r er =
        let none : c.at ≡ c.at + 8 * ((end - c.at) / 8) = omega arith in
        passed_cut end ee (omega (arith, ltb-true 0 count live.0)) r (er ∙ ap (λ (x : ℕ). byte_cut s x) none)
