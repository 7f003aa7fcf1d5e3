-- Readers: the cursor that a field or a table hands on has the fault before, or one of the numbers of its field types and tests, at a place within
-- the input.
-- One induction for all field types and all tables.
use Prim.Native.Nat.{ℕ, zero, suc, ◌+◌, ◌-◌, ◌*◌, ◌/◌, ◌%◌, ◌^◌, ◌≤◌}
use native.Mathlib.Omega.{arith}
use native.Mathlib.Nat.{le_refl}
use mathlib.Core.Path.{◌≡◌, refl, ◌∙◌}
use mathlib.Core.Logic.{◌⊎◌, inl, inr, ⊎_elim}
use mathlib.Core.List.{List, [], ◌∷◌}
use mathlib.Core.Bool.{Bool, true, ◌&&◌}
use lib.Dec.{eqb, leb}
use borrow.Author.Tests.{leb-true}
use Rattle.bits.specs.declared.Read.{Read}
use Rattle.bits.specs.declared.Refusal.{Refusal}
use Rattle.bits.specs.declared.Cursor.{Cursor}
use Rattle.bits.specs.Refusals.{pick, refusal, start, clear}
use Rattle.bits.specs.Bits.{bits_at, bit_count, there}
use Rattle.bits.specs.Half.{exponent}
use Rattle.bits.specs.Steps.{Steps, gives, refuses, takes, skips, cut, cut_at, run}
use Rattle.bits.specs.Codec.{Codec, u, bool, u32, cases, u64, f16, padding, skip, steps, chosen, more, field}
use Rattle.bits.specs.Table.{Table, ends, row, fails, failed, read, bind, within, times}
use Rattle.bits.specs.Extensions.{lengths, extensions}
use Rattle.bits.proofs.Reading.{picked, failed_same, fault_stays, of_both}
use Rattle.grid.proofs.Accepted.{and_parts}
use Rattle.theorems.specs.Refusing.{among, rules, placed, Refuses, Hands}
use Rattle.theorems.proofs.Refusing.{holds, among_more, refuses_none, refuses_with}

-- the numbers that a field type is refused with
abbrev pub own_of : Codec → List ℕ
own_of (u n) = 4 ∷ []
own_of bool = 4 ∷ []
own_of (u32 d) = 4 ∷ []
own_of (cases d n) = 4 ∷ 5 ∷ []
own_of u64 = 4 ∷ []
own_of f16 = 4 ∷ 6 ∷ []
own_of padding = 4 ∷ 12 ∷ []
own_of (skip n) = 4 ∷ []

-- a table whose field types and tests have their numbers in a list
unfoldable pub Own : {R A : Type 0} → List ℕ → Table R A → Type 0
Own l (ends a) = Unit {0}
Own l (row on k d v rest) = (holds l (own_of k) ≡ true) × ((n : ℕ) → Own l (rest n))
Own l (fails bad number back rest) = (among l number ≡ true) × (among placed number ≡ true) × Own l rest

module _ (l : List ℕ) (ok : rules l ≡ true) where
  -- what a field takes is refused with numbers of the list
  abbrev Low : Steps → Type 0
  Low (gives v) = Unit {0}
  Low (refuses n) = (among l n ≡ true) × (among placed n ≡ true)
  Low (takes n f) = (among l 4 ≡ true) × ((v : ℕ) → Low (f v))
  Low (skips n t) = (among l 4 ≡ true) × Low t

  low_more : among l 4 ≡ true → (k v : ℕ) → Low (more k v)
  unfolding more
  low_more h zero v = (h, λ b. of_both Low (eqb b 0) (gives v) (takes 4 λ x. gives (v + x * 2 ^ 60)) tt (h, λ x. tt))
  low_more h (suc k) v =
      (h, λ b. of_both Low (eqb b 0) (gives v) (takes 8 λ x. more k (v + x * 2 ^ (52 - 8 * k))) tt (h, λ x. low_more h k (v + x * 2 ^ (52 - 8 * k))))

  low : (k : Codec) (p : ℕ) → holds l (own_of k) ≡ true → Low (steps k p)
  low (u n) p h = ((and_parts _ _ h).0, λ v. tt)
  low bool p h = ((and_parts _ _ h).0, λ v. tt)
  low (u32 d) p h = ((and_parts _ _ h).0, λ k. ((and_parts _ _ h).0, λ x. tt))
  low (cases d n) p h =
      let four = and_parts _ _ h in
      let five : among l 5 ≡ true = (and_parts _ _ four.1).0 in (
        four.0,
        λ k. (
          four.0,
          λ x. of_both Low (leb n (((chosen d k).base + x) % 2 ^ 32)) (refuses 5)
              (gives (((chosen d k).base + x) % 2 ^ 32)) (five, refl) tt,
        ),
      )
  low u64 p h =
      let four : among l 4 ≡ true = (and_parts _ _ h).0 in (
        four,
        λ k.
            of_both Low (eqb k 0) (gives 0) (pick (eqb k 1) (takes 4 λ x. gives (1 + x))
            (pick (eqb k 2) (takes 8 λ x. gives (17 + x)) (takes 12 λ x. more 6 x))) tt
            (of_both Low (eqb k 1) (takes 4 λ x. gives (1 + x)) (pick (eqb k 2) (takes 8 λ x. gives (17 + x)) (takes 12 λ x. more 6 x))
            (four, λ x. tt)
            (of_both Low (eqb k 2) (takes 8 λ x. gives (17 + x)) (takes 12 λ x. more 6 x) (four, λ x. tt) (four, λ x. low_more four 6 x))),
      )
  low f16 p h =
      let four = and_parts _ _ h in
      let six : among l 6 ≡ true = (and_parts _ _ four.1).0 in
      (four.0, λ x. of_both Low (eqb (exponent x) 31) (refuses 6) (gives x) (six, refl) tt)
  low padding p h =
      let four = and_parts _ _ h in
      let twelve : among l 12 ≡ true = (and_parts _ _ four.1).0 in
      (four.0, λ x. of_both Low (eqb x 0) (gives 0) (refuses 12) tt (twelve, refl))
  low (skip n) p h = ((and_parts _ _ h).0, tt)

  module _ (s : List ℕ) (last : ℕ) (behind : bit_count s ≤ last) where
    abbrev Fine : Refusal → Type 0
    Fine r = Refuses l last r

    run_refuses : (t : Steps) → Low t → (p q : ℕ) → p ≤ last → Fine (run t s p q).next.fault
    unfolding run cut
    run_refuses (gives v) h p q i = refuses_none l last ok
    run_refuses (refuses n) h p q i = refuses_with l last n p ok h.0 h.1 i
    run_refuses (takes n f) h p q i =
        of_both (λ (r : Read ℕ). Fine r.next.fault) (there s q n) (run (f (bits_at s q n)) s p (q + n)) (cut_at s p (q + n))
        (run_refuses (f (bits_at s q n)) (h.1 (bits_at s q n)) p (q + n) i) (refuses_with l last 4 p ok h.0 refl i)
    run_refuses (skips n t) h p q i =
        of_both (λ (r : Read ℕ). Fine r.next.fault) (leb (q + n) (bit_count s)) (run t s p (q + n)) (cut_at s p (q + n))
        (run_refuses t h.1 p (q + n) i) (refuses_with l last 4 p ok h.0 refl i)

    run_at : (t : Steps) (p q : ℕ) → p ≤ last → q ≤ last → (run t s p q).next.at ≤ last
    unfolding run
    run_at (gives v) p q i j = j
    run_at (refuses n) p q i j = i
    run_at (takes n f) p q i j =
        picked (λ (r : Read ℕ). r.next.at ≤ last) (there s q n) (run (f (bits_at s q n)) s p (q + n)) (cut_at s p (q + n))
        (λ t. run_at (f (bits_at s q n)) p (q + n) i (omega (
          arith,
          behind,
          leb-true (q + n) (bit_count s)
              (and_parts (leb n 32) (leb (q + n) (bit_count s)) t).1,
        ))) (λ t. i)
    run_at (skips n t) p q i j =
        picked (λ (r : Read ℕ). r.next.at ≤ last) (leb (q + n) (bit_count s)) (run t s p (q + n)) (cut_at s p (q + n))
        (λ e. run_at t p (q + n) i (omega (arith, behind, leb-true (q + n) (bit_count s) e))) (λ e. i)

    -- as it was, or refused
    abbrev Kept : Refusal → Refusal → Type 0
    Kept a b = (b ≡ a) ⊎ Fine b

    kept_on : (a b c : Refusal) → Kept a b → Kept b c → Kept a c
    kept_on a b c (inl e) (inl k) = inl (k ∙ e)
    kept_on a b c (inr r) (inl k) = inr (rw k r)
    kept_on a b c (inl e) (inr r) = inr r
    kept_on a b c (inr q) (inr r) = inr r

    field_kept : (on : Bool) (k : Codec) (d : ℕ) (c : Cursor) → holds l (own_of k) ≡ true → c.at ≤ last
        → Kept c.fault (field s on k d c).next.fault
    unfolding field
    field_kept on k d c h i =
        of_both (λ (r : Read ℕ). Kept c.fault r.next.fault) (on && clear c) (run (steps k c.at) s c.at c.at)
        (record { value = d; next = c })
        (inr (run_refuses (steps k c.at) (low k c.at h) c.at c.at i)) (inl refl)

    field_at : (on : Bool) (k : Codec) (d : ℕ) (c : Cursor) → c.at ≤ last → (field s on k d c).next.at ≤ last
    unfolding field
    field_at on k d c i =
        of_both (λ (r : Read ℕ). r.next.at ≤ last) (on && clear c) (run (steps k c.at) s c.at c.at) (record { value = d; next = c })
        (run_at (steps k c.at) c.at c.at i i) i

    failed_kept : (bad : Bool) (number back : ℕ) (c : Cursor) → among l number ≡ true → among placed number ≡ true → c.at ≤ last
        → Kept c.fault (failed bad number back c).fault
    unfolding failed
    failed_kept bad number back c h p i =
        of_both (λ (r : Cursor). Kept c.fault r.fault) (bad && clear c) (record { at = c.at; fault = refusal number (c.at - back) }) c
        (inr (refuses_with l last number (c.at - back) ok h p (omega (arith, i)))) (inl refl)

    read_kept : {R A : Type 0} (t : Table R A) → Own l t → (c : Cursor) → c.at ≤ last
        → Kept c.fault (read t s c).next.fault × ((read t s c).next.at ≤ last)
    unfolding read Own
    read_kept (ends a) h c i = (inl refl, i)
    read_kept (row on k d v rest) h c i =
        let f : Read ℕ = field s on k d c in
        let more = read_kept (rest f.value) (h.1 f.value) f.next (field_at on k d c i) in
        (kept_on c.fault f.next.fault _ (field_kept on k d c h.0 i) more.0, more.1)
    read_kept (fails bad number back rest) h c i =
        let g : Cursor = failed bad number back c in
        let more = read_kept rest h.2 g (rw (failed_same bad number back c) i) in
        (kept_on c.fault g.fault _ (failed_kept bad number back c h.0 h.1 i) more.0, more.1)

  -- whatever a table reads
  pub read_hands : {R A : Type 0} (s : List ℕ) (t : Table R A) → Own l t → (c : Cursor) → Hands l s c (read t s c).next
  read_hands s t h c =
      record { stays = fault_stays t s c; faults = λ last b i. (read_kept s last b t h c i).0; within = λ last b i. (read_kept s last b t h c i).1 }

  -- a field is a table of one row
  pub field_hands : (s : List ℕ) (on : Bool) (k : Codec) (d : ℕ) (c : Cursor) → holds l (own_of k) ≡ true → Hands l s c (field s on k d c).next
  unfolding read Own
  field_hands s on k d c h = read_hands {R = ℕ} s (row on k d (λ r. r) (λ n. ends n)) (h, λ n. tt) c

  -- from a place within the input, where nothing was refused yet
  pub read_refuses : {R A : Type 0} (s : List ℕ) (t : Table R A) → Own l t → (p : ℕ) → p ≤ bit_count s
      → Refuses l (bit_count s) (read t s (start p)).next.fault
  read_refuses s t h p i =
      ⊎_elim (λ e. rw e (refuses_none l (bit_count s) ok)) (λ r. r) (read_kept s (bit_count s) (le_refl (bit_count s)) t h (start p) i).0

-- tables one after another, inside each other, and repeated
pub own_bind : {R A B : Type 0} (l : List ℕ) (t : Table R A) (f : A → Table R B) → Own l t → ((a : A) → Own l (f a)) → Own l (bind t f)
unfolding bind Own
own_bind l (ends a) f n h = h a
own_bind l (row on k d v rest) f n h = (n.0, λ x. own_bind l (rest x) f (n.1 x) h)
own_bind l (fails bad number back rest) f n h = (n.0, n.1, own_bind l rest f n.2 h)

pub own_within : {R S A : Type 0} (l : List ℕ) (g : R → S) (t : Table S A) → Own l t → Own l (within g t)
unfolding within Own
own_within l g (ends a) n = tt
own_within l g (row on k d v rest) n = (n.0, λ x. own_within l g (rest x) (n.1 x))
own_within l g (fails bad number back rest) n = (n.0, n.1, own_within l g rest n.2)

pub own_inside : {R S A B : Type 0} (l : List ℕ) (g : R → S) (t : Table S A) (f : A → Table R B) → Own l t → ((a : A) → Own l (f a))
    → Own l (bind (within g t) f)
own_inside l g t f n h = own_bind l (within g t) f (own_within l g t n) h

pub own_pick : {R A : Type 0} (l : List ℕ) (b : Bool) (x y : Table R A) → Own l x → Own l y → Own l (pick b x y)
own_pick l b x y h k = of_both (Own l) b x y h k

pub own_times : {R A : Type 0} (l : List ℕ) (count i : ℕ) (f : ℕ → Table R A) → ((j : ℕ) → Own l (f j)) → Own l (times count i f)
unfolding times Own
own_times l zero i f h = tt
own_times l (suc count) i f h = own_bind l (f i) _ (h i) (λ a. own_bind l (times count (suc i) f) _ (own_times l count (suc i) f h) (λ rest. tt))

own_lengths : (l : List ℕ) → among l 4 ≡ true → (count mask sum : ℕ) → Own l (lengths count mask sum)
unfolding lengths Own
own_lengths l h zero mask sum = tt
own_lengths l h (suc count) mask sum = (rw h, λ n. own_lengths l h count (mask / 2) (sum + n))

pub own_extensions : (l : List ℕ) → among l 4 ≡ true → (on : Bool) → Own l (extensions on)
unfolding extensions Own
own_extensions l h on = (rw h, λ mask. own_bind l (lengths 64 mask 0) _ (own_lengths l h 64 mask 0) (λ sum. (rw h, λ x. tt)))

-- a list that holds more
holds_more : (l more k : List ℕ) → holds l more ≡ true → holds more k ≡ true → holds l k ≡ true
holds_more l more [] h e = refl
holds_more l more (n ∷ k) h e =
    let parts = and_parts _ _ e in
    rw (among_more l more n h parts.0, holds_more l more k h parts.1)

pub own_more : {R A : Type 0} (l more : List ℕ) → holds l more ≡ true → (t : Table R A) → Own more t → Own l t
unfolding Own
own_more l more h (ends a) n = tt
own_more l more h (row on k d v rest) n = (holds_more l more (own_of k) h n.0, λ x. own_more l more h (rest x) (n.1 x))
own_more l more h (fails bad number back rest) n = (among_more l more number h n.0, n.1, own_more l more h rest n.2)
