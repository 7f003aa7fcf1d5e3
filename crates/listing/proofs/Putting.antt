-- Laws of texts put one behind the other.
use Rattle.std.proofs.Common.{ℕ, suc, ◌+◌, arith, add-zero, ◌≡◌, refl, sym, ◌∙◌, ap, List, [], ◌∷◌, ◌++◌, length, set, length-append}
use lib.Seq.{sets, length-sets}
use Rattle.fill.proofs.Filling.{Filling, filling_none}
use Rattle.listing.specs.Private.{Put}

pub sets_behind : (l : List ℕ) (i : ℕ) (a b : List ℕ) → sets (sets l i a) (i + length a) b ≡ sets l i (a ++ b)
sets_behind l i [] b = ap (λ (k : ℕ). sets l k b) (add-zero i)
sets_behind l i (x ∷ a) b =
    let e : i + suc (length a) ≡ suc i + length a = omega arith in
    ap (λ (k : ℕ). sets (sets (set l i x) (suc i) a) k b) e ∙ sets_behind (set l i x) (suc i) a b

-- one text, and another behind it
pub then : {l m n a b : List ℕ} {i j k : ℕ} → Put l i a m j → Put m j b n k → Put l i (a ++ b) n k
then {l} {m} {n} {a} {b} {i} {j} {k} p q =
    record {
      bytes = q.bytes ∙ ap (λ (x : List ℕ). sets x j b) p.bytes ∙ ap (λ (x : ℕ). sets (sets l i a) x b) p.behind ∙ sets_behind l i a b;
      behind = omega (arith, p.behind, q.behind, length-append a b);
    }

pub put_one : (l m : List ℕ) (at b : ℕ) → m ≡ set l at b → Put l at (b ∷ []) m (at + 1)
put_one l m at b e = record { bytes = e; behind = refl }

pub put_length : {l m a : List ℕ} {i j : ℕ} → Put l i a m j → length m ≡ length l
put_length {l} {m} {a} {i} p = ap length p.bytes ∙ length-sets l i a

-- another name for the same text
pub named : {l m a b : List ℕ} {i j : ℕ} → a ≡ b → Put l i a m j → Put l i b m j
named {l} {m} {a} {b} {i} {j} e p = record { bytes = rw (← e) p.bytes; behind = rw (← e) p.behind }

-- ---- a walk that puts a text piece by piece

-- the rest of a text is still to be put, from end on
pub record Leaves (before : List ℕ) (at : ℕ) (all out : List ℕ) (end : ℕ) (rest : List ℕ) : Type 0 where
  pub filling : Filling before at all out end rest
  pub long : at + length all ≡ end + length rest

pub leaves_all : (before : List ℕ) (at : ℕ) (all : List ℕ) → Leaves before at all before at all
leaves_all before at all = record { filling = filling_none before at all; long = refl }

pub leaves_less : {before all out out' text : List ℕ} {at end end' : ℕ} (rest : List ℕ) → Leaves before at all out end (text ++ rest) → Put out end text out' end'
    → Leaves before at all out' end' rest
leaves_less {before} {all} {out} {out'} {text} {at} {end} {end'} rest w p =
    record {
      filling = record { left = w.filling.left ∙ sym (sets_behind out end text rest) ∙ rw (p.bytes, p.behind); size = put_length p ∙ w.filling.size };
      long = omega (arith, w.long, p.behind, length-append text rest);
    }

pub leaves_none : {before all out : List ℕ} {at end : ℕ} → Leaves before at all out end [] → Put before at all out end
leaves_none w = record { bytes = sym w.filling.left; behind = omega (arith, w.long) }
