-- Laws of the restoration filter: the bundle, and what it is where nothing is sent.
use Prim.Native.Nat.{ℕ}
use mathlib.Core.Path.{◌≡◌, refl, sym, ◌∙◌, ap}
use mathlib.Core.List.{List}
use mathlib.Core.Bool.{Bool, true, false, not, ◌&&◌}
use lib.Dec.{eqb}
use lib.Ieee.{round}
use borrow.Author.Tests.{not-true}
use Rattle.bits.specs.declared.Read.{Read}
use Rattle.bits.specs.declared.Cursor.{Cursor}
use Rattle.bits.specs.Half.{half}
use Rattle.bits.specs.Codec.{bool, field}
use Rattle.bits.specs.Table.{read, failed, bind, within, times}
use Rattle.bits.specs.Extensions.{extensions}
use Rattle.bits.proofs.Tables.{field_off, lengths_none}
use Rattle.bits.proofs.Rows.{Reads, row_then, bind_then, within_then, at_end}
use Rattle.filter.specs.declared.gabor.Gabor.{Gabor}
use Rattle.filter.specs.declared.epf.EdgePreservingFilter.{EdgePreservingFilter}
use Rattle.filter.specs.declared.RestorationFilter.{RestorationFilter}
use Rattle.filter.specs.Values.{decimal, float, floats}
use Rattle.filter.specs.Weights.{unbalanced}
use Rattle.filter.specs.Gabor.{gabor_default, gabor_disabled, gabor_of, channel, gabor}
use Rattle.filter.specs.Epf.{epf_default, epf_disabled, sharp, scale, sigma, epf}
use Rattle.filter.specs.Filter.{restoration, filter_default, filter_disabled}

gabor_out : (on : Bool) (s : List ℕ) (c : Cursor) (x : Read Gabor) → x ≡ (read (gabor on) s c) → Reads (gabor on) s c (record { value = x.value; next = x.next })
gabor_out on s c x e = record { is = rw e }

epf_out : (on modular : Bool) (s : List ℕ) (c : Cursor) (x : Read EdgePreservingFilter) → x ≡ (read (epf on modular) s c)
    → Reads (epf on modular) s c (record { value = x.value; next = x.next })
epf_out on modular s c x e = record { is = rw e }

extensions_out : (on : Bool) (s : List ℕ) (c next : Cursor) → next ≡ (read (extensions on) s c).next
    → Reads (extensions on) s c (record { value = (read (extensions on) s c).value; next = next })
extensions_out on s c next e = record { is = rw e }

pub filter_is : (s : List ℕ) (on modular : Bool) (k : Cursor) (all : Read ℕ) (live : Bool) (g : Read Gabor) (e : Read EdgePreservingFilter) (next : Cursor)
    → all ≡ field s on bool 1 k
    → live ≡ (on && eqb all.value 0)
    → g ≡ (read (gabor live) s all.next)
    → e ≡ (read (epf live modular) s g.next)
    → next ≡ (read (extensions live) s e.next).next
    → ◌≡◌ {A = Read RestorationFilter} (record { value = record { gab = g.value; epf = e.value }; next = next }) ((read (restoration on modular) s k))
unfolding restoration
filter_is s on modular k all live g e next pa pl pg pe pn =
    let b = on && eqb all.value 0 in
    let whole : Reads (restoration on modular) s k (record { value = record { gab = g.value; epf = e.value }; next = next }) =
    row_then all pa
    (within_then _ _ _ _ _ (gabor_out b s all.next g (pg ∙ rw pl))
    (within_then _ _ _ _ _ (epf_out b modular s g.next e (pe ∙ rw pl))
    (within_then _ _ _ _ _ (extensions_out b s e.next next (pn ∙ rw pl)) at_end))) in
    rw whole.is

gabor_off : (s : List ℕ) (c : Cursor) → Reads (gabor false) s c (record { value = gabor_default; next = c })
unfolding gabor channel gabor_of unbalanced read bind field failed
gabor_off s c = record { is = refl }

one : half 15360 ≡ decimal 1 1
unfolding half decimal round
one = refl

epf_off : (modular : Bool) (s : List ℕ) (c : Cursor) → Reads (epf false modular) s c (record { value = epf_default; next = c })
unfolding epf epf_default sharp scale sigma float floats times within read bind field
epf_off modular s c = record { is = rw (← one) }

pub extensions_off : (s : List ℕ) (c : Cursor) → Reads (extensions false) s c (record { value = 0; next = c })
unfolding extensions
extensions_off s c =
    row_then _ (sym (field_off s _ 0 c))
    (bind_then _ _ 0 c (record { is = lengths_none s 64 0 c })
    (row_then _ (sym (field_off s _ 0 c)) at_end))

-- Where the bundle isn't asked for, or its all_default bit is 1, both filters are the default ones and nothing more is read.
pub filter_default_lem : (s : List ℕ) (on modular : Bool) (c : Cursor) → (on && eqb (field s on bool 1 c).value 0) ≡ false
    → ◌≡◌ {A = Read RestorationFilter} (read (restoration on modular) s c) (record { value = filter_default; next = (field s on bool 1 c).next })
unfolding restoration filter_default
filter_default_lem s on modular c h =
    let all = field s on bool 1 c in
    let whole : Reads (restoration on modular) s c (record { value = filter_default; next = all.next }) =
    row_then all refl
    (rw h
    (within_then _ _ _ _ _ (gabor_off s all.next)
    (within_then _ _ _ _ _ (epf_off modular s all.next)
    (within_then _ _ _ _ _ (extensions_off s all.next) at_end)))) in
    whole.is

-- the same of what a call answers
pub filter_unread : (s : List ℕ) (on modular : Bool) (k : Cursor) (all : Read ℕ) (live : Bool) (d : RestorationFilter) → all ≡ field s on bool 1 k → live ≡ (on && eqb all.value 0)
    → not live ≡ true → d ≡ filter_default → ◌≡◌ {A = Read RestorationFilter} (record { value = d; next = all.next }) ((read (restoration on modular) s k))
filter_unread s on modular k all live d pa pl h pd =
    rw (pd, pa) (sym ((filter_default_lem s on modular k (rw pa at (sym pl ∙ not-true live h)))))

pub both_default : (g : Gabor) (e : EdgePreservingFilter) → g ≡ gabor_default → e ≡ epf_default → ◌≡◌ {A = RestorationFilter} (record { gab = g; epf = e }) filter_default
unfolding filter_default
both_default g e p q = rw (p, q)

pub both_disabled : (g : Gabor) (e : EdgePreservingFilter) → g ≡ gabor_disabled → e ≡ epf_disabled → ◌≡◌ {A = RestorationFilter} (record { gab = g; epf = e }) filter_disabled
unfolding filter_disabled
both_disabled g e p q = rw (p, q)
