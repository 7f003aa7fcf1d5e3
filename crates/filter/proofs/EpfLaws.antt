-- Laws of the edge-preserving filter: a float's row, each group of values, and the bundle.
use Prim.Native.Nat.{ℕ}
use mathlib.Core.Path.{◌≡◌, refl, ◌∙◌}
use mathlib.Core.List.{List, [], ◌∷◌}
use mathlib.Core.Bool.{Bool, true, false, not, ◌&&◌}
use lib.Dec.{eqb}
use lib.Ieee.{Float}
use borrow.Author.Tests.{eq-eqb, ne_eqb, not-true, not-false}
use Rattle.bits.specs.declared.Read.{Read}
use Rattle.bits.specs.declared.Cursor.{Cursor}
use Rattle.bits.specs.Refusals.{pick}
use Rattle.bits.specs.Half.{half}
use Rattle.bits.specs.Codec.{u, bool, f16, field}
use Rattle.bits.specs.Table.{read}
use Rattle.bits.proofs.Rows.{Reads, row_then, bind_then, within_then, times_then, times_end, at_end}
use Rattle.filter.specs.declared.settings.EpfSigma.{EpfSigma}
use Rattle.filter.specs.declared.settings.EpfParams.{EpfParams}
use Rattle.filter.specs.declared.epf.EdgePreservingFilter.{EdgePreservingFilter}
use Rattle.filter.specs.Values.{decimal, float, floats}
use Rattle.filter.specs.Private.{float_read}
use Rattle.filter.specs.Epf.{sharp_default, scale_default, sigma_default, settings, epf_default, epf_disabled, sharp, scale, sigma, sigma_of, epf_of, epf}

pub float_read_lem : (s : List ℕ) (on : Bool) (d : ℕ) (c : Cursor) (h : Read ℕ) (value : Float) → h ≡ field s on f16 d c → value ≡ half h.value
    → ◌≡◌ {A = Read Float} (record { value = value; next = h.next }) (float_read (field s on f16 d c))
float_read_lem s on d c h value eh ev = rw (← eh, ev)

-- what the function for a float answers, as the table reads it
float_out : {R : Type 0} (on : Bool) (d : ℕ) (v : R → ℕ) (s : List ℕ) (c : Cursor) (x : Read Float) → x ≡ float_read (field s on f16 d c)
    → Reads (float on d v) s c (record { value = x.value; next = x.next })
unfolding float
float_out on d v s c x e = rw e (row_then (field s on f16 d c) refl at_end)

-- the sigma values, default or custom
module _ (own modular : Bool) (q a b d : Float) where
  pub sigma_default_lem : not own ≡ true → sigma_default ≡ sigma_of own modular q a b d
  sigma_default_lem h = rw (not-true own h)

  pub sigma_custom : (m : Float) → not own ≡ false → m ≡ pick modular sigma_default.quant_mul q
      → ◌≡◌ {A = EpfSigma} (record { quant_mul = m; pass0_sigma_scale = a; pass2_sigma_scale = b; border_sad_mul = d }) (sigma_of own modular q a b d)
  sigma_custom m h e = rw (not-false own h, e)

-- no iterations, or some
module _ (n : ℕ) (p : EpfParams) where
  pub of_none : n ≡ 0 → epf_disabled ≡ epf_of n p
  of_none h = rw (eq-eqb n 0 h)

  pub of_some : (n ≡ 0 → ⊥) → ◌≡◌ {A = EdgePreservingFilter} (record { enabled = true; iters = n; params = p }) (epf_of n p)
  of_some h = rw (ne_eqb n 0 h)

pub epf_default_is : (lut scales : List Float) (four : EpfSigma) (m : Float) → lut ≡ sharp_default → scales ≡ scale_default → four ≡ sigma_default → m ≡ decimal 1 1
    → ◌≡◌ {A = EdgePreservingFilter} (record { enabled = true; iters = 2; params = settings lut scales four m }) epf_default
unfolding epf_default
epf_default_is lut scales four m a b d e = rw (a, b, d, e)

module _ (s : List ℕ) (on : Bool) (k : Cursor) (flag : Read ℕ) (pf : flag ≡ field s on bool 0 k) where
  pub sharp_is : (x0 x1 x2 x3 x4 x5 x6 x7 : Read Float) (value : List Float)
      → x0 ≡ float_read (field s (eqb flag.value 1) f16 0 flag.next)
      → x1 ≡ float_read (field s (eqb flag.value 1) f16 0 x0.next)
      → x2 ≡ float_read (field s (eqb flag.value 1) f16 0 x1.next)
      → x3 ≡ float_read (field s (eqb flag.value 1) f16 0 x2.next)
      → x4 ≡ float_read (field s (eqb flag.value 1) f16 0 x3.next)
      → x5 ≡ float_read (field s (eqb flag.value 1) f16 0 x4.next)
      → x6 ≡ float_read (field s (eqb flag.value 1) f16 0 x5.next)
      → x7 ≡ float_read (field s (eqb flag.value 1) f16 0 x6.next)
      → value ≡ pick (eqb flag.value 1)
      (x0.value ∷ x1.value ∷ x2.value ∷ x3.value ∷ x4.value ∷ x5.value ∷ x6.value ∷ x7.value ∷ []) sharp_default
      → ◌≡◌ {A = Read (List Float)} (record { value = value; next = x7.next }) ((read (sharp on) s k))
  unfolding sharp floats
  sharp_is x0 x1 x2 x3 x4 x5 x6 x7 value p0 p1 p2 p3 p4 p5 p6 p7 pv =
      let all : Reads (sharp on) s k (record { value = value; next = x7.next }) =
      row_then flag pf
      (bind_then _ _ _ _
      (times_then 7 0 _ _ _ (float_out _ _ _ s _ x0 p0)
      (times_then 6 1 _ _ _ (float_out _ _ _ s _ x1 p1)
      (times_then 5 2 _ _ _ (float_out _ _ _ s _ x2 p2)
      (times_then 4 3 _ _ _ (float_out _ _ _ s _ x3 p3)
      (times_then 3 4 _ _ _ (float_out _ _ _ s _ x4 p4)
      (times_then 2 5 _ _ _ (float_out _ _ _ s _ x5 p5)
      (times_then 1 6 _ _ _ (float_out _ _ _ s _ x6 p6)
      (times_then 0 7 _ _ _ (float_out _ _ _ s _ x7 p7)
      (times_end 8 _)))))))))
      (rw pv at_end)) in
      rw all.is

  pub scale_is : (x0 x1 x2 : Read Float) (ignored : Read ℕ) (value : List Float)
      → x0 ≡ float_read (field s (eqb flag.value 1) f16 0 flag.next)
      → x1 ≡ float_read (field s (eqb flag.value 1) f16 0 x0.next)
      → x2 ≡ float_read (field s (eqb flag.value 1) f16 0 x1.next)
      → ignored ≡ field s (eqb flag.value 1) (u 32) 0 x2.next
      → value ≡ pick (eqb flag.value 1) (x0.value ∷ x1.value ∷ x2.value ∷ []) scale_default
      → ◌≡◌ {A = Read (List Float)} (record { value = value; next = ignored.next }) ((read (scale on) s k))
  unfolding scale floats
  scale_is x0 x1 x2 ignored value p0 p1 p2 pi pv =
      let all : Reads (scale on) s k (record { value = value; next = ignored.next }) =
      row_then flag pf
      (bind_then _ _ _ _
      (times_then 2 0 _ _ _ (float_out _ _ _ s _ x0 p0)
      (times_then 1 1 _ _ _ (float_out _ _ _ s _ x1 p1)
      (times_then 0 2 _ _ _ (float_out _ _ _ s _ x2 p2)
      (times_end 3 _))))
      (row_then ignored pi
      (rw pv at_end))) in
      rw all.is

  pub sigma_is : (modular quant : Bool) (q a b d : Read Float) (value : EpfSigma)
      → quant ≡ (eqb flag.value 1 && not modular)
      → q ≡ float_read (field s quant f16 0 flag.next)
      → a ≡ float_read (field s (eqb flag.value 1) f16 0 q.next)
      → b ≡ float_read (field s (eqb flag.value 1) f16 0 a.next)
      → d ≡ float_read (field s (eqb flag.value 1) f16 0 b.next)
      → value ≡ sigma_of (eqb flag.value 1) modular q.value a.value b.value d.value
      → ◌≡◌ {A = Read EpfSigma} (record { value = value; next = d.next }) ((read (sigma on modular) s k))
  unfolding sigma
  sigma_is modular quant q a b d value pm pq pa pb pd pv =
      let all : Reads (sigma on modular) s k (record { value = value; next = d.next }) =
      row_then flag pf
      (bind_then _ _ _ _ (float_out _ _ _ s _ q (pq ∙ rw pm))
      (bind_then _ _ _ _ (float_out _ _ _ s _ a pa)
      (bind_then _ _ _ _ (float_out _ _ _ s _ b pb)
      (bind_then _ _ _ _ (float_out _ _ _ s _ d pd)
      (rw pv at_end))))) in
      rw all.is

-- a group's answer as its table reads it
sharp_out : (on : Bool) (s : List ℕ) (c : Cursor) (x : Read (List Float)) → x ≡ (read (sharp on) s c) → Reads (sharp on) s c (record { value = x.value; next = x.next })
sharp_out on s c x e = record { is = rw e }

scale_out : (on : Bool) (s : List ℕ) (c : Cursor) (x : Read (List Float)) → x ≡ (read (scale on) s c) → Reads (scale on) s c (record { value = x.value; next = x.next })
scale_out on s c x e = record { is = rw e }

sigma_out_lem : (on modular : Bool) (s : List ℕ) (c : Cursor) (x : Read EpfSigma) → x ≡ (read (sigma on modular) s c)
    → Reads (sigma on modular) s c (record { value = x.value; next = x.next })
sigma_out_lem on modular s c x e = record { is = rw e }

pub epf_is : (s : List ℕ) (on modular : Bool) (k : Cursor) (iters : Read ℕ) (live dct own : Bool)
    (lut : Read (List Float)) (scales : Read (List Float)) (four : Read EpfSigma) (m : Read Float) (value : EdgePreservingFilter)
    → iters ≡ field s on (u 2) 2 k
    → live ≡ (on && not (eqb iters.value 0))
    → dct ≡ (live && not modular)
    → lut ≡ (read (sharp dct) s iters.next)
    → scales ≡ (read (scale live) s lut.next)
    → four ≡ (read (sigma live modular) s scales.next)
    → own ≡ (live && modular)
    → m ≡ float_read (field s own f16 15360 four.next)
    → value ≡ epf_of iters.value (settings lut.value scales.value four.value m.value)
    → ◌≡◌ {A = Read EdgePreservingFilter} (record { value = value; next = m.next }) ((read (epf on modular) s k))
unfolding epf
epf_is s on modular k iters live dct own lut scales four m value pi pl pd pu ps pf po pm pv =
    let all : Reads (epf on modular) s k (record { value = value; next = m.next }) =
    row_then iters pi
    (within_then _ _ _ _ _ (sharp_out _ s _ lut (pu ∙ rw (pd, pl)))
    (within_then _ _ _ _ _ (scale_out _ s _ scales (ps ∙ rw pl))
    (within_then _ _ _ _ _ (sigma_out_lem _ modular s _ four (pf ∙ rw pl))
    (bind_then _ _ _ _ (float_out _ _ _ s _ m (pm ∙ rw (po, pl)))
    (rw pv at_end))))) in
    rw all.is
