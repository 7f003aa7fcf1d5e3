-- The listing's promise, out of what the job and the length's word come to.
use Prim.Native.Nat.{ℕ}
use mathlib.Core.Path.{◌≡◌, refl, sym, ◌∙◌, ap}
use mathlib.Core.Bool.{Bool, true, false}
use mathlib.Core.List.{List}
use lib.ListN.{length, set}
use Rattle.std.specs.Prelude.{Result, Ok, Err}
use Rattle.bits.specs.declared.Refusal.{Refusal}
use Rattle.bits.specs.Refusals.{refusal, none}
use Rattle.bits.proofs.Once.{once}
use Rattle.listing.specs.Put.{fitted, Texted}
use Rattle.listing.proofs.Texts.{texted_ok, texted_err}
use Rattle.c_words.specs.Status.{status_of}
use Rattle.export.specs.Told.{untold, Told}

module _ (text before out : List ℕ) (short : Bool) where
  is_short : short ≡ true → untold short text before ≡ refusal 3 0
  unfolding untold
  is_short s = rw s refl

  is_long : short ≡ false → untold short text before ≡ fitted text before
  unfolding untold
  is_long s = rw s refl

  -- no word for the length: nothing is written
  pub told_short : (word : ℕ) (r : Refusal) → short ≡ true → r ≡ refusal 3 0 → word ≡ status_of r → Told (untold short text before) text before before out out word
  told_short word r s is w = rw (is_short s) (record { status = w ∙ ap status_of is; bytes = refl; words = refl })

  module _ {after out' : List ℕ} (word : ℕ) (a : Result ℕ Refusal) (long : short ≡ false) (t : Texted (fitted text before) text before a after) where
    pub told_ok : (n : ℕ) (r : Refusal) → a ≡ Ok n → r ≡ none → word ≡ status_of r → out' ≡ set out 0 n
        → Told (untold short text before) text before after out out' word
    told_ok n r e z w o =
        let is : (fitted text before ≡ none) × (n ≡ length text) = texted_ok text before a t n e in
        rw (is_long long) (record { status = w ∙ ap status_of (z ∙ sym is.0); bytes = t.bytes; words = o ∙ rw (is.0, is.1) })

    pub told_err : (r : Refusal) → a ≡ Err r → word ≡ status_of r → out' ≡ out → Told (untold short text before) text before after out out' word
    told_err r e w o =
        let is : (fitted text before ≡ r) × (fitted text before ≡ refusal 3 0) = texted_err text before a t r e in
        rw (is_long long) (record { status = w ∙ ap status_of (sym is.0); bytes = t.bytes; words = rw is.1 o })

pub told_once : (r : Refusal) (text before out : List ℕ) (x y : ℕ) (u v w z : List ℕ) → Told r text before u out w x → Told r text before v out z y → (x ≡ y) × (u ≡ v) × (w ≡ z)
told_once r text before out x y u v w z p q = (once p.status q.status, once p.bytes q.bytes, once p.words q.words)
