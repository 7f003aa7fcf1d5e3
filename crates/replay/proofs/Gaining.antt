-- What a walk shows that shows a thing a turn.
use Rattle.std.proofs.Common.{◌≡◌, ap, ℕ, ◌+◌, ◌<◌, List, ◌++◌, length, get_or, take, add-one, append-nil}
use Rattle.std.specs.List.{flat_map}
use Rattle.std.proofs.Math.Seq.{take-suc}
use Rattle.std.proofs.lemmas.Grind.{flat_map-append}
use Rattle.std.proofs.KnownBytes.{Appends-trans}
use Rattle.std.specs.declared.option.Option.{Option}
use Rattle.replay.specs.declared.lines.Output.{Output}
use Rattle.replay.specs.Outputs.{Gains}

-- what stands for one more thing comes behind what stands for the others
flat_map_more : {A : Type 0} (f : A → List ℕ) (xs : List A) (i : ℕ) (x : A) → i < length xs → x ≡ get_or xs i x
    → flat_map f (take (i + 1) xs) ≡ flat_map f (take i xs) ++ f x
flat_map_more f xs i x h e = rw (e, add-one, take-suc xs i x h, flat_map-append) (ap (λ l. flat_map f (take i xs) ++ l) (append-nil _))

-- an output that has gained i things gains one more
pub gains_more : {W : Type 0} {contents : W → Option (List ℕ)} {A : Type 0} (f : A → List ℕ) (xs : List A) (i : ℕ) (x : A)
    {old between new : Output W} {bs : List ℕ} → i < length xs → x ≡ get_or xs i x → Gains contents old (flat_map f (take i xs)) between
    → Gains contents between bs new → bs ≡ f x → Gains contents old (flat_map f (take (i + 1) xs)) new
gains_more {contents = contents} f xs i x {old = old} {between = between} {new = new} h e first last eb =
    rw (flat_map_more f xs i x h e, ← eb) (record {
      intact = λ ok. first.intact (last.intact ok);
      bytes = λ ok. Appends-trans (contents old.to) (contents between.to) (contents new.to) _ _ (first.bytes (last.intact ok)) (last.bytes ok);
    })
