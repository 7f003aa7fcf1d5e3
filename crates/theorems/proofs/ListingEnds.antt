-- Texts: 3 where one doesn't fit; a table's listing 8, 9, 10, 3, 13. Refused, the length is 0 and the lent bytes are as they were.
use Prim.Native.Nat.{ℕ}
use native.Mathlib.Omega.{arith}
use mathlib.Core.Path.{◌≡◌, refl, ◌∙◌, ap}
use borrow.Author.Tests.{eqb-false}
use mathlib.Core.List.{List}
use mathlib.Core.Bool.{Bool, ◌&&◌}
use lib.Dec.{eqb, leb}
use lib.ListN.{length}
use Rattle.std.specs.Prelude.{Result, Ok, Err}
use Rattle.bits.specs.declared.Refusal.{Refusal}
use Rattle.bits.specs.Refusals.{pick, refusal, none}
use Rattle.grid.specs.declared.Frame.{Frame}
use Rattle.grid.specs.Measured.{Measured, grid_of}
use Rattle.order.specs.Order.{checked}
use Rattle.order.proofs.Entries.{split}
use Rattle.listing.specs.Put.{fitted, answer_by, Texted}
use Rattle.listing.specs.Text.{refused_text, order_text}
use Rattle.listing_job.specs.Job.{job_text}
use Rattle.listing.specs.Listed.{listing, listing_refusal}
use Rattle.theorems.specs.Refusing.{Refuses, TextEnds, of_frame, of_order, of_text, of_listing}
use Rattle.theorems.proofs.Refusing.{refuses_none, refuses_here, refuses_pick, refuses_more}
use Rattle.theorems.proofs.GridEnds.{grid_refuses}
use Rattle.theorems.proofs.SectionEnds.{check_order}

texted : (l : List ℕ) (r : Refusal) (text before : List ℕ) (a : Result ℕ Refusal) (after : List ℕ) → Refuses l 0 r → Texted r text before a after
    → TextEnds l a before after
unfolding answer_by
texted l r text before a after d h =
    split (eqb r.number 0)
    (λ e.
    let is : a ≡ Ok (length text) = rw e at h.answer in
    rw is (λ r' e' z. cc, record { refuses = refuses_none l 0 d.ruled; either = λ some. absurd (some refl) }))
    (λ e.
    let is : a ≡ Err r = rw e at h.answer in
    let same : after ≡ before = rw e at h.bytes in
    let none : (r' : Refusal) → a ≡ Err r' → r'.number ≡ 0 → ⊥ =
    λ r' e' z. let one : r ≡ r' = cc in eqb-false r.number 0 e (ap (λ (x : Refusal). x.number) one ∙ z) in
    (none, rw (is, same) (record { refuses = d; either = λ some. refl })))

pub fits : (text out : List ℕ) → Refuses of_text 0 (fitted text out)
fits text out =
    refuses_pick of_text 0 (leb (length text) (length out)) none (refusal 3 0) (refuses_none of_text 0 refl) (refuses_here of_text 3 refl refl)

-- a function that writes a text, whatever the text is
text_ends : (text before : List ℕ) (a : Result ℕ Refusal) (after : List ℕ) → Texted (fitted text before) text before a after
    → TextEnds of_text a before after
text_ends text before a after h = texted of_text (fitted text before) text before a after (fits text before) h

pub list_frame : (input before : List ℕ) (a : Result ℕ Refusal) (after : List ℕ) → Texted (fitted (job_text input) before) (job_text input) before a after
    → TextEnds of_text a before after
list_frame input before a after h = text_ends (job_text input) before a after h

pub write_refused : (r : Refusal) (before : List ℕ) (a : Result ℕ Refusal) (after : List ℕ)
    → Texted (fitted (refused_text r) before) (refused_text r) before a after
    → TextEnds of_text a before after
write_refused r before a after h = text_ends (refused_text r) before a after h

pub write_order_needed : (place : ℕ) (before : List ℕ) (a : Result ℕ Refusal) (after : List ℕ)
    → Texted (fitted (order_text place) before) (order_text place) before a after
    → TextEnds of_text a before after
write_order_needed place before a after h = text_ends (order_text place) before a after h

listing_refuses : (f : Frame) (offsets sizes order out : List ℕ) → Refuses of_listing 0 (listing_refusal f offsets sizes order out)
unfolding listing_refusal
listing_refuses f offsets sizes order out =
    let g : Measured = grid_of f in
    let room : Bool =
    (leb g.sections (length offsets) && leb g.sections (length sizes)) && leb (length (listing f offsets sizes order)) (length out) in
    refuses_pick of_listing 0 (eqb g.refusal.number 0) (pick room (checked g.sections order) (refusal 3 0)) g.refusal
    (refuses_pick of_listing 0 room (checked g.sections order) (refusal 3 0)
    (refuses_more of_listing of_order 0 0 _ refl refl (omega arith) (check_order g.sections order))
    (refuses_here of_listing 3 refl refl))
    (refuses_more of_listing of_frame 0 0 g.refusal refl refl (omega arith) (grid_refuses f))

pub write_listing : (f : Frame) (offsets sizes order before : List ℕ) (a : Result ℕ Refusal) (after : List ℕ)
    → Texted (listing_refusal f offsets sizes order before) (listing f offsets sizes order) before a after → TextEnds of_listing a before after
write_listing f offsets sizes order before a after h =
    texted of_listing _ (listing f offsets sizes order) before a after (listing_refuses f offsets sizes order before) h
