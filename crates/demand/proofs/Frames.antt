-- The theorem from bytes to bytes: whatever the bytes, the facts and the lent buffers, if the header entry accepts, and a section entry that is asked
-- with that header's frame answers a table, demand 3 holds of the header's frame, the table and the four lent tables. Over their promises.
use Prim.Native.Nat.{ℕ}
use mathlib.Core.Path.{◌≡◌, sym, ◌∙◌, ap}
use mathlib.Core.List.{List}
use lib.ListN.{length}
use Rattle.std.specs.Prelude.{Result}
use Rattle.bits.specs.declared.Refusal.{Refusal}
use Rattle.header.specs.declared.Facts.{Facts}
use Rattle.header.specs.declared.entry.HeaderRead.{HeaderRead}
use Rattle.header.specs.Entry.{judged, HeaderTold, told, Headed}
use Rattle.header.specs.Record.{frame_of}
use Rattle.order.specs.Tables.{identity}
use Rattle.toc.specs.declared.Toc.{Toc}
use Rattle.toc.specs.Reading.{Table, Tables, tables, first_reading, second_reading, Done}
use Rattle.demand.specs.Frames.{HandedOn, BytesToBytes}
use Rattle.demand.proofs.Theorem.{first_whole, second_whole}
use Rattle.demand.proofs.Headers.{handed_on, judged_facts}

-- `read_frame_header` was asked with the facts and the bytes s, and answered a (its promise, `Headed`), which refuses nothing
module _ (facts : Facts) (s : List ℕ) (a : Result HeaderRead Refusal) (name name' upsampling upsampling' blending blending' : List ℕ)
    (header : Headed facts s a name name' upsampling upsampling' blending blending') (accepted : (told a).refusal.number ≡ 0)
  where
    -- what the header hands on stands in the bytes
    pub header_handed : HandedOn facts s (told a)
    header_handed =
        let n : ℕ = length s in
        rw header.answer
        (handed_on facts s (judged n facts (length name) (length upsampling) (length blending))
        (judged_facts n facts (length name) (length upsampling) (length blending))
        (sym (ap (λ (x : HeaderTold). x.refusal.number) header.answer) ∙ accepted))

    -- `read_toc` was asked with a.header.frame() at a.end and lent four tables t; it answered a table, and left o, z, p, i (its promise, `Done`)
    pub first_frame : (t : Tables) (toc : Toc) (o z p i : List ℕ) → Done (first_reading s (frame_of (told a).header) (told a).end t) t (Table toc) o z p i
        → BytesToBytes facts s (told a) toc (identity toc.count) (first_reading s (frame_of (told a).header) (told a).end t).sizes (tables o z p i)
    first_frame t toc o z p i d = record { handed_on = header_handed; whole = first_whole s (frame_of (told a).header) (told a).end t toc o z p i d }

    -- `read_toc_with_order` was asked with a.header.frame() at a place, as that behind the order, and lent an order and four tables; it answered a
    -- table, and left o, z, p, i
    pub second_frame : (place : ℕ) (order : List ℕ) (t : Tables) (toc : Toc) (o z p i : List ℕ)
        → Done (second_reading s (frame_of (told a).header) place order t) t (Table toc) o z p i
        → BytesToBytes facts s (told a) toc order (second_reading s (frame_of (told a).header) place order t).sizes (tables o z p i)
    second_frame place order t toc o z p i d =
        record { handed_on = header_handed; whole = second_whole s (frame_of (told a).header) place order t toc o z p i d }
