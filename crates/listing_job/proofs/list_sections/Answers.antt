-- `list_sections`: one law for each answer of the section entry.
use Rattle.std.proofs.Common.{◌≡◌, ap}
use Rattle.std.specs.Prelude.{Ok}
use Rattle.toc.specs.declared.TocRead.TheVariants.{Table as ReadTable, OrderNeeded as ReadOrderNeeded}
use Rattle.toc.specs.Reading.{Table, OrderNeeded, toc_told}
use Rattle.listing_job.proofs.Jobs.{sections_table, sections_needed, sections_refused}
use Rattle.listing_job.proofs.list_sections.Goals as goal

pub returns-in-Table : goal.returns-in-Table
returns-in-Table c =
    let ok : c.read_toc-read.result ≡ Ok c.in-Ok.t = c.in-Ok.is in
    let table : c.in-Ok.t ≡ ReadTable c.in-Table.x = c.in-Table.is in
    let told : toc_told c.read_toc-read.result ≡ Table c.in-Table.x = rw (ok, table) in
    sections_table c.args.s.now c.args.f c.args.place _ _ _ _ _ c.read_toc-read.ensures _ told c.args.out.now _ c.list_table.ensures

pub returns-in-OrderNeeded : goal.returns-in-OrderNeeded
returns-in-OrderNeeded c =
    let ok : c.read_toc-read.result ≡ Ok c.in-Ok.t = c.in-Ok.is in
    let needed : c.in-Ok.t ≡ ReadOrderNeeded c.in-OrderNeeded.p = c.in-OrderNeeded.is in
    let told : toc_told c.read_toc-read.result ≡ OrderNeeded c.in-OrderNeeded.p = rw (ok, needed) in
    sections_needed c.args.s.now c.args.f c.args.place _ _ _ _ _ c.read_toc-read.ensures c.args.out.now _ _ told c.write_order_needed.ensures

pub returns-in-Err : goal.returns-in-Err
returns-in-Err c =
    sections_refused c.args.s.now c.args.f c.args.place _ _ _ _ _ c.read_toc-read.ensures c.args.out.now _ _ (ap toc_told c.in-Err.is) c.write_refused.ensures
