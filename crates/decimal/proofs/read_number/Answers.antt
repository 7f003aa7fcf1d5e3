-- `read_number`: what is left of the text is what the definition has left to judge.
use Rattle.std.proofs.Common.{refl, sym, ◌∙◌, ap}
use Rattle.decimal.specs.Decimal.{told}
use Rattle.decimal.proofs.Scanning.{scans_none, headless, scans_end, scans_other, scans_large, scans_more}
use Rattle.decimal.proofs.read_number.Goals as goal

pub returns-then-not-leads : goal.returns-then-not-leads
returns-then-not-leads c = ap told (headless c.args.limit c.args.s.now (sym c.leads.ensures ∙ c.if-not-leads.true))

pub loop-b-init : goal.loop-b-init
loop-b-init c = scans_none c.args.limit c.args.s.now (sym c.leads.ensures ∙ c.if-not-leads.false)

pub returns-then-not-is_ascii_digit : goal.returns-then-not-is_ascii_digit
returns-then-not-is_ascii_digit c =
    ap told (scans_other c.args.limit c.args.s.now _ _ c.loop-b.invariant c.loop-b-test.true _ refl (sym c.is_ascii_digit.ensures.value ∙ c.if-not-is_ascii_digit.true))

pub returns-then-not-fits : goal.returns-then-not-fits
returns-then-not-fits c =
    ap told (scans_large c.args.limit c.args.s.now _ _ c.loop-b.invariant c.loop-b-test.true _ refl (sym c.is_ascii_digit.ensures.value ∙ c.if-not-is_ascii_digit.false)
    _ c.from-d.ensures (sym c.fits.ensures ∙ c.if-not-fits.true))

pub loop-b-preserved : goal.loop-b-preserved
loop-b-preserved c =
    scans_more c.args.limit c.args.s.now _ _ c.loop-b.invariant c.loop-b-test.true _ refl (sym c.is_ascii_digit.ensures.value ∙ c.if-not-is_ascii_digit.false)
    _ c.from-d.ensures (sym c.fits.ensures ∙ c.if-not-fits.false)

pub returns : goal.returns
returns c = ap told (scans_end c.args.limit c.args.s.now _ _ c.loop-b.invariant c.loop-b-test.false)
