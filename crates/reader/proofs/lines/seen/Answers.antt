-- `reader::lines::seen` meets its contract: one law at each way out. Assumes nothing.
use mathlib.Core.Path.{◌≡◌, refl, sym, ◌∙◌, subst}
use Prim.Native.Nat.{◌-◌}
use native.Mathlib.Omega.{arith}
use borrow.Author.Tests.{ltb-true, ltb-false}
use lib.ListN.{length, take, drop}
use Rattle.codec.specs.Radix.{join, eights}
use mir.Facts.{Fits-of_lt}
use Rattle.lengths.specs.Laws.Formats.{format_few, format_narrow}
use Rattle.reader.specs.Laws.Lines.{line_missing, line_spared, line_outside, line_found}
use Rattle.reader.specs.Laws.Seen.{ends_got, ends_bad}
use Rattle.reader.proofs.lines.seen.Goals as goal

pub short-requires : goal.short-requires
short-requires g c = (omega (arith, c.from-from.ensures, c.ranges.at.fits), format_few g.row.B c.format_of-format.ensures)

pub returns-then-short : goal.returns-then-short
returns-then-short g c =
    let a = c.args in
    let h = ltb-true (length a.s.now - c.from-from.result) _ (sym c.short.ensures ∙ c.if-short.true) in
    ends_bad 5 a.at (line_missing a.s.now a.at g.row.B c.format_of-format.ensures (omega (arith, h, c.from-from.ensures))) refl (omega arith, omega arith, omega (arith, c.ranges.at.fits))

pub octets-n-requires : goal.octets-n-requires
octets-n-requires g c =
    (ltb-false (length c.args.s.now - c.from-from.result) _ (sym c.short.ensures ∙ c.if-short.false), format_few g.row.B c.format_of-format.ensures)

pub overflow_mul-k : goal.overflow_mul-k
overflow_mul-k g c =
    Fits-of_lt (omega (arith, format_few g.row.B c.format_of-format.ensures))

pub within-requires : goal.within-requires
within-requires g c =
    let b = g.row.B in
    (omega (arith, format_few b c.format_of-format.ensures), format_narrow b c.format_of-format.ensures)

pub returns-then-within : goal.returns-then-within
returns-then-within g c =
    let a = c.args in
    let h = ltb-false (length a.s.now - c.from-from.result) _ (sym c.short.ensures ∙ c.if-short.false) in
    ends_got _ _ (line_found a.s.now a.at g.row.B c.format_of-format.ensures (omega (arith, h, c.from-from.ensures)) (subst (λ i. c.octets-n.result ≡ join (eights c.format_of-format.result.octets) (take c.format_of-format.result.octets (drop i a.s.now))) c.from-from.ensures c.octets-n.ensures.0) c.octets-n.ensures.1 c.if-n-format-eq0.true c.within.ensures c.if-within.true) (omega (arith, h, c.from-from.ensures, c.requires, c.ranges.at.fits)) (omega (arith, h, c.requires, c.from-from.ensures, c.ranges.at.fits, format_few g.row.B c.format_of-format.ensures))

pub returns-then-n-format-eq0 : goal.returns-then-n-format-eq0
returns-then-n-format-eq0 g c =
    let a = c.args in
    let h = ltb-false (length a.s.now - c.from-from.result) _ (sym c.short.ensures ∙ c.if-short.false) in
    ends_bad 8 a.at (line_outside a.s.now a.at g.row.B c.format_of-format.ensures (omega (arith, h, c.from-from.ensures)) (subst (λ i. c.octets-n.result ≡ join (eights c.format_of-format.result.octets) (take c.format_of-format.result.octets (drop i a.s.now))) c.from-from.ensures c.octets-n.ensures.0) c.octets-n.ensures.1 c.if-n-format-eq0.true c.within.ensures c.if-within.false) refl (omega arith, omega arith, omega (arith, c.ranges.at.fits))

pub returns : goal.returns
returns g c =
    let a = c.args in
    let h = ltb-false (length a.s.now - c.from-from.result) _ (sym c.short.ensures ∙ c.if-short.false) in
    ends_bad 6 a.at (line_spared a.s.now a.at g.row.B c.format_of-format.ensures (omega (arith, h, c.from-from.ensures)) (subst (λ i. c.octets-n.result ≡ join (eights c.format_of-format.result.octets) (take c.format_of-format.result.octets (drop i a.s.now))) c.from-from.ensures c.octets-n.ensures.0) c.octets-n.ensures.1 c.if-n-format-eq0.false) refl (omega arith, omega arith, omega (arith, c.ranges.at.fits))

pub overflow_add-result : goal.overflow_add-result
overflow_add-result g c =
    Fits-of_lt (omega (arith, c.from-from.ensures, c.ranges.at.fits, format_few g.row.B c.format_of-format.ensures))
