-- `writer::reads_back` meets its contract: one law at each way out. Assumes nothing.
use Rattle.std.proofs.Common.{sym, ◌∙◌}
use Rattle.std.proofs.lemmas.Bool.Decides.{not_from_Decides}
use native.Mathlib.Omega.{arith}
use Rattle.codec.proofs.Laws.Codec.{octets_all}
use Rattle.writer.specs.Laws.Same.{same_records}
use Rattle.writer.specs.Laws.Checked.{back_same, back_other}
use Rattle.writer.proofs.reads_back.Goals as goal

pub returns-then-eq : goal.returns-then-eq
returns-then-eq c =
    let a = c.args in
    back_same a.kept c.requires c.read-back.ensures (octets_all a.octets.now (λ i. omega (arith, c.type_inv.octets i)))
    ((same_records c.read-back.result.kept a.kept).0 (sym c.eq.ensures ∙ c.if-eq.true))

pub returns : goal.returns
returns c =
    let a = c.args in
    rw c.at.ensures (back_other a.kept c.requires c.read-back.ensures (not_from_Decides _ (same_records c.read-back.result.kept a.kept) (sym c.eq.ensures ∙ c.if-eq.false)))
