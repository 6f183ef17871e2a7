-- `writer::write` meets its contract: one law at each way out. Assumes nothing.
use mathlib.Core.Path.{refl, sym, ◌∙◌}
use Rattle.std.proofs.lemmas.Result.{err_from_is_err_and}
use Rattle.writer.specs.Laws.Writes.{wrote_unknown, wrote_refused, stands_whole, wrote_all}
use Rattle.writer.proofs.write.Goals as goal

pub checked-requires : goal.checked-requires
checked-requires c = (sym c.is_known.ensures ∙ c.if-is_known.true, refl)

pub returns-in_err-n : goal.returns-in_err-n
returns-in_err-n c =
    let p = err_from_is_err_and c.from_residual.result c.from_residual.ensures.1 in
    rw (p.1, p.2) (wrote_refused c.args.kept (sym c.is_known.ensures ∙ c.if-is_known.true) c.in_err-n.ensures c.args.out.now refl)

pub slice_bounds-octets-end : goal.slice_bounds-octets-end
slice_bounds-octets-end c = (stands_whole c.args.kept (sym c.is_known.ensures ∙ c.if-is_known.true) c.in_ok-n.ensures refl).0

pub slice_bounds-deliver-end : goal.slice_bounds-deliver-end
slice_bounds-deliver-end c = (stands_whole c.args.kept (sym c.is_known.ensures ∙ c.if-is_known.true) c.in_ok-n.ensures refl).1

pub returns-then-is_known : goal.returns-then-is_known
returns-then-is_known c = wrote_all c.args.kept (sym c.is_known.ensures ∙ c.if-is_known.true) c.in_ok-n.ensures refl refl c.deliver.ensures

pub returns : goal.returns
returns c = rw c.at.ensures (wrote_unknown c.args.kept c.args.out.now (sym c.is_known.ensures ∙ c.if-is_known.false))
