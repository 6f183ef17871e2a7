-- `reader::read_into` meets its contract: one law at each way out. Assumes nothing.
use Rattle.std.proofs.Common.{◌≡◌, ap, ◌∙◌, ◌++◌, drop, length, replicate, pos, rules}
use Rattle.std.proofs.lemmas.List.{drop_all, append-nil}
use native.Mathlib.Omega.{arith}
use Rattle.std.proofs.lemmas.Result.{err_from_is_err_and}
use Rattle.codec.proofs.Laws.Codec.{octets_all}
use Rattle.papers.specs.Papers.{SLOTS}
use Rattle.reader.specs.Laws.Records.{accepted_ok, into_err, into_none, room, row-asks, into_all}
use Rattle.reader.proofs.read_into.Goals.{else-numbers-eq-SLOTS-via-else-numbers-eq-SLOTS, else-numbers-eq-SLOTS-via-then-numbers-eq-SLOTS+in-None-1}
use Rattle.reader.proofs.read_into.Goals as goal

pub returns-in_err-found : goal.returns-in_err-found
returns-in_err-found c =
    let p = err_from_is_err_and c.from_residual.result c.from_residual.ensures.1 in
    rw (p.1, p.2) (into_err c.args.cat c.args.field.now _ c.in_err-found.ensures)

pub slice_bounds-row-end : goal.slice_bounds-row-end
slice_bounds-row-end c = room (accepted_ok c.args.cat c.args.field.now c.in_ok-found.ensures)

pub row-requires : goal.row-requires
row-requires c =
    let a = c.args in
    let zeros : c.fill.new.self ≡ replicate (length a.numbers.now) (pos 0) = search rules in
    let asks = row-asks (accepted_ok a.cat a.field.now c.in_ok-found.ensures) c.in_ok-found.ensures a.numbers.now zeros c.if-numbers-eq-SLOTS.true (octets_all a.field.now (λ j. omega (arith, c.type_inv.field j))) in
    (asks.0, asks.2)

pub returns : goal.returns
returns c =
    let a = c.args in
    let zeros : c.fill.new.self ≡ replicate (length a.numbers.now) (pos 0) = search rules in
    let whole : c.row.new.numbers ++ drop SLOTS a.numbers.now ≡ c.row.new.numbers
    = ap (c.row.new.numbers ++◌) (drop_all SLOTS a.numbers.now (omega arith)) ∙ append-nil _ in
    rw whole (into_all (accepted_ok a.cat a.field.now c.in_ok-found.ensures) c.in_ok-found.ensures a.numbers.now zeros c.if-numbers-eq-SLOTS.true c.row.ensures)

pub returns-2 : goal.returns-2
returns-2 c =
    let a = c.args in
    let other : (length a.numbers.now ≡ SLOTS → ⊥) × (c.else-numbers-eq-SLOTS.numbers ≡ a.numbers.now)
    = elim c.else-numbers-eq-SLOTS.branch [
      | else-numbers-eq-SLOTS-via-else-numbers-eq-SLOTS w ↦ (w.if-numbers-eq-SLOTS.false, search rules)
      | else-numbers-eq-SLOTS-via-then-numbers-eq-SLOTS+in-None-1 w ↦ absurd (search rules)
    ] in
    rw (c.at.ensures, other.1) (into_none (accepted_ok a.cat a.field.now c.in_ok-found.ensures) other.0)
