-- `rebuild::rebuild` meets its contract: one law at each way out. Assumes nothing.
use mathlib.Core.Path.{◌≡◌, refl, sym, ap, ◌∙◌}
use Prim.Native.Nat.{ℕ}
use native.Mathlib.Omega.{arith}
use lib.ListN.{length-replicate, length-take}
use Rattle.std.proofs.lemmas.Result.{err_from_is_err_and}
use Rattle.papers.specs.Papers.{LONGEST}
use Rattle.layout.specs.declared.Record.{Record}
use Rattle.guess.specs.Guess.{bounded_in, length_in}
use Rattle.guess.proofs.Laws.Rebuilt.{wrong_in}
use Rattle.rebuild.specs.Rebuilds.{given_by}
use Rattle.rebuild.specs.Laws.Rebuilds.{guess_category, octets_in, octets_written, wrong_told, line_some, line_none, rebuild_long, rebuild_line, rebuild_length, rebuild_given}
use Rattle.rebuild.proofs.rebuild.Goals as goal

pub returns-then-text-gt32768 : goal.returns-then-text-gt32768
returns-then-text-gt32768 c = rw c.at.ensures (rebuild_long c.args.text.now c.args.out.now c.if-text-gt32768.true)

pub slice_bounds-field-end : goal.slice_bounds-field-end
slice_bounds-field-end c =
    let w = octets_written c.args.text.now c.record-kept.ensures (length-replicate {A = ℕ} LONGEST 0) c.write.ensures (c.unwrap_or-n.ensures ∙ octets_in c.write.result) in
    w.2

pub slice_bounds-wrong-end : goal.slice_bounds-wrong-end
slice_bounds-wrong-end c =
    let w = octets_written c.args.text.now c.record-kept.ensures (length-replicate {A = ℕ} LONGEST 0) c.write.ensures (c.unwrap_or-n.ensures ∙ octets_in c.write.result) in
    omega (arith, w.2, length-take c.unwrap_or-n.result c.write.new.out)

pub returns-in-Some : goal.returns-in-Some
unfolding length_in
returns-in-Some c =
    let t = c.args.text.now in
    let w = octets_written t c.record-kept.ensures (length-replicate {A = ℕ} LONGEST 0) c.write.ensures (c.unwrap_or-n.ensures ∙ octets_in c.write.result) in
    let len = c.bounded-len.ensures ∙ ap (bounded_in 2 255) c.next.ensures in
    let line = line_some (wrong_in t) (sym (wrong_told t c.record-kept.ensures w.1 len c.wrong.ensures) ∙ c.in-Some.is) in
    rw c.at-in-Some.ensures (rebuild_line t c.args.out.now c.if-text-gt32768.false line.0 line.1)

pub returns-then-len-n : goal.returns-then-len-n
unfolding length_in
returns-then-len-n c =
    let t = c.args.text.now in
    let w = octets_written t c.record-kept.ensures (length-replicate {A = ℕ} LONGEST 0) c.write.ensures (c.unwrap_or-n.ensures ∙ octets_in c.write.result) in
    let len = c.bounded-len.ensures ∙ ap (bounded_in 2 255) c.next.ensures in
    let none = line_none (wrong_in t) (sym (wrong_told t c.record-kept.ensures w.1 len c.wrong.ensures) ∙ c.in_default.is) in
    rw c.at-then-len-n.ensures (rebuild_length t c.args.out.now c.if-text-gt32768.false refl none len w.0 c.if-len-n.true)

pub slice_bounds-field-end-2 : goal.slice_bounds-field-end-2
slice_bounds-field-end-2 c =
    let w = octets_written c.args.text.now c.record-kept.ensures (length-replicate {A = ℕ} LONGEST 0) c.write.ensures (c.unwrap_or-n.ensures ∙ octets_in c.write.result) in
    w.2

pub slice_bounds-deliver-end : goal.slice_bounds-deliver-end
slice_bounds-deliver-end c =
    let w = octets_written c.args.text.now c.record-kept.ensures (length-replicate {A = ℕ} LONGEST 0) c.write.ensures (c.unwrap_or-n.ensures ∙ octets_in c.write.result) in
    omega (arith, w.2, length-take c.unwrap_or-n.result c.write.new.out)

pub returns-in_err-given : goal.returns-in_err-given
unfolding length_in given_by
returns-in_err-given c =
    let t = c.args.text.now in
    let w = octets_written t c.record-kept.ensures (length-replicate {A = ℕ} LONGEST 0) c.write.ensures (c.unwrap_or-n.ensures ∙ octets_in c.write.result) in
    let len = c.bounded-len.ensures ∙ ap (bounded_in 2 255) c.next.ensures in
    let none = line_none (wrong_in t) (sym (wrong_told t c.record-kept.ensures w.1 len c.wrong.ensures) ∙ c.in_default.is) in
    let p = err_from_is_err_and c.from_residual.result c.from_residual.ensures.1 in
    rw (p.1, p.2)
    (rebuild_given t c.args.out.now c.if-text-gt32768.false refl none len w.0 c.if-len-n.false (ap (λ (f : Record). f.cat) c.record-kept.ensures ∙ guess_category t) w.1 c.in_err-given.ensures refl)

pub returns : goal.returns
unfolding length_in given_by
returns c =
    let t = c.args.text.now in
    let w = octets_written t c.record-kept.ensures (length-replicate {A = ℕ} LONGEST 0) c.write.ensures (c.unwrap_or-n.ensures ∙ octets_in c.write.result) in
    let len = c.bounded-len.ensures ∙ ap (bounded_in 2 255) c.next.ensures in
    let none = line_none (wrong_in t) (sym (wrong_told t c.record-kept.ensures w.1 len c.wrong.ensures) ∙ c.in_default.is) in
    rebuild_given t c.args.out.now c.if-text-gt32768.false refl none len w.0 c.if-len-n.false (ap (λ (f : Record). f.cat) c.record-kept.ensures ∙ guess_category t) w.1 c.in_ok-given.ensures refl
