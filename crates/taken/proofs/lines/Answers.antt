-- The lines that are left go where they went from the start.
use Rattle.std.proofs.Common.{◌+◌, ◌-◌, List, [], ℕ, Bool, sym, ap, ◌∙◌, arith}
use Rattle.std.specs.Borrow.{Bor}
use Rattle.std.proofs.lemmas.List.Edits.{sets}
use Rattle.codec.specs.Pick.{pick}
use Rattle.lengths.specs.Lines.{first_at}
use Rattle.taken.specs.Lines.{behind_at, taken_at, there_at}
use Rattle.taken.specs.Laws.Lines.{lines_none, first_room, asks_next, lines_next}
use Rattle.taken.proofs.lines.Goals as goal
use Rattle.taken.proofs.lines.Goals.{then-is_there, else-is_there}

pub line-rest-requires : goal.line-rest-requires
line-rest-requires c = first_room (c.args.b + c.loop-i.i) (c.args.left - c.loop-i.i) (λ e. omega arith) c.args.base c.loop-i.invariant.asks.2

pub line-requires : goal.line-requires
line-requires c = first_room (c.args.b + c.loop-i.i) (c.args.left - c.loop-i.i) (λ e. omega arith) c.args.base c.loop-i.invariant.asks.2

pub loop-i-preserved : goal.loop-i-preserved
loop-i-preserved c =
    let a = c.args in
    let i = c.loop-i.i in
    let rest = c.loop-i.rest.now in
    let so_far = c.loop-i.invariant in
    let asks = asks_next a.b a.left i (omega arith) a.base so_far.asks in
    let there = c.is_there.ensures ∙ ap (λ j. there_at (a.b + i) j rest) c.less.ensures in
    let own = λ (x : Bool). pick x (behind_at (a.b + i) rest) rest in
    let put = λ (x : Bool). sets c.loop-i.out (a.base + first_at (a.b + i)) (taken_at (a.b + i) (pick x rest [])) in
    elim c.if-is_there.branch [
      | then-is_there w ↦
          let next = lines_next a.b a.left a.n i (omega arith) rest there (ap (λ (r : Bor (List ℕ)). r.now) w.rest-is ∙ w.line-rest.ensures.behind ∙ ap own (sym w.if-is_there.true)) so_far.asks.1 a.base c.loop-i.out (w.out-is ∙ w.line-rest.ensures.kept ∙ ap put (sym w.if-is_there.true)) in
          record { asks = asks; behind = next.0 ∙ so_far.behind; kept = next.1 ∙ so_far.kept }
      | else-is_there w ↦
          let next = lines_next a.b a.left a.n i (omega arith) rest there (ap (λ (r : Bor (List ℕ)). r.now) w.rest-is ∙ ap own (sym w.if-is_there.false)) so_far.asks.1 a.base c.loop-i.out (w.out-is ∙ w.line.ensures.kept ∙ ap put (sym w.if-is_there.false)) in
          record { asks = asks; behind = next.0 ∙ so_far.behind; kept = next.1 ∙ so_far.kept }
    ]

pub returns : goal.returns
returns c =
    let a = c.args in
    let i = c.loop-i.i in
    let all = lines_none (a.b + i) (a.left - i) (a.n - i) a.base c.loop-i.rest.now c.loop-i.out (omega arith) in
    record { behind = all.0 ∙ c.loop-i.invariant.behind; kept = all.1 ∙ c.loop-i.invariant.kept }
