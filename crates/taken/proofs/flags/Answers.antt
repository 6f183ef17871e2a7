-- The subfields that are left go where they went from the start.
use Rattle.std.proofs.Common.{◌+◌, ◌-◌, List, ℕ, Bool, set, sym, ap, ◌∙◌, arith}
use Rattle.std.specs.Borrow.{Bor}
use Rattle.codec.specs.Pick.{pick}
use Rattle.guess.specs.Guess.{bit}
use Rattle.taken.specs.Lines.{behind_at, there_at}
use Rattle.taken.specs.Laws.Lines.{flags_next, flags_none}
use Rattle.taken.proofs.flags.Goals as goal
use Rattle.taken.proofs.flags.Goals.{Joined-is_there, then-is_there, else-is_there}

pub loop-i-preserved : goal.loop-i-preserved
unfolding bit
loop-i-preserved c =
    let a = c.args in
    let i = c.loop-i.i in
    let rest = c.loop-i.rest.now in
    let there = c.is_there.ensures ∙ ap (λ j. there_at (a.b + i) j rest) c.less.ensures in
    let own = λ (x : Bool). pick x (behind_at (a.b + i) rest) rest in
    let put = λ (x : Bool). set c.loop-i.out (a.slot + i) (bit x) in
    elim c.if-is_there.branch [
      | then-is_there w ↦
          flags_next a.b a.left a.n i (omega arith) rest there (ap (λ (r : Bor (List ℕ)). r.now) w.rest-is ∙ w.passed-rest.ensures ∙ ap own (sym w.if-is_there.true)) a.slot c.loop-i.out (w.out-is ∙ ap put (sym w.if-is_there.true))
          ∙ c.loop-i.invariant
      | else-is_there w ↦
          flags_next a.b a.left a.n i (omega arith) rest there (ap (λ (r : Bor (List ℕ)). r.now) w.rest-is ∙ ap own (sym w.if-is_there.false)) a.slot c.loop-i.out (w.out-is ∙ ap put (sym w.if-is_there.false))
          ∙ c.loop-i.invariant
    ]

pub returns : goal.returns
returns c =
    let a = c.args in
    let i = c.loop-i.i in
    flags_none (a.b + i) (a.left - i) (a.n - i) (a.slot + i) c.loop-i.rest.now c.loop-i.out (omega arith) ∙ c.loop-i.invariant
