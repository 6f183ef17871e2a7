-- `reader::numbers::store` meets its contract: what is stored so far, with what is still to be stored, is always the same. Assumes nothing.
use mathlib.Core.Path.{◌≡◌, refl, sym, ap, ◌∙◌, subst}
use mathlib.Core.List.{List}
use Prim.Native.Nat.{◌-◌}
use native.Mathlib.Omega.{arith}
use lib.IntN.{ℤ}
use lib.Seq.{sets}
use mir.Facts.{Fits-of_lt}
use Rattle.lengths.specs.Lines.{pieces_from}
use Rattle.reader.specs.Numbers.{nums_at}
use Rattle.reader.specs.Laws.Taking.{Storing, piece_fits_lem, store_more}
use Rattle.reader.proofs.numbers.store.Goals as goal

pub loop-init : goal.loop-init
loop-init c =
    let a = c.args in let g = c.requires in
    let z : a.runs ≡ a.runs - 0 = omega arith in
    let end : List ℤ = sets a.numbers.now a.first (nums_at (pieces_from a.runs a.code) a.n a.shift) in
    subst (λ j. Storing a.numbers.now end a.n a.numbers.now a.first j a.code a.shift) z (record { low = g.0; thin = g.2; long = refl; room = omega (arith, g.3); same = refl })

pub piece-slot-requires : goal.piece-slot-requires
piece-slot-requires c =
    let a = c.args in let i = c.loop in let s = i.invariant in
    (omega arith, omega (arith, c.less64-next.ensures, s.low), λ z. let p = piece_fits_lem i.rest (a.runs - i.counter) a.n i.next (λ e. omega (arith, c.loop-test.true, e)) s z in (p.0, omega (arith, p.1, s.long)))

-- the slots after the piece, as far as they go
pub overflow_add-slot : goal.overflow_add-slot
overflow_add-slot c =
    let a = c.args in let i = c.loop in
    let s = store_more i.rest (a.runs - i.counter) a.n i.next (λ e. omega (arith, c.loop-test.true, e)) i.invariant c.less64-next.ensures refl c.piece-slot.ensures in
    Fits-of_lt (omega (arith, s.room, s.long))

pub loop-preserved : goal.loop-preserved
loop-preserved c =
    let a = c.args in
    let i = c.loop in
    store_more i.rest (a.runs - i.counter) a.n i.next (λ e. omega (arith, c.loop-test.true, e)) i.invariant c.less64-next.ensures (omega arith) c.piece-slot.ensures

pub returns : goal.returns
unfolding pieces_from nums_at
returns c =
    let i = c.loop in
    let z : c.args.runs - i.counter ≡ 0 = omega (arith, c.loop-test.false) in
    ap (λ j. sets i.numbers i.slot (nums_at (pieces_from j i.rest) c.args.n i.next)) (sym z) ∙ i.invariant.same
