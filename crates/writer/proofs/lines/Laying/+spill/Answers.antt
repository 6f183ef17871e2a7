-- `writer::lines::Laying::spill` meets its contract: one law at each way out. Assumes nothing.
use mathlib.Core.Path.{ap, ◌∙◌}
use Prim.Native.Nat.{◌-◌, ◌*◌, ◌^◌, ◌/◌, ◌<◌}
use native.Mathlib.Omega.{arith}
use lib.ListN.{set}
use lib.Pow.{pow_pos}
use mir.Facts.{Fits-of_lt}
use Rattle.leaves.specs.{octet_is}
use Rattle.writer.specs.Laws.Lines.{spill_none, spill_on, spill_octet, spill_rest}
use borrow.Author.Rules.{rules}
use Rattle.writer.proofs.lines.Laying.+spill.Goals as goal

pub returns-then-k-eq0-clause-octets : goal.returns-then-k-eq0-clause-octets
returns-then-k-eq0-clause-octets t c =
    let a = c.args in
    spill_none a.self.now.octets a.self.now.at a.k a.n c.if-k-eq0.true

pub overflow_sub-k : goal.overflow_sub-k
overflow_sub-k t c = omega arith

pub overflow_mul-k : goal.overflow_mul-k
overflow_mul-k t c = let g = c.requires in Fits-of_lt (omega (arith, g))

pub power-full-requires : goal.power-full-requires
power-full-requires t c = let g = c.requires in omega (arith, g)

pub nonzero_div-n : goal.nonzero_div-n
nonzero_div-n t c =
    let k = c.args.k in
    let h : 0 < 2 ^ (8 * (k - 1)) = pow_pos (8 * (k - 1)) in
    omega (arith, c.power-full.ensures)

pub octet64-requires : goal.octet64-requires
octet64-requires t c = search rules

pub nonzero_rem-n : goal.nonzero_rem-n
nonzero_rem-n t c =
    let k = c.args.k in
    let h : 0 < 2 ^ (8 * (k - 1)) = pow_pos (8 * (k - 1)) in
    omega (arith, c.power-full.ensures)

pub overflow_sub-k-2 : goal.overflow_sub-k-2
overflow_sub-k-2 t c = omega arith

pub overflow_add-self : goal.overflow_add-self
overflow_add-self t c = let g = c.requires in Fits-of_lt (omega (arith, g))

pub spill-requires : goal.spill-requires
spill-requires t c =
    let g = c.requires in
    (omega (arith, c.decreases, c.if-k-eq0.false), (omega (arith, g, c.if-k-eq0.false), omega (arith, g), spill_rest c.args.k c.args.n c.if-k-eq0.false c.power-full.ensures))

pub returns-clause-octets : goal.returns-clause-octets
returns-clause-octets t c =
    let a = c.args in
    let small = octet_is (a.n / c.power-full.result) (spill_octet a.k a.n c.if-k-eq0.false c.power-full.ensures c.requires.2) in
    spill_on a.k a.n c.if-k-eq0.false c.power-full.ensures a.self.now.octets a.self.now.at (ap (set a.self.now.octets a.self.now.at) (c.octet64.ensures ∙ small)) c.spill.ensures.octets
