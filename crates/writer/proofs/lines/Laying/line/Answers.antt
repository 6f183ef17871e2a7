-- `writer::lines::Laying::line` meets its contract: one law at each way out. Assumes nothing.
use Prim.Native.Nat.{ℕ, ◌*◌, ◌^◌, ◌≤◌, ◌<◌}
use native.Mathlib.Nat.{lt_of_lt_of_le}
use native.Mathlib.Omega.{arith}
use lib.Pow.{pow_pos, pow_mono}
use mir.Facts.{Fits-of_lt}
use Rattle.lengths.specs.Laws.Lines.{few_line_slots}
use Rattle.lengths.specs.Laws.Formats.{format_few, format_runs, format_fx_few, format_first}
use Rattle.writer.specs.Laws.Lines.{row-bits, line_full, line_number, line_laid}
use Rattle.writer.proofs.lines.Laying.line.Goals as goal

-- a number of at most six octets
under : {x k : ℕ} → k ≤ 6 → x < 2 ^ (8 * k) → x < 18_446_744_073_709_551_616
under {x} {k} h lt = lt_of_lt_of_le lt (pow_mono {i = 8 * k} {j = 64} (omega arith))

pub overflow_sub-k : goal.overflow_sub-k
overflow_sub-k c = omega (arith, format_few c.args.b c.format_of-format.ensures)

pub returns-then-k-self : goal.returns-then-k-self
returns-then-k-self c =
    let a = c.args in
    λ zs h. line_full a.b c.format_of-format.ensures a.slots.numbers.now a.slots.base a.fx a.self.now.at a.self.now.octets c.if-k-self.true zs

pub overflow_mul-bits : goal.overflow_mul-bits
overflow_mul-bits c = Fits-of_lt (omega (arith, format_few c.args.b c.format_of-format.ensures))

pub overflow_sub-bits : goal.overflow_sub-bits
overflow_sub-bits c = (row-bits c.args.b c.format_of-format.ensures).0

pub gather-n-requires : goal.gather-n-requires
gather-n-requires c =
    let b = c.args.b in
    let e = c.format_of-format.ensures in
    ((row-bits b e).1, omega (arith, format_few b e), omega (arith, format_first b e, few_line_slots b, format_runs b e))

pub power-full-requires : goal.power-full-requires
power-full-requires c = omega (arith, format_fx_few c.args.b c.format_of-format.ensures)

pub overflow_mul-n : goal.overflow_mul-n
overflow_mul-n c =
    let a = c.args in
    let fits_octets = line_number a.b c.format_of-format.ensures a.slots.numbers.now a.slots.base a.fx a.self.now.at a.self.now.octets c.gather-n.ensures c.power-full.ensures in
    let h = under (format_few c.args.b c.format_of-format.ensures) fits_octets in
    Fits-of_lt (omega (arith, h))

pub nonzero_rem-fx : goal.nonzero_rem-fx
nonzero_rem-fx c = let f = c.format_of-format.result.below in omega (arith, c.power-full.ensures, pow_pos f)

pub overflow_add-n : goal.overflow_add-n
overflow_add-n c =
    let a = c.args in
    let fits_octets = line_number a.b c.format_of-format.ensures a.slots.numbers.now a.slots.base a.fx a.self.now.at a.self.now.octets c.gather-n.ensures c.power-full.ensures in
    Fits-of_lt (under (format_few c.args.b c.format_of-format.ensures) fits_octets)

pub spill-requires : goal.spill-requires
spill-requires c =
    let a = c.args in
    let fits_octets = line_number a.b c.format_of-format.ensures a.slots.numbers.now a.slots.base a.fx a.self.now.at a.self.now.octets c.gather-n.ensures c.power-full.ensures in
    let few = format_few c.args.b c.format_of-format.ensures in
    (omega (arith, c.if-k-self.false, few), few, fits_octets)

pub returns : goal.returns
returns c =
    let a = c.args in
    λ zs h.
    line_laid a.b c.format_of-format.ensures a.slots.numbers.now a.slots.base a.fx a.self.now.at a.self.now.octets c.gather-n.ensures c.power-full.ensures c.spill.ensures.octets c.spill.ensures.at zs h
