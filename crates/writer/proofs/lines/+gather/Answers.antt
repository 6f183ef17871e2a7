-- `writer::lines::gather` meets its contract: one law at each way out. Assumes nothing.
use mathlib.Core.Path.{◌≡◌, ap, ◌∙◌}
use Prim.Native.Nat.{ℕ, ◌+◌, ◌^◌, ◌%◌, ◌≤◌, ◌<◌}
use native.Mathlib.Nat.{lt_of_lt_of_le}
use native.Mathlib.Omega.{arith}
use borrow.Author.Rules.{sfits_of}
use lib.Pow.{pow_mono}
use lib.IntN.{ℤ}
use mir.Syntax.{w32}
use mir.Val.{SFits, to_z, of_z}
use mir.Facts.{to_z-of_z, Fits-of_lt}
use Rattle.writer.specs.Digits.{low_bits}
use Rattle.writer.specs.Laws.Digits.{gather_none, first_bits, gather_spare, gather_on, gather_sum, gather_product}
use Rattle.writer.proofs.lines.+gather.Goals as goal

-- a number of so many bits has no more than 64
under : {x bits : ℕ} → bits ≤ 48 → x < 2 ^ bits → x < 18_446_744_073_709_551_616
under {x} {bits} h k = lt_of_lt_of_le k (pow_mono {i = bits} {j = 64} (omega arith))

-- what was taken from a slot is a number of the record
digit_is : (w : ℕ) {d : ℕ} {z v : ℤ} → SFits w32 z → d ≡ low_bits w (to_z w32 (of_z w32 z)) → z ≡ v → d ≡ low_bits w v
digit_is w f e ev = e ∙ ap (low_bits w) (to_z-of_z f ∙ ev)

pub returns-then-left-eq0 : goal.returns-then-left-eq0
returns-then-left-eq0 t c =
    let a = c.args in
    gather_none a.code a.left a.slots.numbers.now (a.slots.base + a.slot) c.if-left-eq0.true

pub overflow_sub-next : goal.overflow_sub-next
overflow_sub-next t c =
    let a = c.args in
    (first_bits a.code a.left c.if-left-eq0.false a.slots.numbers.now (a.slots.base + a.slot) c.requires.0).0

pub overflow_sub-left : goal.overflow_sub-left
overflow_sub-left t c = omega arith

pub gather-requires : goal.gather-requires
gather-requires t c =
    let a = c.args in
    let g = c.requires in
    (omega arith, ((first_bits a.code a.left c.if-left-eq0.false a.slots.numbers.now (a.slots.base + a.slot) g.0).1, omega (arith, g), omega (arith, g)))

pub returns-then-code-eq0 : goal.returns-then-code-eq0
returns-then-code-eq0 t c =
    let a = c.args in
    gather_spare a.code a.left c.if-left-eq0.false a.slots.numbers.now (a.slots.base + a.slot) c.requires.0 c.if-code-eq0.true c.gather.ensures

pub number-requires : goal.number-requires
number-requires t c = omega arith

pub digit-d-requires : goal.digit-d-requires
digit-d-requires t c = omega arith

pub overflow_sub-left-2 : goal.overflow_sub-left-2
overflow_sub-left-2 t c = omega arith

pub overflow_add-slot : goal.overflow_add-slot
overflow_add-slot t c =
    let g = c.requires in
    Fits-of_lt (omega (arith, g))

pub gather-low-requires : goal.gather-low-requires
gather-low-requires t c =
    let a = c.args in
    let g = c.requires in
    (omega arith, ((first_bits a.code a.left c.if-left-eq0.false a.slots.numbers.now (a.slots.base + a.slot) g.0).1, omega (arith, g), omega (arith, g, c.if-left-eq0.false)))

pub power-requires : goal.power-requires
power-requires t c =
    let g = c.requires in
    omega (arith, g)

pub overflow_mul-result : goal.overflow_mul-result
overflow_mul-result t c =
    let a = c.args in
    let d = digit_is (a.code % 256 % 32) (sfits_of {w = w32} {z = c.number.result} c.number.type_inv) c.digit-d.ensures c.number.ensures in
    Fits-of_lt (under c.requires.1 (gather_product a.code a.left c.if-left-eq0.false a.slots.numbers.now (a.slots.base + a.slot) c.requires.0 c.if-code-eq0.false d c.power.ensures))

pub overflow_add-result : goal.overflow_add-result
overflow_add-result t c =
    let a = c.args in
    let d = digit_is (a.code % 256 % 32) (sfits_of {w = w32} {z = c.number.result} c.number.type_inv) c.digit-d.ensures c.number.ensures in
    Fits-of_lt (under c.requires.1 (gather_sum a.code a.left c.if-left-eq0.false a.slots.numbers.now (a.slots.base + a.slot) c.requires.0 c.if-code-eq0.false d c.power.ensures (omega arith) c.gather-low.ensures))

pub returns : goal.returns
returns t c =
    let a = c.args in
    let d = digit_is (a.code % 256 % 32) (sfits_of {w = w32} {z = c.number.result} c.number.type_inv) c.digit-d.ensures c.number.ensures in
    gather_on a.code a.left c.if-left-eq0.false a.slots.numbers.now (a.slots.base + a.slot) c.requires.0 c.if-code-eq0.false d c.power.ensures (omega arith) c.gather-low.ensures
