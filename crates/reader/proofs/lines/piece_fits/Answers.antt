-- `reader::lines::piece_fits` meets its contract: one law at each way out. Assumes nothing.
use mathlib.Core.Path.{◌≡◌, sym, ap, ◌∙◌, subst}
use Prim.Native.Nat.{◌^◌, ◌/◌, ◌<◌}
use native.Mathlib.Nat.{mod-lt}
use native.Mathlib.Omega.{arith}
use borrow.Author.Rules.{rules}
use lib.Pow.{pow_pos}
use lib.IntN.{pos, negsuc}
use Rattle.codec.specs.Line.{to_num, limit}
use Rattle.lengths.specs.Lines.{kind_of}
use Rattle.reader.specs.Numbers.{inside}
use Rattle.reader.specs.Laws.Numbers.{limit_lat, limit_ga}
use Rattle.reader.specs.Laws.Limits.{free_fits, number_fits}
use Rattle.reader.proofs.lines.piece_fits.Goals as goal

pub returns-then-kind-lt3 : goal.returns-then-kind-lt3
returns-then-kind-lt3 c = let a = c.args in free_fits a.kind a.w a.n a.next c.if-kind-lt3.true

pub number-z-requires : goal.number-z-requires
number-z-requires c =
    let a = c.args in
    (subst (◌< 2 ^ a.w) (sym c.low.ensures) (mod-lt (a.n / 2 ^ a.next) (pow_pos a.w)), c.requires.2 (λ e. omega (arith, e, c.if-kind-lt3.false)))

pub returns-then-kind-eq3 : goal.returns-then-kind-eq3
returns-then-kind-eq3 c =
    let a = c.args in
    let limits : c.contains.result ≡ inside (negsuc 4_194_303) (pos 4_194_304) c.number-z.result = search rules in
    let made = c.number-z.ensures ∙ ap (to_num (kind_of a.kind) a.w) c.low.ensures in
    limits ∙ limit_lat a.kind c.number-z.result c.if-kind-eq3.true ∙ ap (limit (kind_of a.kind)) made ∙ number_fits a.kind a.w a.n a.next (λ e. omega (arith, e, c.if-kind-lt3.false))

pub returns : goal.returns
returns c =
    let a = c.args in
    let limits : c.contains-2.result ≡ inside (negsuc 39) (pos 8_191) c.number-z.result = search rules in
    let made = c.number-z.ensures ∙ ap (to_num (kind_of a.kind) a.w) c.low.ensures in
    limits ∙ limit_ga a.kind c.number-z.result c.if-kind-lt3.false c.if-kind-eq3.false ∙ ap (limit (kind_of a.kind)) made ∙ number_fits a.kind a.w a.n a.next (λ e. omega (arith, e, c.if-kind-lt3.false))
