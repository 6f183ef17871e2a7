-- `sheet::items::span` meets its contract: no octet before the space is one. Assumes nothing.
use mathlib.Core.Path.{◌≡◌}
use Prim.Native.Nat.{ℕ, ◌<◌, zero-le}
use native.Mathlib.Omega.{arith}
use borrow.Author.Tests.{tests}
use lib.ListN.{length}
use Rattle.std.specs.List.{HoldsAt, AllWithin}
use Rattle.std.proofs.Common.{rules}
use Rattle.std.proofs.lemmas.Iterator.{IsFirst-from_position, YieldsList-from_slice}
use Rattle.sheet.specs.Laws.Lines.{span_end, span-found, span_past}
use Rattle.sheet.proofs.items.span.Goals as goal

abbrev Space : ℕ → Type 0
Space o = o ≡ 32

abbrev Other : ℕ → Type 0
Other o = o ≡ 32 → ⊥

pub returns-in-Some : goal.returns-in-Some
returns-in-Some c =
    let t = c.args.keys.now in
    let i = c.in-Some.i in
    let found = IsFirst-from_position _ _ _ Space Other c.position.ensures.ran (YieldsList-from_slice t cc) (λ x q k. search (rules, tests)) (λ x q k. search (rules, tests)) in
    let first : (i < length t) × HoldsAt Space t i × AllWithin Other t 0 i = rw c.in-Some.is at found in
    (span-found t i first.0 (span_past t i (omega (arith, first.0)) (λ k h. first.2 k 0 zero-le h)) (first.1 0), omega (arith, first.0))

pub returns-in-None : goal.returns-in-None
returns-in-None c =
    let t = c.args.keys.now in
    let found = IsFirst-from_position _ _ _ Space Other c.position.ensures.ran (YieldsList-from_slice t cc) (λ x q k. search (rules, tests)) (λ x q k. search (rules, tests)) in
    let none : AllWithin Other t 0 (length t) = rw c.in-None.is at found in
    (span_end t (length t) (omega arith) (span_past t (length t) (omega arith) (λ k h. none k 0 zero-le h)), omega arith)
