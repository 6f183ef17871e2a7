-- `desk::spliced` meets its contract: the parts stand behind each other. Assumes nothing.
use mathlib.Core.Path.{◌≡◌, refl, ap, ◌∙◌, subst}
use mathlib.Core.List.{List}
use Prim.Native.Nat.{ℕ, ◌+◌, ◌-◌, ◌≤◌}
use native.Mathlib.Omega.{arith}
use lib.ListN.{length, take, drop, replicate, set, length-drop}
use lib.Seq.{take_all}
use Rattle.leaves.specs.{octet_is}
use Rattle.scope.specs.Outputs.{with_room, Leaves}
use Rattle.layout.specs.Answer.{by_number}
use Rattle.desk.specs.Splicing.{splice_of}
use Rattle.desk.specs.Laws.Splicing.{spliced_whole}
use Rattle.desk.proofs.spliced.Goals as goal

rest_is : (f : List ℕ) (to : ℕ) → take (length f - to) (drop to f) ≡ drop to f
rest_is f to = take_all (length f - to) (drop to f) (omega (arith, length-drop to f))

pub returns : goal.returns
returns c =
    let whole : (let a = c.args in let m = c.paste-3.new.octets in let n = a.from + length a.new.now + (length a.field.now - a.to) in (n ≤ length m) × (n ≡ length (take n m)) × (take n m ≡ splice_of a.items a.field.now a.from a.to a.new.now)) =
    let a = c.args in
    spliced_whole a.items a.field.now a.from a.to a.new.now (replicate 255 0) c.requires.0 c.requires.1 c.requires.2 refl c.requires.3
    (ap (λ (k : ℕ). set (set (replicate 255 0) 0 k) 1 a.items) (c.octet.ensures ∙ octet_is (a.from + length a.new.now + (length a.field.now - a.to)) (omega (arith, c.requires.3)))) refl c.paste.ensures c.paste-2.ensures (rest_is a.field.now a.to) c.paste-3.ensures in
    let a = c.args in
    subst (λ x. Leaves (with_room (length a.out.now) x) a.out.now (by_number c.deliver.result) c.deliver.new.out) whole.2 c.deliver.ensures
