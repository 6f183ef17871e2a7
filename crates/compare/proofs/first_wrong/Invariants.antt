use Rattle.std.proofs.Common.{◌≡◌, ◌+◌, ◌<◌, ◌≤◌, length}
use Rattle.guess.specs.Guess.{first_wrong}
use Rattle.compare.proofs.first_wrong.Given as goal

-- what is left of both texts differs where they do
abbrev pub invariant-loop-a : goal.invariant-loop-a
invariant-loop-a l = record {
  answer : first_wrong 1 l.s l.t ≡ first_wrong l.line l.a-iterator.a.rest.now l.a-iterator.b.rest.now;
  from_one : 0 < l.line;
  few : l.line + length l.a-iterator.a.rest.now ≤ 1 + length l.s;
  abreast : length l.a-iterator.a.rest.now + length l.t ≡ length l.a-iterator.b.rest.now + length l.s;
}
