use Rattle.std.proofs.Common.{◌≡◌, ◌-◌}
use Rattle.guess.specs.Lines.{behind_feeds}
use Rattle.walk.proofs.skip.Given as goal

abbrev pub invariant-loop : goal.invariant-loop
invariant-loop l = behind_feeds (l.n - l.counter) l.rest ≡ behind_feeds l.n l.t
