-- 02, Ask 8: the runs of `desk::remove` and `desk::replace` that their contracts allow. Post is what the check makes of an
-- `ensures`, with the arguments at entry, the answer and the arguments at exit.
use Rattle.std.specs.Prelude.{List, ℕ, Result}
use Rattle.codec.specs.Change.{Change, remove, put}
use Rattle.layout.specs.declared.Refusal.{Refusal}
use Rattle.layout.specs.Answer.{Answer, by_number}
use Rattle.desk.proofs.remove.Reads as removal
use Rattle.desk.proofs.replace.Reads as replace

-- a run that the contract of the one or the other allows: a desk, by what its runs do
pub data Ran : ℕ → List ℕ → ℕ → ℕ → Change → List ℕ → Answer → List ℕ → Type 0 where
  removed : (l : _) (x : _) (a : Result ℕ Refusal) (e : _) → removal.Post l x a e
      → Ran x.0 x.1.0.now x.1.1.0 x.1.1.1.0 remove
      x.1.1.1.1.0.now (by_number a) e.1.1.1.1.0.now
  replaced : (l : _) (x : _) (a : Result ℕ Refusal) (e : _) → replace.Post l x a e
      → Ran x.0 x.1.0.now x.1.1.0 x.1.1.1.0 (put x.1.1.1.1.0.now)
      x.1.1.1.1.1.0.now (by_number a) e.1.1.1.1.1.0.now
