-- Of the promise of an operation with an output: it allows one result, what a refusal leaves, and what octets do that have room or have none.
use Rattle.std.specs.Prelude.{◌≡◌, Bool, List, ◌++◌, ℕ, ◌≤◌, ◌<◌}
use Rattle.std.proofs.Math.Path.{refl, ap}
use Rattle.std.proofs.Common.{sym, ◌∙◌, arith, take_all}
use Rattle.std.proofs.Math.Bool.{true, false}
use borrow.Author.Tests.{le-leb, lt-leb}
use Rattle.std.proofs.Math.Dec.{leb}
use Rattle.std.proofs.Math.ListN.{length, take, drop}
use Rattle.std.proofs.Math.Seq.{take-append_seam}
use Rattle.codec.specs.Pick.{pick}
use Rattle.codec.specs.Frame.{Outcome, accepted, refused}
use Rattle.layout.specs.Answer.{Answer, Accepted, Refused}
use Rattle.layout.specs.Laws.Answer.{Refused≢Accepted}
use Rattle.scope.specs.Outputs.{with_room, answer_of, after, Leaves}

pub one_left : {o : Outcome (List ℕ)} {out : List ℕ} {a b : Answer} {x y : List ℕ} → Leaves o out a x → Leaves o out b y → (a ≡ b) × (x ≡ y)
one_left p q = (p.answer ∙ sym q.answer, p.output ∙ sym q.output)

-- a refusal is the answer, and the output is as it was
pub refused_left : {o : Outcome (List ℕ)} {n p : ℕ} → o ≡ refused n p → (out : List ℕ) {a : Answer} → a ≡ Refused n p → Leaves o out a out
unfolding answer_of after
refused_left e out ea = record { answer = ea ∙ ap answer_of (sym e); output = ap (λ x. after x out) (sym e) }

-- ---- octets into an output

module _ (s out : List ℕ) where
  pub delivered : length s ≤ length out → {n : ℕ} → n ≡ length s → {out' : List ℕ} → out' ≡ take (length s) s ++ drop (length s) out → Leaves (with_room (length out) s) out (Accepted n) out'
  unfolding with_room answer_of after
  delivered h en eo =
      let e : leb (length s) (length out) ≡ true = le-leb (length s) (length out) h in
      record { answer = rw e (ap Accepted en); output = eo ∙ ap (◌++ drop (length s) out) (take_all (length s) s (omega arith)) ∙ rw e refl }

  -- where there was room, the octets stand in front
  pub room_given : (n : ℕ) → answer_of (with_room (length out) s) ≡ Accepted n → take n (after (with_room (length out) s) out) ≡ s
  unfolding with_room answer_of after
  room_given n e = go (leb (length s) (length out)) e
    where
      go : (b : Bool) → answer_of (pick b (accepted s) (refused 11 0)) ≡ Accepted n → take n (after (pick b (accepted s) (refused 11 0)) out) ≡ s
      go true h = let l : length s ≡ n = cc in ap (λ m. take m (s ++ drop (length s) out)) (sym l) ∙ take-append_seam s (drop (length s) out)
      go false h = Refused≢Accepted h

  -- 11 for an output that is shorter than the octets
  pub no_room : length out < length s → Leaves (with_room (length out) s) out (Refused 11 0) out
  unfolding with_room answer_of after
  no_room h = let e : leb (length s) (length out) ≡ false = lt-leb (length s) (length out) h in record { answer = rw e refl; output = rw e refl }
