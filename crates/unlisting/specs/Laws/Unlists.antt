-- The category in front of a part that was lent: what both are then. The lines of a refusal, one behind the other.
use Rattle.std.specs.Prelude.{◌≡◌, refl, List, [], ◌∷◌, ◌++◌, ℕ, ◌-◌, ◌≤◌, length, take, drop, set}
use Rattle.std.proofs.Common.{sym, ap, ap₂, ◌∙◌, subst, append_assoc, arith, length-append, length-take, length-drop}
use Rattle.std.proofs.Math.Seq.{take-append_seam}
use Rattle.codec.specs.Frame.{Outcome, accepted, refused}
use Rattle.papers.specs.Papers.{LONGEST}
use Rattle.papers.specs.Names.{text}
use Rattle.layout.specs.Answer.{Answer, Accepted, Refused, Rebuilding, number_of, place_of, length_of}
use Rattle.layout.specs.Laws.Answer.{Refused≢Accepted}
use Rattle.scope.specs.Outputs.{answer_of, after}
use Rattle.scope.specs.Rebuilding.{category_given, octets_given}
use Rattle.scope.specs.Sheet.{key_line, decimal}
use Rattle.text.specs.Typing.{Types}
use Rattle.text.specs.Laws.Typing.{types_behind}
use Rattle.guess.specs.Guess.{rebuild_of}
use Rattle.guess.proofs.Laws.Rebuilt.{rebuilt_few, roomy}
use Rattle.rebuild.specs.Rebuilds.{Rebuilds}
use Rattle.unlisting.specs.Unlists.{ROOM, Unlists, refusal_lines}

-- an output keeps its length
kept_length : (o : Outcome (List ℕ)) (l : List ℕ) → length_of (answer_of o) ≤ length l → length (after o l) ≡ length l
unfolding answer_of length_of after
kept_length (accepted b) l h = length-append b (drop (length b) l) ∙ omega (arith, length-drop (length b) l)
kept_length (refused n k) l h = refl

-- the longest field has room
never_11 : (t : List ℕ) (k : ℕ) → answer_of (octets_given (rebuild_of t LONGEST)) ≡ Refused 11 k → ⊥
unfolding octets_given answer_of number_of place_of
never_11 t k = go (rebuild_of t LONGEST) (roomy t LONGEST (omega arith) k)
  where
    go : (o : Outcome (ℕ × List ℕ)) → (o ≡ refused 11 k → ⊥) → answer_of (octets_given o) ≡ Refused 11 k → ⊥
    go (accepted x) n e = absurd (Refused≢Accepted (sym e))
    go (refused m j) n e = n (ap₂ refused (ap number_of e) (ap place_of e))

-- the part behind the first octet is lent; m is what stands there afterwards, and x in front of it: the category where there is one
abbrev lent : ℕ → List ℕ → List ℕ
lent o rest = take (length (o ∷ rest) - 1) rest

abbrev behind : ℕ → List ℕ → List ℕ
behind o rest = drop (length (o ∷ rest) - 1) rest

lent_long : (o : ℕ) (rest : List ℕ) → length (o ∷ rest) ≡ ROOM → length (lent o rest) ≡ LONGEST
lent_long o rest h = omega (arith, length-take (length (o ∷ rest) - 1) rest)

answer_is : (t : List ℕ) (o : ℕ) (rest : List ℕ) → length (o ∷ rest) ≡ ROOM → {m : List ℕ} {r : Rebuilding} → Rebuilds t (lent o rest) r m → r.answer ≡ answer_of (octets_given (rebuild_of t LONGEST))
answer_is t o rest h p = p.leaves.answer ∙ ap (λ n. answer_of (octets_given (rebuild_of t n))) (lent_long o rest h)

unlists : (t : List ℕ) (o : ℕ) (rest : List ℕ) → length (o ∷ rest) ≡ ROOM → {m : List ℕ} {r : Rebuilding} → Rebuilds t (lent o rest) r m
    → (x : ℕ) → ((cat : ℕ) (b : List ℕ) → rebuild_of t LONGEST ≡ accepted (cat, b) → x ≡ cat) → Unlists t r.answer (x ∷ (m ++ behind o rest))
unfolding octets_given after
unlists t o rest h {m} {r} p x ex =
    let mid : List ℕ = lent o rest in
    let z : List ℕ = behind o rest in
    let e : length mid ≡ LONGEST = lent_long o rest h in
    let a : r.answer ≡ answer_of (octets_given (rebuild_of t LONGEST)) = answer_is t o rest h p in
    record {
      answer = a;
      roomy = λ k f. never_11 t k (sym a ∙ f);
      octets = λ cat b f.
          let em : m ≡ b ++ drop (length b) mid = p.leaves.output ∙ ap (λ y. after (octets_given y) mid) (ap (rebuild_of t) e ∙ f) in
          ap₂ ◌∷◌ (ex cat b f) (ap (λ y. take (length b) (y ++ z)) em ∙ ap (take (length b)) (append_assoc b (drop (length b) mid) z) ∙ take-append_seam b (drop (length b) mid ++ z));
      few = subst (λ y. length_of y ≤ LONGEST) (sym a) (rebuilt_few t LONGEST).octets;
      within =
          let few = (rebuilt_few t (length mid)).octets in
          let k : length m ≡ length mid = ap length p.leaves.output ∙ kept_length (octets_given (rebuild_of t (length mid))) mid (omega (arith, few, e)) in
          omega (arith, few, e, k, ap length_of p.leaves.answer, length-append m z);
    }

pub unlists_given : (t out : List ℕ) → length out ≡ ROOM → {m : List ℕ} {cat n : ℕ} → Rebuilds t (take (length out - 1) (drop 1 out)) (record { cat = cat; answer = Accepted n }) m
    → Unlists t (Accepted n) (set (take 1 out ++ (m ++ drop (length out - 1) (drop 1 out))) 0 cat)
unfolding category_given
unlists_given t [] h p = absurd (omega arith)
unlists_given t (o ∷ rest) h {m} {cat} {n} p =
    let q : Rebuilds t (lent o rest) (record { cat = cat; answer = Accepted n }) m = p in
    unlists t o rest h q cat (λ c b f. q.category ∙ ap category_given (ap (rebuild_of t) (lent_long o rest h) ∙ f))

pub unlists_refused : (t out : List ℕ) → length out ≡ ROOM → {m : List ℕ} {n k : ℕ} → Rebuilds t (take (length out - 1) (drop 1 out)) (record { cat = 0; answer = Refused n k }) m
    → Unlists t (Refused n k) (take 1 out ++ (m ++ drop (length out - 1) (drop 1 out)))
unfolding octets_given answer_of
unlists_refused t [] h p = absurd (omega arith)
unlists_refused t (o ∷ rest) h {m} {n} {k} p =
    let q : Rebuilds t (lent o rest) (record { cat = 0; answer = Refused n k }) m = p in
    unlists t o rest h q o (λ c b f. Refused≢Accepted (answer_is t o rest h q ∙ ap (λ x. answer_of (octets_given x)) f))

pub two_lines : (n k : ℕ) {l m q : List ℕ} {at next last : ℕ} → Types (key_line (text "refused") (decimal n)) l at m next
    → Types (key_line (text "line") (decimal k)) m next q last → Types (refusal_lines (Refused n k)) l at q last
unfolding refusal_lines
two_lines n k first second = types_behind first second
