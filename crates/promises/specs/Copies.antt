-- 02, Ask 5, of two runs of `visitors::copy`, from its contract alone: Post is what the check makes of its `ensures`, with
-- the arguments at entry, the answer and the arguments at exit.
use Rattle.std.specs.Prelude.{◌≡◌, List, ℕ, ◌<◌, Result}
use Rattle.std.proofs.Common.{sym, ap, ◌∙◌, subst}
use Rattle.codec.specs.Codec.{Octets}
use Rattle.layout.specs.declared.Record.{Record}
use Rattle.layout.specs.declared.Refusal.{Refusal}
use Rattle.layout.specs.Answer.{Answer, by_number}
use Rattle.layout.specs.Laws.Answer.{one_answer}
use Rattle.scope.specs.Visitors.{Copied}
use Rattle.demands.specs.Terms.{IsField}
use Rattle.demands.specs.Visitors.{AlikeOff}
use Rattle.demands.specs.Defined.{program}
use Rattle.demands.proofs.Kept.Visitors.{visitors}
use Rattle.visitors.proofs.copy.Reads as copy

-- of a contract over a category, a field, a list and an output: two runs on fields that are alike off the list, with one
-- list and equal outputs, end with the same answer and the same octets in the outputs
abbrev pub TellsNothing : {L A E : Type 0} → (L → A → Result ℕ Refusal → E → Type 0) → (A → ℕ) → (A → List ℕ) → (A → ℕ) → (A → List ℕ)
    → (E → List ℕ) → Type 0
TellsNothing {L} {A} {E} Post cat field list out left =
    (l l' : L) (x y : A) (a b : Result ℕ Refusal) (e u : E) → Post l x a e → Post l' y b u → cat x ≡ cat y → list x ≡ list y
    → out x ≡ out y → list x < 256 → (f g : Record) → Octets (field x) → IsField (cat x) (field x) f → Octets (field y)
    → IsField (cat x) (field y) g → AlikeOff program (cat x) (list x) (field x) f (field y) g → (a ≡ b) × (left e ≡ left u)

told : {cat : ℕ} {s t : List ℕ} {list : ℕ} {out : List ℕ} {a b : Answer} {m n : List ℕ} → Copied cat s list out a m → Copied cat t list out b n
    → list < 256 → (f g : Record) → Octets s → IsField cat s f → Octets t → IsField cat t g → AlikeOff program cat list s f t g → (a ≡ b) × (m ≡ n)
told {cat} {s} {t} {list} {out} p q lt f g os hs ot ht al =
    let e = visitors.tells_nothing cat s f t g os hs ot ht list lt al out in
    (p.answer ∙ ap (λ r. r.0) e ∙ sym q.answer, p.output ∙ ap (λ r. r.1) e ∙ sym q.output)

pub tells_nothing : TellsNothing copy.Post (λ x. x.0) (λ x. x.1.0.now) (λ x. x.1.1.0) (λ x. x.1.1.1.0.now) (λ e. e.1.1.1.0.now)
tells_nothing l l' x y a b e u p q ec el eo =
    λ lt f g os hs ot ht al.
    let r = told p (subst (λ c. Copied c y.1.0.now x.1.1.0 x.1.1.1.0.now (by_number b) u.1.1.1.0.now) (sym ec)
    (subst (λ i. Copied y.0 y.1.0.now i x.1.1.1.0.now (by_number b) u.1.1.1.0.now) (sym el)
    (subst (λ o. Copied y.0 y.1.0.now y.1.1.0 o (by_number b) u.1.1.1.0.now) (sym eo) q))) lt f g os hs ot ht al in
    (one_answer a b r.0, r.1)
