-- The words of an answer typed one behind the other: one law for each way through the code that types them.
use Rattle.std.specs.Prelude.{◌≡◌, refl, ℕ, suc, ◌+◌, ◌-◌, ◌<◌, length, take, drop, get_or}
use Rattle.std.proofs.Math.Path.{sym, ap}
use Rattle.std.proofs.Common.{◌∙◌, subst, arith, take-suc}
use mathlib.Core.List.{List, [], ◌∷◌, ◌++◌, append_assoc, append-nil}
use Rattle.std.proofs.Math.Seq.{take-append_seam}
use Rattle.codec.specs.Frame.{Outcome, accepted, refused}
use Rattle.papers.specs.Names.{text}
use Rattle.layout.specs.Answer.{Answer, Accepted, Refused, View, Shown, Hidden, Choice, Reading, which_number}
use Rattle.scope.specs.Outputs.{answer_of, after, Leaves}
use Rattle.scope.specs.Rebuilding.{category_given, octets_given}
use Rattle.text.specs.Typing.{Types}
use Rattle.text.specs.Laws.Typing.{types_none, types_behind}
use Rattle.replies.specs.Texts.{next, next_octets, refusal_text, output_text, left_text, given_text, rebuilt_text, shown_text, view_text, choice_in, choice_text, words_text, record_text, read_in, reading_text, in_line, line_octet, sheet_text}

-- ---- the ways out of `left`

pub left_ok : {a : Answer} {n : ℕ} → a ≡ Accepted n → (out : List ℕ) {s : List ℕ} → s ≡ take n out → {l m q : List ℕ} {at after last : ℕ}
    → Types (text "ok") l at m after → Types (next_octets s) m after q last → Types (left_text a out) l at q last
unfolding left_text
left_ok ea out es x y = rw (ea, ← es) (types_behind x y)

pub left_refused : {a : Answer} {n p : ℕ} → a ≡ Refused n p → (out : List ℕ) → {l m : List ℕ} {at last : ℕ}
    → Types (refusal_text n p) l at m last → Types (left_text a out) l at m last
unfolding left_text
left_refused ea out x = rw ea x

-- what an operation leaves is its outcome
left_outcome : (o : Outcome (List ℕ)) (out : List ℕ) {a : Answer} {out' : List ℕ} → Leaves o out a out' → left_text a out' ≡ output_text o
unfolding left_text output_text answer_of after
left_outcome (accepted b) out p = rw (p.answer, p.output) (ap (λ t. text "ok" ++ next_octets t) (take-append_seam b (drop (length b) out)))
left_outcome (refused n q) out p = rw p.answer refl

pub types_left : {o : Outcome (List ℕ)} {out : List ℕ} {a : Answer} {out' : List ℕ} → Leaves o out a out' → {l m : List ℕ} {at last : ℕ}
    → Types (left_text a out') l at m last → Types (output_text o) l at m last
types_left {o} {out} p {l} {m} {at} {last} t = subst (λ x. Types x l at m last) (left_outcome o out p) t

-- ---- of `rebuilt_text`

pub rebuilt_ok : (cat : ℕ) {a : Answer} {n : ℕ} → a ≡ Accepted n → (out : List ℕ) {s : List ℕ} → s ≡ take n out → {l m q u : List ℕ} {at category after last : ℕ}
    → Types (text "ok") l at m category → Types (next cat) m category q after → Types (next_octets s) q after u last → Types (rebuilt_text cat a out) l at u last
unfolding rebuilt_text
rebuilt_ok cat ea out es x y z = rw (ea, ← es) (types_behind x (types_behind y z))

pub rebuilt_refused : (cat : ℕ) {a : Answer} {n p : ℕ} → a ≡ Refused n p → (out : List ℕ) → {l m : List ℕ} {at last : ℕ}
    → Types (refusal_text n p) l at m last → Types (rebuilt_text cat a out) l at m last
unfolding rebuilt_text
rebuilt_refused cat ea out x = rw ea x

rebuilt_outcome : (o : Outcome (ℕ × List ℕ)) (out : List ℕ) {cat : ℕ} {a : Answer} {out' : List ℕ} → cat ≡ category_given o → Leaves (octets_given o) out a out' → rebuilt_text cat a out' ≡ given_text o
unfolding rebuilt_text given_text category_given octets_given answer_of after
rebuilt_outcome (accepted x) out ec p = rw (p.answer, p.output, ec) (ap (λ t. text "ok" ++ (next x.0 ++ next_octets t)) (take-append_seam x.1 (drop (length x.1) out)))
rebuilt_outcome (refused n q) out ec p = rw p.answer refl

pub types_given : (o : Outcome (ℕ × List ℕ)) {out : List ℕ} {cat : ℕ} {a : Answer} {out' : List ℕ} → cat ≡ category_given o → Leaves (octets_given o) out a out' → {l m : List ℕ} {at last : ℕ}
    → Types (rebuilt_text cat a out') l at m last → Types (given_text o) l at m last
types_given o {out} ec p {l} {m} {at} {last} t = subst (λ x. Types x l at m last) (rebuilt_outcome o out ec p) t

-- ---- of `view_text`

pub view_ok : {v : View} {a n : ℕ} → v ≡ Shown a n → (s : List ℕ) → {l m q : List ℕ} {at after last : ℕ}
    → Types (text "ok") l at m after → Types (shown_text a n s) m after q last → Types (view_text v s) l at q last
unfolding view_text
view_ok ev s x y = rw ev (types_behind x y)

pub view_refused : {v : View} {n p : ℕ} → v ≡ Hidden n p → (s : List ℕ) → {l m : List ℕ} {at last : ℕ}
    → Types (refusal_text n p) l at m last → Types (view_text v s) l at m last
unfolding view_text
view_refused ev s x = rw ev x

-- ---- of `choice_text`

module _ (c : Choice) (s : List ℕ) {w : ℕ} (ew : w ≡ which_number c.which) where
  pub choice_ok : {a n : ℕ} → c.view ≡ Shown a n → {l m q u : List ℕ} {at source start last : ℕ}
      → Types (text "ok") l at m source → Types (next w) m source q start → Types (shown_text a n s) q start u last → Types (choice_text c s) l at u last
  unfolding choice_text choice_in
  choice_ok ev x y z = rw (ev, ← ew) (types_behind x (types_behind y z))

  pub choice_refused : {n p : ℕ} → c.view ≡ Hidden n p → {l m q : List ℕ} {at source last : ℕ}
      → Types (refusal_text n p) l at m source → Types (next w) m source q last → Types (choice_text c s) l at q last
  unfolding choice_text choice_in
  choice_refused ev x y = rw (ev, ← ew) (types_behind x y)

-- ---- of `reading_text`

module _ (r : Reading) where
  pub read_ok : {n : ℕ} → r.answer ≡ Accepted n → {l m q u : List ℕ} {at start after last : ℕ}
      → Types (text "ok") l at m start → Types (next n) m start q after → Types (record_text r.kept) q after u last → Types (reading_text r) l at u last
  unfolding reading_text read_in
  read_ok ea x y z = rw ea (types_behind x (types_behind y z))

  pub read_refused : {n p : ℕ} → r.answer ≡ Refused n p → {l m : List ℕ} {at last : ℕ} → Types (refusal_text n p) l at m last → Types (reading_text r) l at m last
  unfolding reading_text read_in
  read_refused ea x = rw ea x

-- ---- the way through `words`: the first i words, and one more

module _ {A : Type 0} (word : A → List ℕ) where
  words_last : (s : List A) (x : A) → words_text word (s ++ (x ∷ [])) ≡ words_text word s ++ word x
  unfolding words_text
  words_last [] x = append-nil (word x)
  words_last (y ∷ s) x = ap (λ t. word y ++ t) (words_last s x) ∙ sym (append_assoc (word y) (words_text word s) (word x))

  pub words_none : (s : List A) (l : List ℕ) (at : ℕ) → Types (words_text word (take 0 s)) l at l at
  unfolding words_text
  words_none s l at = types_none l at

  pub words_more : (d : A) (s : List A) (i : ℕ) → i < length s → {l m q : List ℕ} {at after last : ℕ}
      → Types (words_text word (take i s)) l at m after → Types (word (get_or s i d)) m after q last → Types (words_text word (take (i + 1) s)) l at q last
  words_more d s i h {l} {m} {q} {at} {after} {last} a b =
      let e : i + 1 ≡ suc i = omega arith in
      subst (λ x. Types x l at q last) (sym (ap (λ j. words_text word (take j s)) e ∙ ap (words_text word) (take-suc s i d h) ∙ words_last (take i s) (get_or s i d))) (types_behind a b)

-- ---- of `line_words` and `sheet_text`

pub line_octet_lem : (o : ℕ) {x : ℕ} → x ≡ in_line o → {l m : List ℕ} {at last : ℕ} → Types (x ∷ []) l at m last → Types (line_octet o) l at m last
unfolding line_octet
line_octet_lem o e t = rw (← e) t

pub sheet_typed : (s : List ℕ) {n : ℕ} {f : List ℕ} → n ≡ length s - 1 → f ≡ take n s → {l m q u : List ℕ} {at space start last : ℕ}
    → Types (text "ok") l at m space → Types (32 ∷ []) m space q start → Types (words_text line_octet f) q start u last → Types (sheet_text s) l at u last
unfolding sheet_text
sheet_typed s en ef x y z = rw (← en, ← ef) (types_behind x (types_behind y z))
