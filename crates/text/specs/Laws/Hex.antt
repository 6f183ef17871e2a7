-- Octets as pairs of hex digits in capitals, as 01 prints them, with nothing between; `-` for none.
use Rattle.std.specs.Prelude.{◌≡◌, refl, List, [], ◌∷◌, ◌++◌, ℕ, suc, ◌+◌, ◌/◌, ◌%◌, ◌≤◌, ◌<◌, length, take, get_or}
use Rattle.std.proofs.Common.{sym, ap, ◌∙◌, subst, arith, lt-ltb, le-ltb, take-suc, take_all}
use Rattle.text.specs.Typing.{Types}
use Rattle.text.specs.Laws.Typing.{types_none, types_behind}
use Rattle.text.specs.Hex.{capital, pair_text, pairs_text, hex_text}

-- ---- the ways out of `hex_digit` and `pair_of`

pub capital_number : (d : ℕ) → d < 10 → 48 + d ≡ capital d
unfolding capital
capital_number d h = rw (lt-ltb d 10 h) refl

pub capital_letter : (d : ℕ) → 10 ≤ d → 55 + d ≡ capital d
unfolding capital
capital_letter d h = rw (le-ltb d 10 h) refl

pub types_pair : (o : ℕ) {a b : ℕ} → a ≡ capital (o / 16) → b ≡ capital (o % 16) → {l m q : List ℕ} {at next last : ℕ}
    → Types (a ∷ []) l at m next → Types (b ∷ []) m next q last → Types (pair_text o) l at q last
unfolding pair_text
types_pair o ea eb {q = q} {last = last} x y = rw (← ea, ← eb) (types_behind x y)

-- ---- the ways through `octets`

pub no_pairs : (s l : List ℕ) (at : ℕ) → Types (pairs_text (take 0 s)) l at l at
unfolding pairs_text
no_pairs s l at = types_none l at

pairs_last : (s : List ℕ) (o : ℕ) → pairs_text (s ++ (o ∷ [])) ≡ pairs_text s ++ pair_text o
unfolding pairs_text pair_text
pairs_last [] o = refl
pairs_last (x ∷ s) o = ap (λ t. capital (x / 16) ∷ capital (x % 16) ∷ t) (pairs_last s o)

pub pairs_more : (s : List ℕ) (i : ℕ) → i < length s → {l m q : List ℕ} {at next last : ℕ}
    → Types (pairs_text (take i s)) l at m next → Types (pair_text (get_or s i 0)) m next q last → Types (pairs_text (take (i + 1) s)) l at q last
pairs_more s i h {l} {m} {q} {at} {next} {last} a b =
    let e : i + 1 ≡ suc i = omega arith in
    subst (λ x. Types x l at q last) (sym (ap (λ j. pairs_text (take j s)) e ∙ ap pairs_text (take-suc s i 0 h) ∙ pairs_last (take i s) (get_or s i 0))) (types_behind a b)

pub hex_none : (s : List ℕ) → length s ≡ 0 → {l m : List ℕ} {at next : ℕ} → Types (45 ∷ []) l at m next → Types (hex_text s) l at m next
unfolding hex_text
hex_none [] e a = a
hex_none (x ∷ s) e a = absurd (omega arith)

pub hex_whole : (s : List ℕ) → (length s ≡ 0 → ⊥) → (i : ℕ) → length s ≤ i → {l m : List ℕ} {at next : ℕ}
    → Types (pairs_text (take i s)) l at m next → Types (hex_text s) l at m next
unfolding hex_text
hex_whole [] some i h a = absurd (some refl)
hex_whole (x ∷ s) some i h {l} {m} {at} {next} a = subst (λ t. Types (pairs_text t) l at m next) (take_all i (x ∷ s) h) a
