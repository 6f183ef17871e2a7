-- Words of the sheet put into its buffer by place: what the code of each word promises, and how one goes behind another.
use Rattle.std.specs.Prelude.{◌≡◌, refl, Bool, true, false, List, [], ◌∷◌, ◌++◌, ℕ, zero, suc, ◌+◌, ◌-◌, ◌/◌, ◌%◌, ◌≤◌, ◌<◌, ltb, ℤ, pos, negsuc, nat_abs, length, set, take, drop, get_or}
use Rattle.std.proofs.Common.{sym, ap, ap₂, ◌∙◌, subst, append_assoc, mod-eq_of_lt, add-one, arith, lt-ltb, le-ltb, ltb-true, take-suc, length-set}
use Rattle.std.proofs.lemmas.List.Edits.{sets, sets-eq}
use Rattle.std.proofs.Math.Seq.{take-append_seam}
use Rattle.std.specs.Int.Signed.{lt_z}
use Rattle.codec.proofs.Laws.Sets.{Put}
use Rattle.codec.specs.Pick.{pick}
use Rattle.scope.specs.Sheet.{digits_of, decimal, signed_decimal, key_line}
use Rattle.text.specs.Typing.{typed_at, place_after, Types}

-- ---- one word behind another

-- nothing is typed behind the end
typed_full : (l : List ℕ) (at : ℕ) (xs : List ℕ) → ltb at 4_096 ≡ false → Types xs l at l at
unfolding typed_at place_after
typed_full l at [] e = record { octets = refl; place = refl }
typed_full l at (x ∷ xs) e = record { octets = rw e refl; place = rw e refl }

typed-append : (l : List ℕ) (at : ℕ) (xs ys : List ℕ) → Types (xs ++ ys) l at (typed_at (typed_at l at xs) (place_after at xs) ys) (place_after (place_after at xs) ys)
unfolding typed_at place_after
typed-append l at [] ys = record { octets = refl; place = refl }
typed-append l at (x ∷ xs) ys = go (ltb at 4_096) refl (typed-append (set l at x) (at + 1) xs ys)
  where
    go : (b : Bool) → ltb at 4_096 ≡ b → Types (xs ++ ys) (set l at x) (at + 1) (typed_at (typed_at (set l at x) (at + 1) xs) (place_after (at + 1) xs) ys) (place_after (place_after (at + 1) xs) ys)
        → Types (x ∷ xs ++ ys) l at (typed_at (typed_at l at (x ∷ xs)) (place_after at (x ∷ xs)) ys) (place_after (place_after at (x ∷ xs)) ys)
    go true e ih = record { octets = rw e ih.octets; place = rw e ih.place }
    go false e ih = let f = typed_full l at ys e in record { octets = rw e (sym f.octets); place = rw e (sym f.place) }

pub types_behind : {xs ys l m q : List ℕ} {at next last : ℕ} → Types xs l at m next → Types ys m next q last → Types (xs ++ ys) l at q last
types_behind {xs} {ys} {l} {m} {q} {at} {next} {last} a b =
    let w = typed-append l at xs ys in record {
      octets = b.octets ∙ ap₂ (λ k i. typed_at k i ys) a.octets a.place ∙ w.octets;
      place = b.place ∙ ap (λ i. place_after i ys) a.place ∙ w.place;
    }

-- the same word by another name
pub types_as : {xs ys l m : List ℕ} {at next : ℕ} → xs ≡ ys → Types xs l at m next → Types ys l at m next
types_as {l = l} {m = m} {at = at} {next = next} e a = subst (λ x. Types x l at m next) e a

-- nothing is typed
pub types_none : (l : List ℕ) (at : ℕ) → Types [] l at l at
unfolding typed_at place_after
types_none l at = record { octets = refl; place = refl }

-- ---- where there is room, the octets are put

typed_put : (xs l : List ℕ) (at : ℕ) → at + length xs ≤ 4_096 → Put xs l at (typed_at l at xs) (place_after at xs)
unfolding typed_at place_after
typed_put [] l at h = record { octets = refl; place = omega arith }
typed_put (x ∷ xs) l at h =
    let e : ltb at 4_096 ≡ true = lt-ltb at 4_096 (omega arith) in
    let ih : Put xs (set l at x) (at + 1) (typed_at (set l at x) (at + 1) xs) (place_after (at + 1) xs) = typed_put xs (set l at x) (at + 1) (omega arith) in record {
      octets = rw e (ih.octets ∙ ap (λ i. sets (set l at x) i xs) (add-one at));
      place = rw e (ih.place ∙ omega arith);
    }

-- a text typed from the start of the buffer stands in front of it
pub typed_front : (xs : List ℕ) → length xs ≤ 4_096 → {l m : List ℕ} {next : ℕ} → length l ≡ 4_096 → Types xs l 0 m next → (next ≡ length xs) × (take next m ≡ xs)
typed_front xs h {l} {m} {next} k a =
    let p : Put xs l 0 (typed_at l 0 xs) (place_after 0 xs) = typed_put xs l 0 (omega arith) in
    let e : next ≡ length xs = a.place ∙ p.place ∙ omega arith in
    (e, ap (λ j. take j m) e ∙ ap (take (length xs)) (a.octets ∙ p.octets ∙ sets-eq xs l 0 (omega arith)) ∙ take-append_seam xs (drop (0 + length xs) l))

-- ---- what was typed lies in the buffer, whether it had room or not

typed-length : (xs l : List ℕ) (at : ℕ) → length (typed_at l at xs) ≡ length l
unfolding typed_at
typed-length [] l at = refl
typed-length (x ∷ xs) l at = by_room (ltb at 4_096) (typed-length xs (set l at x) (at + 1) ∙ length-set l at x)
  where
    by_room : (b : Bool) → length (typed_at (set l at x) (at + 1) xs) ≡ length l → length (pick b (typed_at (set l at x) (at + 1) xs) l) ≡ length l
    by_room true h = h
    by_room false h = refl

place_within : (xs : List ℕ) (at : ℕ) → at ≤ 4_096 → place_after at xs ≤ 4_096
unfolding place_after
place_within [] at h = h
place_within (x ∷ xs) at h = by_room (ltb at 4_096) refl (λ k. place_within xs (at + 1) k)
  where
    by_room : (b : Bool) → ltb at 4_096 ≡ b → (at + 1 ≤ 4_096 → place_after (at + 1) xs ≤ 4_096) → pick b (place_after (at + 1) xs) at ≤ 4_096
    by_room true e f = f (omega (arith, ltb-true at 4_096 e))
    by_room false e f = h

pub types_within : {xs l : List ℕ} {at : ℕ} {m : List ℕ} {next : ℕ} → Types xs l at m next → length l ≡ 4_096 → at ≤ 4_096 → next ≤ length m
types_within {xs} {l} {at} {m} {next} a k h = omega (arith, ap length a.octets ∙ typed-length xs l at, a.place, place_within xs at h)

-- ---- the ways out of `octet`

pub octet_there : (o : ℕ) (l : List ℕ) (at : ℕ) → at < 4_096 → Types (o ∷ []) l at (set l at o) (at + 1)
unfolding typed_at place_after
octet_there o l at h = let e : ltb at 4_096 ≡ true = lt-ltb at 4_096 h in record { octets = rw e refl; place = rw e refl }

pub octet_full : (o : ℕ) (l : List ℕ) (at : ℕ) → 4_096 ≤ at → Types (o ∷ []) l at l at
octet_full o l at h = typed_full l at (o ∷ []) (le-ltb at 4_096 h)

-- ---- the first i octets of a word, and one more

pub word_more : (s : List ℕ) (i : ℕ) → i < length s → {l m q : List ℕ} {at next last : ℕ}
    → Types (take i s) l at m next → Types (get_or s i 0 ∷ []) m next q last → Types (take (i + 1) s) l at q last
word_more s i h {l} {m} {q} {at} {next} {last} a b =
    let e : i + 1 ≡ suc i = omega arith in
    subst (λ x. Types x l at q last) (sym (ap (λ j. take j s) e ∙ take-suc s i 0 h)) (types_behind a b)

-- ---- the ways out of `digits`

pub digits_none : (f n : ℕ) → f ≡ 0 → (l : List ℕ) (at : ℕ) → Types (digits_of f n) l at l at
unfolding digits_of
digits_none f n e l at = rw e (types_none l at)

one_digit : (f n : ℕ) → (f ≡ 0 → ⊥) → n < 10 → digits_of f n ≡ (48 + n % 10) ∷ []
unfolding digits_of
one_digit zero n some h = absurd (some refl)
one_digit (suc f) n some h = let e : n % 10 ≡ n = mod-eq_of_lt h in rw (lt-ltb n 10 h, e) refl

more_digits : (f n : ℕ) → (f ≡ 0 → ⊥) → 10 ≤ n → digits_of f n ≡ digits_of (f - 1) (n / 10) ++ ((48 + n % 10) ∷ [])
unfolding digits_of
more_digits zero n some h = absurd (some refl)
more_digits (suc f) n some h = let e : suc f - 1 ≡ f = omega arith in rw (le-ltb n 10 h, e) refl

-- the last digit is o
module _ (f n : ℕ) (some : f ≡ 0 → ⊥) {o : ℕ} (eo : o ≡ 48 + n % 10) {l m : List ℕ} {at next : ℕ} where
  pub digits_one : n < 10 → Types (o ∷ []) l at m next → Types (digits_of f n) l at m next
  digits_one h a = subst (λ x. Types x l at m next) (ap (◌∷ []) eo ∙ sym (one_digit f n some h)) a

  pub digits_more : 10 ≤ n → {q : List ℕ} {last : ℕ} → Types (digits_of (f - 1) (n / 10)) l at m next → Types (o ∷ []) m next q last → Types (digits_of f n) l at q last
  digits_more h {q} {last} a b =
      subst (λ x. Types x l at q last) (ap (λ x. digits_of (f - 1) (n / 10) ++ (x ∷ [])) eo ∙ sym (more_digits f n some h)) (types_behind a b)

-- a number in decimal has at most twenty digits
pub types_decimal : (n : ℕ) {l m : List ℕ} {at next : ℕ} → Types (digits_of 20 n) l at m next → Types (decimal n) l at m next
unfolding decimal
types_decimal n a = a

-- ---- the ways out of `signed`

pub signed_below : (z : ℤ) → lt_z z (pos 0) ≡ true → {l m q : List ℕ} {at next last : ℕ}
    → Types (45 ∷ []) l at m next → Types (decimal (nat_abs z)) m next q last → Types (signed_decimal z) l at q last
unfolding signed_decimal
signed_below (pos n) t a b = absurd (omega (arith, ltb-true n 0 t))
signed_below (negsuc n) t a b = types_behind a b

pub signed_above : (z : ℤ) → lt_z z (pos 0) ≡ false → {l m : List ℕ} {at next : ℕ} → Types (decimal (nat_abs z)) l at m next → Types (signed_decimal z) l at m next
unfolding signed_decimal
signed_above (pos n) t a = a
signed_above (negsuc n) t a = let e : ◌≡◌ {A = ℕ} 0 1 = cc in absurd (omega arith)

-- ---- a line: key, sign, value, line feed

-- a name and a further name are one key
pub types_key : (name more value : List ℕ) {l m q : List ℕ} {at next last : ℕ}
    → Types name l at m next → Types (key_line more value) m next q last → Types (key_line (name ++ more) value) l at q last
unfolding key_line
types_key name more value a b = types_as (sym (append_assoc name more _)) (types_behind a b)

pub types_line : (key value : List ℕ) {l m q u v : List ℕ} {at sign start end next : ℕ}
    → Types key l at m sign → Types (61 ∷ []) m sign q start → Types value q start u end → Types (10 ∷ []) u end v next → Types (key_line key value) l at v next
unfolding key_line
types_line key value a b c d = types_behind a (types_behind b (types_behind c d))
