-- What is taken is what was written: the octets of a word are those of its pairs of hex digits, in capitals and in small letters.
use Rattle.std.specs.Prelude.{◌≡◌, refl, Bool, true, false, ◌&&◌, List, [], ◌∷◌, ℕ, suc, ◌+◌, ◌-◌, ◌*◌, ◌/◌, ◌%◌, ◌≤◌, ◌<◌, T, ltb, length}
use Rattle.std.proofs.Common.{sym, ap₂, ◌∙◌, arith, lt-ltb, ltb-true, ltb-false, ltb→lt}
use Rattle.std.proofs.Math.Pow.{are_bytes}
use Rattle.codec.specs.Pick.{pick}
use Rattle.codec.proofs.Laws.Tests.{and_l, and_r}
use Rattle.text.specs.Hex.{capital, pair_text, pairs_text, hex_text}
use Rattle.hex_words.specs.Octets.{hex_digit, are_hex, is_octets, octet_of, octets_of}
use Rattle.hex_words.specs.Laws.Octets.{hex_number, hex_capital, hex_small, octets_sign, octets_even}

together : (a b : Bool) → a ≡ true → b ≡ true → a && b ≡ true
together a b p q = rw (p, q) refl

capital_taken : (d : ℕ) → d < 16 → hex_digit (capital d) ≡ d
unfolding capital
capital_taken d h = by_letter (ltb d 10) refl
  where
    by_letter : (b : Bool) → ltb d 10 ≡ b → hex_digit (pick b (48 + d) (55 + d)) ≡ d
    by_letter true e = let k : d < 10 = ltb-true d 10 e in sym (hex_number (48 + d) (omega arith) (omega arith)) ∙ omega arith
    by_letter false e = let k : 10 ≤ d = ltb-false d 10 e in sym (hex_capital (55 + d) (omega arith) (omega arith)) ∙ omega arith

-- a small letter is as good as the capital
pub either_case : (o : ℕ) → 65 ≤ o → o ≤ 70 → hex_digit (o + 32) ≡ hex_digit o
either_case o h k = let e : o + 32 - 97 + 10 ≡ o - 65 + 10 = omega arith in sym (hex_small (o + 32) (omega arith) (omega arith)) ∙ e ∙ hex_capital o h k

octet_taken : (o : ℕ) → o < 256 → octet_of (capital (o / 16)) (capital (o % 16)) ≡ o
unfolding octet_of
octet_taken o h = rw (capital_taken (o / 16) (omega arith), capital_taken (o % 16) (omega arith)) (omega arith)

pairs_taken : (os : List ℕ) → T (are_bytes os) → octets_of (pairs_text os) ≡ os
unfolding octets_of pairs_text pair_text
pairs_taken [] t = refl
pairs_taken (o ∷ os) t =
    ap₂ ◌∷◌ (octet_taken o (ltb→lt o 256 (and_l (ltb o 256) _ t))) (pairs_taken os (and_r (ltb o 256) _ t))

-- the octets of a word that was written of octets are those
pub octets_taken : (os : List ℕ) → T (are_bytes os) → octets_of (hex_text os) ≡ os
unfolding hex_text octets_of
octets_taken [] t = refl
octets_taken (o ∷ os) t = pairs_taken (o ∷ os) t

-- and it is such a word, if they are at most 4,096
pairs_hex : (os : List ℕ) → T (are_bytes os) → are_hex (pairs_text os) ≡ true
unfolding are_hex pairs_text pair_text
pairs_hex [] t = refl
pairs_hex (o ∷ os) t =
    let h : o < 256 = ltb→lt o 256 (and_l (ltb o 256) _ t) in
    let a : hex_digit (capital (o / 16)) ≡ o / 16 = capital_taken (o / 16) (omega arith) in
    let b : hex_digit (capital (o % 16)) ≡ o % 16 = capital_taken (o % 16) (omega arith) in
    together _ _ (lt-ltb (hex_digit (capital (o / 16))) 16 (omega arith))
    (together _ _ (lt-ltb (hex_digit (capital (o % 16))) 16 (omega arith)) (pairs_hex os (and_r (ltb o 256) _ t)))

pairs-length : (os : List ℕ) → length (pairs_text os) ≡ 2 * length os
unfolding pairs_text pair_text
pairs-length [] = refl
pairs-length (o ∷ os) = omega (arith, pairs-length os)

pub octets_are : (os : List ℕ) → T (are_bytes os) → length os ≤ 4_096 → is_octets (hex_text os) ≡ true
unfolding hex_text
octets_are [] t h = sym (octets_sign (45 ∷ []) refl)
octets_are (o ∷ os) t h =
    let e : length (pairs_text (o ∷ os)) ≡ 2 * suc (length os) = pairs-length (o ∷ os) in
    sym (octets_even (pairs_text (o ∷ os)) (λ x. omega arith) (omega arith) (omega arith) (omega arith)) ∙ pairs_hex (o ∷ os) t
