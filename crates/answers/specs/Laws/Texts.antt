-- How long the words of an answer are at most.
use Rattle.std.specs.Prelude.{◌≡◌, refl, List, [], ◌∷◌, ◌++◌, ℕ, zero, suc, ◌+◌, ◌-◌, ◌*◌, ◌≤◌, ℤ, pos, negsuc, length, take}
use Rattle.std.proofs.Common.{arith, length-append, length-take}
use Rattle.codec.specs.Frame.{Outcome, accepted, refused}
use Rattle.papers.specs.Papers.{SLOTS, LONGEST}
use Rattle.layout.specs.Answer.{Answer, Accepted, Refused, View, Shown, Hidden, length_of}
use Rattle.layout.specs.declared.Record.{Record}
use Rattle.scope.specs.Outputs.{answer_of}
use Rattle.scope.specs.Rebuilding.{octets_given}
use Rattle.scope.specs.Sheet.{signed_decimal}
use Rattle.text.specs.Hex.{pair_text, pairs_text, hex_text}
use Rattle.text.specs.Laws.Decimals.{decimal_most}
use Rattle.replies.specs.Texts.{next, next_signed, next_octets, bad_request, refusal_text, output_text, given_text, shown_text, view_text, choice_in, words_text, record_text, read_in, line_octet, sheet_text}

-- ---- words

next_most : (n : ℕ) → length (next n) ≤ 21
unfolding next
next_most n = omega (arith, decimal_most n)

signed_most : (z : ℤ) → length (next_signed z) ≤ 22
unfolding next_signed signed_decimal
signed_most (pos n) = omega (arith, decimal_most n)
signed_most (negsuc n) = omega (arith, decimal_most (suc n))

pairs-length : (s : List ℕ) → length (pairs_text s) ≡ 2 * length s
unfolding pairs_text pair_text
pairs-length [] = refl
pairs-length (o ∷ s) = omega (arith, pairs-length s)

octets_most : (s : List ℕ) → length (next_octets s) ≤ 2 + 2 * length s
unfolding next_octets hex_text
octets_most [] = omega arith
octets_most (o ∷ s) = omega (arith, pairs-length (o ∷ s))

words_most : {A : Type 0} (word : A → List ℕ) (k : ℕ) → ((x : A) → length (word x) ≤ k) → (n : ℕ) (s : List A) → length (words_text word (take n s)) ≤ n * k
unfolding words_text
words_most word k h zero s = omega arith
words_most word k h (suc n) [] = omega arith
words_most word k h (suc n) (x ∷ s) = omega (arith, length-append (word x) (words_text word (take n s)), h x, words_most word k h n s)

-- ---- answers

pub refusal_most : (n p : ℕ) → length (refusal_text n p) ≤ 49
unfolding refusal_text
refusal_most n p = omega (arith, length-append (next n) (next p), next_most n, next_most p)

shown_most : (a n : ℕ) (s : List ℕ) → length s ≤ 300 → length (shown_text a n s) ≤ 644
unfolding shown_text
shown_most a n s h = omega (arith, length-append (next a) (next n ++ next_octets s), length-append (next n) (next_octets s), next_most a, next_most n, octets_most s)

pub view_most : (v : View) (s : List ℕ) → length s ≤ 300 → length (view_text v s) ≤ 700
unfolding view_text
view_most (Shown a n) s h = omega (arith, shown_most a n s h)
view_most (Hidden n p) s h = omega (arith, refusal_most n p)

pub choice_most : (w : ℕ) (v : View) (s : List ℕ) → length s ≤ 300 → length (choice_in w v s) ≤ 700
unfolding choice_in
choice_most w (Shown a n) s h = omega (arith, length-append (next w) (shown_text a n s), next_most w, shown_most a n s h)
choice_most w (Hidden n p) s h = omega (arith, length-append (refusal_text n p) (next w), next_most w, refusal_most n p)

record_most : (f : Record) → length (record_text f) ≤ 1_904
unfolding record_text
record_most f =
    let p : length (words_text next (take 8 f.parts)) ≤ 8 * 21 = words_most next 21 next_most 8 f.parts in
    let q : length (words_text next_signed (take SLOTS f.numbers)) ≤ SLOTS * 22 = words_most next_signed 22 signed_most SLOTS f.numbers in
    omega (
      arith,
      length-append (next f.cat) (next f.items ++ (words_text next (take 8 f.parts) ++ words_text next_signed (take SLOTS f.numbers))),
      length-append (next f.items) (words_text next (take 8 f.parts) ++ words_text next_signed (take SLOTS f.numbers)),
      length-append (words_text next (take 8 f.parts)) (words_text next_signed (take SLOTS f.numbers)),
      next_most f.cat,
      next_most f.items,
    )

pub read_most : (a : Answer) (f : Record) → length (read_in a f) ≤ 2_000
unfolding read_in
read_most (Accepted n) f = omega (arith, length-append (next n) (record_text f), next_most n, record_most f)
read_most (Refused n p) f = omega (arith, refusal_most n p)

pub output_most : (o : Outcome (List ℕ)) → ((b : List ℕ) → o ≡ accepted b → length b ≤ 300) → length (output_text o) ≤ 700
unfolding output_text
output_most (accepted b) h = omega (arith, octets_most b, h b refl)
output_most (refused n p) h = omega (arith, refusal_most n p)

pub given_most : (o : Outcome (ℕ × List ℕ)) → length_of (answer_of (octets_given o)) ≤ LONGEST → length (given_text o) ≤ 2_000
unfolding given_text octets_given answer_of length_of
given_most (accepted x) h = omega (arith, length-append (next x.0) (next_octets x.1), next_most x.0, octets_most x.1)
given_most (refused n p) h = omega (arith, refusal_most n p)

pub bad_most : (n : ℕ) → length (bad_request n) ≤ 32
unfolding bad_request
bad_most n = omega (arith, next_most n)

line_length : (s : List ℕ) → length (words_text line_octet s) ≡ length s
unfolding words_text line_octet
line_length [] = refl
line_length (o ∷ s) = omega (arith, line_length s)

pub sheet_most : (s : List ℕ) → length (sheet_text s) ≤ 3 + length s
unfolding sheet_text
sheet_most s = omega (arith, line_length (take (length s - 1) s), length-take (length s - 1) s)
