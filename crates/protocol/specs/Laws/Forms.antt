-- One law for each way through the parser.
use Rattle.std.specs.Prelude.{◌≡◌, ◌⊎◌, true, false, List, ℕ, ◌+◌, ◌≤◌, ◌<◌, Some, None, length, get_or, drop}
use Rattle.std.proofs.Math.Path.{refl}
use Rattle.std.proofs.Common.{inl, inr, sym, ap, ◌∙◌, lt-ltb, ne_eqb, drop_of_length-le, drop-cons}
use Rattle.std.proofs.Math.Numerals.{add-one}
use Rattle.words.specs.Lines.{word_of}
use Rattle.words.specs.Numbers.{is_number, is_signed}
use Rattle.words.specs.Laws.Numbers.{number_some, signed_some}
use Rattle.hex_words.specs.Octets.{is_octets, is_list}
use Rattle.protocol.specs.Line.{words_of, nth, words_at, next_place}
use Rattle.protocol.specs.Forms.{fits, first_wrong, wrong_word}
use Rattle.protocol.specs.Laws.Line.{words_all, none_at, some_at, word_at, rest_at}

-- ---- of `fits`

module _ (kind : ℕ) (w : List ℕ) where
  pub fits_byte : (kind ≡ 67) ⊎ ((kind ≡ 73) ⊎ (kind ≡ 66)) → is_number 255 w ≡ fits kind w
  unfolding fits
  fits_byte (inl e) = rw e refl
  fits_byte (inr (inl e)) = rw e refl
  fits_byte (inr (inr e)) = rw e refl

  pub fits_octets : kind ≡ 79 → is_octets w ≡ fits kind w
  unfolding fits
  fits_octets e = rw e refl

  pub fits_list : kind ≡ 76 → is_list w ≡ fits kind w
  unfolding fits
  fits_list e = rw e refl

  pub fits_room : kind ≡ 82 → is_number 300 w ≡ fits kind w
  unfolding fits
  fits_room e = rw e refl

  pub fits_held : kind ≡ 72 → is_number 65_535 w ≡ fits kind w
  unfolding fits
  fits_held e = rw e refl

  pub fits_signed : kind ≡ 83 → is_signed w ≡ fits kind w
  unfolding fits
  fits_signed e = rw e refl

pub fits_other : (kind : ℕ) (w : List ℕ) → (kind ≡ 67 → ⊥) → (kind ≡ 79 → ⊥) → (kind ≡ 76 → ⊥) → (kind ≡ 73 → ⊥) → (kind ≡ 82 → ⊥) → (kind ≡ 66 → ⊥)
    → (kind ≡ 72 → ⊥) → (kind ≡ 83 → ⊥) → false ≡ fits kind w
unfolding fits
fits_other k w a b c d e f g h =
    rw (ne_eqb k 67 a, ne_eqb k 79 b, ne_eqb k 76 c, ne_eqb k 73 d, ne_eqb k 82 e, ne_eqb k 66 f, ne_eqb k 72 g, ne_eqb k 83 h) refl

pub ruleset fits_ways = (number_some, signed_some, fits_byte, fits_octets, fits_list, fits_room, fits_held, fits_signed, fits_other)

-- ---- of `first_wrong`

-- a number as code gives it, which numbers no word 0
is_word : {n m : ℕ} → n ≡ m → 0 < m → Some m ≡ wrong_word n
is_word {m = m} e h = rw (e, lt-ltb 0 m h) refl

module _ (ks s : List ℕ) (k at n : ℕ) where
  abbrev pub wrong_from : ℕ
  wrong_from = first_wrong (drop k ks) (words_at s at) n

  pub wrong_missing : k < length ks → length s < at → wrong_from ≡ n
  unfolding first_wrong
  wrong_missing h e = rw (drop-cons ks k 0 h, none_at s at e) refl

  pub wrong_here : k < length ks → at ≤ length s → fits (get_or ks k 0) (word_of (drop at s)) ≡ false → wrong_from ≡ n
  unfolding first_wrong
  wrong_here h e f = rw (drop-cons ks k 0 h, some_at s at e, f) refl

  pub wrong_more : k < length ks → at ≤ length s → fits (get_or ks k 0) (word_of (drop at s)) ≡ true
      → wrong_from ≡ first_wrong (drop (k + 1) ks) (words_at s (next_place s at)) (n + 1)
  unfolding first_wrong
  wrong_more h e f = rw (drop-cons ks k 0 h, some_at s at e, f, add-one k) refl

  pub wrong_none : length ks ≤ k → length s < at → wrong_from ≡ 0
  unfolding first_wrong
  wrong_none h e = rw (drop_of_length-le ks {i = k} h, none_at s at e) refl

  pub wrong_over : length ks ≤ k → at ≤ length s → wrong_from ≡ n
  unfolding first_wrong
  wrong_over h e = rw (drop_of_length-le ks {i = k} h, some_at s at e) refl

  -- as code gives it
  pub some_missing : 0 < n → k < length ks → length s < at → Some n ≡ wrong_word wrong_from
  some_missing p h e = is_word (wrong_missing h e) p

  pub some_here : 0 < n → k < length ks → at ≤ length s → fits (get_or ks k 0) (word_of (drop at s)) ≡ false → Some n ≡ wrong_word wrong_from
  some_here p h e f = is_word (wrong_here h e f) p

  pub none_wrong : length ks ≤ k → length s < at → None ≡ wrong_word wrong_from
  none_wrong h e = ap wrong_word (sym (wrong_none h e))

  pub some_over : 0 < n → length ks ≤ k → at ≤ length s → Some n ≡ wrong_word wrong_from
  some_over p h e = is_word (wrong_over h e) p

pub wrong_start : (ks s : List ℕ) {at : ℕ} → at ≡ next_place s 0 → first_wrong ks (drop 1 (words_of s)) 2 ≡ first_wrong ks (words_at s at) 2
wrong_start ks s e = ap (λ ws. first_wrong ks ws 2) (ap (drop 1) (sym (words_all s)) ∙ rest_at s 0 ∙ ap (words_at s) (sym e))

-- ---- of `judge`

pub name_of : (s : List ℕ) → word_of (drop 0 s) ≡ nth (words_of s) 0
name_of s = word_at s 0 ∙ ap (λ ws. nth ws 0) (words_all s)
