-- "octets after the first LEN are never looked at" (01, 'The field'): of two strings that begin alike, LEN octets and LEN itself, one reading.
use Rattle.std.specs.Prelude.{◌≡◌, refl, List, [], ◌∷◌, ◌++◌, ℕ, suc, ◌-◌, ◌≤◌, ltb, length}
use Rattle.std.proofs.Common.{sym, ◌∙◌, not-suc-le-zero, arith, length-append, le-ltb}
use Rattle.std.proofs.lemmas.List.{take-append-le}
use Rattle.codec.specs.Codec.{Codec}
use Rattle.codec.specs.Meaning.{len_of}
use Rattle.codec.specs.Frame.{read_frame}

-- t has LEN, and all that LEN counts
pub record Whole (t : List ℕ) : Type 0 where
  pub some : 1 ≤ length t
  pub all : len_of t ≤ length t

pub len_front : (t x : List ℕ) → Whole t → len_of (t ++ x) ≡ len_of t
unfolding len_of
len_front [] x w = absurd (not-suc-le-zero w.some)
len_front (len ∷ t) x w = refl

front_read : {A : Type 0} (c : Codec A) (t x : List ℕ) → Whole t → read_frame c (t ++ x) ≡ read_frame c t
unfolding read_frame len_of
front_read c [] x w = absurd (not-suc-le-zero w.some)
front_read c (len ∷ t) x w =
    let h : len ≤ suc (length t) = w.all in
    let a : ltb (suc (length (t ++ x))) len ≡ ltb (suc (length t)) len
    = le-ltb (suc (length (t ++ x))) len (rw length-append (omega arith)) ∙ sym (le-ltb (suc (length t)) len h) in
    rw (a, take-append-le (len - 1) t x (omega arith)) refl

pub behind_read : {A : Type 0} (c : Codec A) (t x y : List ℕ) → Whole t → read_frame c (t ++ x) ≡ read_frame c (t ++ y)
behind_read c t x y w = front_read c t x w ∙ sym (front_read c t y w)
