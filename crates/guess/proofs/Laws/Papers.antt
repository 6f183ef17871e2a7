-- What holds of every paper and its names, by computed tests: what the walk asks of each item, and the line `items` of every indicator.
use Rattle.std.specs.Prelude.{◌≡◌, refl, Bool, true, false, ◌&&◌, List, [], ◌∷◌, ◌++◌, ℕ, ◌≤◌, ◌<◌, T, eqb, length}
use Rattle.std.proofs.Common.{sym, subst, eqb-true, leb→le, eqb→eq}
use Rattle.codec.specs.Pick.{pick}
use Rattle.codec.specs.Radix.{total, cut, join}
use Rattle.codec.specs.Signed.{in_signed}
use Rattle.codec.specs.Line.{in_num, limit, widths, count, fills}
use Rattle.codec.specs.Item.{slots_of, good_lines, good_item}
use Rattle.codec.specs.Field.{first_flag, next_flags, flags, all_zero, no_spare}
use Rattle.codec.proofs.Laws.Tests.{and_l, and_r, holds, up_to_lem}
use Rattle.papers.specs.Cat048.{cat048}
use Rattle.papers.specs.Cat021.{cat021}
use Rattle.papers.specs.Cat007.{cat007}
use Rattle.papers.specs.Names.{text, names048, names021, names007, names_of}
use Rattle.papers.specs.Papers.{known, paper_of}
use Rattle.scope.specs.Sheet.{decimal, digits_of, items_text}
use Rattle.guess.proofs.Laws.Fits.{without}
use Rattle.guess.specs.Guess.{begins, key_text, head_of, keys_in, fits_piece, names_in, indicator_of, category_of}
use Rattle.guess.proofs.Laws.Numbers.{listed_key, listed}
use Rattle.guess.proofs.Laws.Groups.{listed_lines, apart, apart_all, heads_of, heads_apart}
use Rattle.guess.proofs.Laws.Flags.{bit_pieces, bit_lines, in_order}
use Rattle.guess.proofs.Laws.Items.{least_parts, most_parts, chain_key, chain_named, all_hidden, hidden_first, named_right, item_heads, behind_right, item_right}
use Rattle.guess.proofs.Laws.Row.{row_heads, row_right}

-- a fact of the three categories is one of every known category
pub by-known : (P : ℕ → Type 0) → P 48 → P 21 → P 7 → (cat : ℕ) → T (known cat) → P cat
unfolding known
by-known P a b c cat k = go (eqb cat 48) refl (eqb cat 21) refl (eqb cat 7) refl k
  where
    go : (x : Bool) → eqb cat 48 ≡ x → (y : Bool) → eqb cat 21 ≡ y → (z : Bool) → eqb cat 7 ≡ z → T (pick x true (pick y true z)) → P cat
    go true e y f z g k = subst P (sym (eqb-true cat 48 e)) a
    go false e true f z g k = subst P (sym (eqb-true cat 21 f)) b
    go false e false f true g k = subst P (sym (eqb-true cat 7 g)) c
    go false e false f false g k = absurd k

-- the last line begins so
abbrev pub last : List (List ℕ)
last = text "end=" ∷ []

pub papers_right : (cat : ℕ) → T (known cat) → T (row_right (paper_of cat) (names_of cat) last)
unfolding row_right row_heads item_heads item_right good_item good_lines fills named_right listed_lines listed listed_key hidden_first all_hidden bit_lines bit_pieces in_order behind_right heads_apart apart_all apart heads_of head_of key_text keys_in chain_named chain_key without least_parts most_parts slots_of count widths total fits_piece in_num in_signed limit paper_of names_of names048 names021 names007 cat048 cat021 cat007
papers_right cat k = by-known (λ c. T (row_right (paper_of c) (names_of c) last)) tt tt tt cat k

pub as_many : (cat : ℕ) → T (known cat) → (length (paper_of cat) ≡ length (names_of cat)) × (length (names_of cat) ≤ 8)
unfolding paper_of names_of names048 names021 names007 cat048 cat021 cat007
as_many cat k = by-known (λ c. (length (paper_of c) ≡ length (names_of c)) × (length (names_of c) ≤ 8)) (refl, leb→le 5 8 tt) (refl, leb→le 8 8 tt) (refl, leb→le 5 8 tt) cat k

-- the line `items` of an indicator without spare places has no line feed, and tells the indicator
items_right : ℕ → ℕ → Bool
items_right cat n = pick (no_spare (paper_of cat) n) (without 10 (items_text [] (flags n) (names_of cat)) && eqb (indicator_of (names_of cat) (items_text [] (flags n) (names_of cat))) n) true

items_test : (cat : ℕ) → T (known cat) → (n : ℕ) → n < 256 → T (items_right cat n)
unfolding items_right paper_of names_of names048 names021 names007 cat048 cat021 cat007 cut join total all_zero without items_text first_flag next_flags indicator_of names_in begins
items_test cat k n h = by-known (λ c. T (items_right c n)) (up_to_lem (items_right 48) 256 tt n h) (up_to_lem (items_right 21) 256 tt n h) (up_to_lem (items_right 7) 256 tt n h) cat k

pub items_told : (cat : ℕ) → T (known cat) → (n : ℕ) → n < 256 → T (no_spare (paper_of cat) n)
    → T (without 10 (items_text [] (flags n) (names_of cat))) × (indicator_of (names_of cat) (items_text [] (flags n) (names_of cat)) ≡ n)
unfolding items_right
items_told cat k n h s =
    let ws : List ℕ = items_text [] (flags n) (names_of cat) in
    let t : T (without 10 ws && eqb (indicator_of (names_of cat) ws) n) = subst (λ b. T (pick b (without 10 ws && eqb (indicator_of (names_of cat) ws) n) true)) (holds (no_spare (paper_of cat) n) s) (items_test cat k n h) in
    (and_l (without 10 ws) _ t, eqb→eq (indicator_of (names_of cat) ws) n (and_r (without 10 ws) _ t))

-- ---- the first line tells the category

pub category_told : (cat : ℕ) → T (known cat) → category_of (text "cat=" ++ decimal cat) ≡ cat
unfolding category_of begins decimal digits_of
category_told cat k = by-known (λ c. category_of (text "cat=" ++ decimal c) ≡ c) refl refl refl cat k

-- whatever it is, the guess is a known one
pub category_known : (w : List ℕ) → T (known (category_of w))
unfolding category_of known
category_known w = go (begins (text "cat=21") w) (begins (text "cat=7") w)
  where
    go : (x y : Bool) → T (known (pick x 21 (pick y 7 48)))
    go true y = tt
    go false true = tt
    go false false = tt
