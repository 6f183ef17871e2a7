-- The whole sheet: the guess's sheet agrees with the text as long as the sheet of any contents does, whatever its value of `len`; and the guess can always be written.
use Rattle.std.specs.Prelude.{◌≡◌}
use Rattle.std.proofs.Common.{sym, ap, ◌∙◌, arith}
use Rattle.std.proofs.Math.Path.{subst}
use mathlib.Core.List.{List, [], ◌∷◌, ◌++◌}
use Prim.Native.Nat.{ℕ, suc, ◌≤◌}
use Rattle.std.proofs.Math.Dec.{T}
use Rattle.codec.specs.Radix.{total}
use Rattle.codec.specs.Codec.{number}
use Rattle.codec.specs.Line.{Held}
use Rattle.codec.specs.Field.{flags, no_spare, indicator, Contents, body}
use Rattle.codec.specs.Frame.{write_frame}
use Rattle.codec.proofs.Laws.Tests.{and_in, and_l, and_r, holds}
use Rattle.codec.proofs.Laws.Codec.{number_okay}
use Rattle.codec.proofs.Laws.Field.{indicator_lt, row_okay}
use Rattle.papers.specs.Names.{text, names_of}
use Rattle.papers.specs.Papers.{known, paper_of}
use Rattle.scope.specs.Sheet.{key_line, decimal, items_text, row_text}
use Rattle.guess.specs.Lines.{behind_octet, until_feed, behind_feed, behind_feeds}
use Rattle.guess.proofs.Laws.Fits.{feeds, without, whole, whole_append, Fits, by_lines, fits_open, fits_split, fits_join, fits_then, fits_self, fits-end}
use Rattle.guess.specs.Guess.{value_in, begins, row_in, indicator_of, indicator_in, category_of, category_in, bounded_in, length_in, contents_in, guess_of, behind_len, sheet_with}
use Rattle.guess.proofs.Laws.Numbers.{line_whole, line_has, line_until, line_feeds, decimal-clean, bounded_in_lem, key_begins}
use Rattle.guess.proofs.Laws.Groups.{Begins, starts_any}
use Rattle.guess.proofs.Laws.Items.{keep_bounded}
use Rattle.guess.proofs.Laws.Row.{row_whole, keep_row, row_made, indicator_in_lem}
use Rattle.guess.proofs.Laws.Papers.{last, papers_right, as_many, items_told, category_told, category_known}

-- ---- a line whose words tell what it was made of

keep_told : {A : Type 0} (k : List ℕ) (value : A → List ℕ) (f : List ℕ → A) (a : A) → T (without 10 k) → T (without 10 (value a)) → f (k ++ (61 ∷ value a)) ≡ a → (n : ℕ) (t : List ℕ) (K K' : ℕ → List ℕ → Type 0)
    → Fits n (key_line k (value a)) t K → (f (until_feed t) ≡ a → (m : ℕ) → K (suc m) (behind_feed t) → K' (suc m) (behind_feed t)) → Fits n (key_line k (value (f (until_feed t)))) t K'
unfolding behind_feeds
keep_told k value f a nk nv back n t K K' h c =
    by_lines n _ t K' λ m en.
    let u : until_feed (key_line k (value a)) ≡ k ++ (61 ∷ value a) = line_until k (value a) nk nv in
    let e : f (until_feed t) ≡ a = ap f (sym (fits_open m (key_line k (value a)) t K (line_has k (value a)) (subst (λ j. Fits j (key_line k (value a)) t K) en h)).0 ∙ u) ∙ back in
    subst (λ y. Fits n (key_line k (value y)) t K') (sym e)
    (fits_then n (key_line k (value a)) t K K' (line_whole k (value a)) h
    (subst (λ j. (m : ℕ) → K (suc m) (behind_feeds j t) → K' (suc m) (behind_feeds j t)) (sym (line_feeds k (value a) nk nv)) (c e)))

-- ---- from line 3 on

abbrev end_line : List ℕ
end_line = key_line (text "end") (text "ok")

end_whole : T (whole end_line)
end_whole = line_whole (text "end") (text "ok")

end_begins : (K : ℕ → List ℕ → Type 0) → Begins last (λ m x. Fits m end_line x K)
unfolding starts_any without
end_begins K m x h =
    let b : T (begins (text "end=") x) = key_begins (text "end") (text "ok") x (sym (line_until (text "end") (text "ok") tt tt) ∙ (fits_open m end_line x K (line_has (text "end") (text "ok")) h).0) in
    rw (holds (begins (text "end=") x) b) tt

abbrev row_of : ℕ → Contents → List ℕ
row_of cat r = row_text (flags r.0) (paper_of cat) (names_of cat) r.1

module _ (cat : ℕ) (known_is : T (known cat)) where
  row_is_whole : (r : Contents) → T (whole (row_of cat r))
  row_is_whole r = row_whole last (flags r.0) (paper_of cat) (names_of cat) (papers_right cat known_is) r.1

  -- a line that tells the indicator: what stands behind its first `=`
  told : List ℕ → ℕ
  told w = indicator_of (names_of cat) (behind_octet 61 w)

  module _ (r : Contents) (o : T ((body (paper_of cat)).okay r)) where
    spare_none : T (no_spare (paper_of cat) r.0)
    unfolding body indicator
    spare_none = search (and_l, and_r)

    keep_items : (n : ℕ) (t : List ℕ) (K K' : ℕ → List ℕ → Type 0) → Fits n (key_line (text "items") (items_text [] (flags r.0) (names_of cat))) t K
        → (indicator_in (names_of cat) t ≡ r.0 → (m : ℕ) → K (suc m) (behind_feed t) → K' (suc m) (behind_feed t))
        → Fits n (key_line (text "items") (items_text [] (flags (indicator_in (names_of cat) t)) (names_of cat))) t K'
    unfolding indicator_in value_in told behind_octet without
    keep_items n t K K' h c =
        let i = items_told cat known_is r.0 (indicator_lt (paper_of cat) r o) spare_none in
        keep_told (text "items") (λ j. items_text [] (flags j) (names_of cat)) told r.0 tt i.0 i.1 n t K K' h c

    pub keep_contents : (n : ℕ) (t : List ℕ) (K K' : ℕ → List ℕ → Type 0) → Fits n (behind_len cat r) t K
        → (contents_in cat t ≡ r → (m : ℕ) (x : List ℕ) → K (suc m) x → K' (suc m) x) → Fits n (behind_len cat (contents_in cat t)) t K'
    unfolding contents_in behind_len
    keep_contents n t K K' h c =
        let i : ℕ = indicator_in (names_of cat) t in
        let t2 : List ℕ = behind_feed t in
        let vs : ℕ → List Held = λ j. row_in (flags j) (paper_of cat) (names_of cat) t2 in
        let items : ℕ → List ℕ = λ j. key_line (text "items") (items_text [] (flags j) (names_of cat)) in
        let w : (j : ℕ) → T (whole (items j)) = λ j. line_whole (text "items") (items_text [] (flags j) (names_of cat)) in
        fits_join n (items i) (row_of cat (i, vs i) ++ end_line) t K' (w i)
        (keep_items n t (λ m x. Fits m (row_of cat r ++ end_line) x K) (λ m x. Fits m (row_of cat (i, vs i) ++ end_line) x K') (fits_split n (items r.0) (row_of cat r ++ end_line) t K (w r.0) h)
        (λ e m g.
        subst (λ j. ((j, vs j) ≡ r → (m : ℕ) (x : List ℕ) → K (suc m) x → K' (suc m) x) → Fits (suc m) (row_of cat (j, vs j) ++ end_line) t2 K') (sym e)
        (λ d. fits_join (suc m) (row_of cat (r.0, vs r.0)) end_line t2 K' (row_is_whole (r.0, vs r.0))
        (keep_row last (flags r.0) (paper_of cat) (names_of cat) (papers_right cat known_is) r.1 (row_okay (paper_of cat) r o) (suc m) t2 (λ j x. Fits j end_line x K) (λ j x. Fits j end_line x K') (end_begins K)
        (fits_split (suc m) (row_of cat r) end_line t2 K (row_is_whole r) g)
        (λ es j x u. fits_then (suc j) end_line x K K' end_whole u (λ y. d (λ i. (r.0, es i)) y _)))) c))

  -- the guess can be written, whatever the text
  pub contents-made : (t : List ℕ) → T ((body (paper_of cat)).okay (contents_in cat t))
  unfolding body indicator contents_in indicator_in total
  contents-made t =
      let m = as_many cat known_is in
      let i = indicator_in_lem (paper_of cat) (names_of cat) m.0 m.1 (value_in t) in
      and_in ((indicator (paper_of cat)).okay (indicator_of (names_of cat) (value_in t))) _ (and_in ((number 1).okay (indicator_of (names_of cat) (value_in t))) _ (number_okay 1 (indicator_of (names_of cat) (value_in t)) i.0) i.1)
      (row_made last (flags (indicator_of (names_of cat) (value_in t))) (paper_of cat) (names_of cat) (papers_right cat known_is) (behind_feed t))

-- ---- the whole of it

-- the contents of a sheet, with the category and the value of `len`
abbrev pub Told : Type 0
Told = ℕ × ℕ × Contents

abbrev pub told_in : List ℕ → Told
told_in t = (category_in t, length_in t, guess_of t)

-- its sheet, and its field
abbrev pub sheet_in : List ℕ → List ℕ
sheet_in t = sheet_with (category_in t) (length_in t) (guess_of t)

abbrev pub field_in : List ℕ → List ℕ
field_in t = write_frame (body (paper_of (category_in t))) (guess_of t)

pub category_in_lem : (t : List ℕ) → T (known (category_in t))
unfolding category_in
category_in_lem t = category_known (until_feed t)

pub length_in_lem : (t : List ℕ) → (2 ≤ length_in t) × (length_in t ≤ 255)
unfolding length_in
length_in_lem t = bounded_in_lem 2 255 (behind_feed t) (omega arith)

-- the guess can be written
pub guess_okay : (t : List ℕ) → T ((body (paper_of (category_in t))).okay (guess_of t))
unfolding guess_of
guess_okay t = contents-made (category_in t) (category_in_lem t) (behind_feeds 2 t)

sheet_whole : (cat : ℕ) → T (known cat) → (len : ℕ) (r : Contents) → T (whole (sheet_with cat len r))
unfolding sheet_with
sheet_whole cat k len r =
    whole_append (key_line (text "cat") (decimal cat)) _ (line_whole (text "cat") (decimal cat))
    (whole_append (key_line (text "len") (decimal len)) _ (line_whole (text "len") (decimal len))
    (whole_append (key_line (text "items") (items_text [] (flags r.0) (names_of cat))) _ (line_whole (text "items") (items_text [] (flags r.0) (names_of cat)))
    (whole_append (row_of cat r) end_line (row_is_whole cat k r) end_whole)))

module _ (cat : ℕ) (k : T (known cat)) (len : ℕ) (least : 2 ≤ len) (most : len ≤ 255) (r : Contents) (o : T ((body (paper_of cat)).okay r)) where
  pub keep_sheet : (n : ℕ) (t : List ℕ) (K K' : ℕ → List ℕ → Type 0) → Fits n (sheet_with cat len r) t K
      → (told_in t ≡ (cat, len, r) → (m : ℕ) (x : List ℕ) → K (suc m) x → K' (suc m) x) → Fits n (sheet_in t) t K'
  unfolding sheet_with category_in length_in guess_of behind_feeds without
  keep_sheet n t K K' h c =
      let t2 : List ℕ = behind_feed t in
      let t3 : List ℕ = behind_feed t2 in
      let l : ℕ = bounded_in 2 255 t2 in
      let first : ℕ → List ℕ = λ j. key_line (text "cat") (decimal j) in
      let second : ℕ → List ℕ = λ j. key_line (text "len") (decimal j) in
      let g : ℕ → Contents = λ j. contents_in j t3 in
      let i : ℕ = category_of (until_feed t) in
      fits_join n (first i) (second l ++ behind_len i (g i)) t K' (line_whole (text "cat") (decimal i))
      (keep_told (text "cat") decimal category_of cat tt (decimal-clean cat) (category_told cat k) n t (λ m x. Fits m (second len ++ behind_len cat r) x K) (λ m x. Fits m (second l ++ behind_len i (g i)) x K')
      (fits_split n (first cat) (second len ++ behind_len cat r) t K (line_whole (text "cat") (decimal cat)) h)
      (λ e m u.
      subst (λ j. (◌≡◌ {A = Told} (j, l, g j) (cat, len, r) → (m : ℕ) (x : List ℕ) → K (suc m) x → K' (suc m) x) → Fits (suc m) (second l ++ behind_len j (g j)) t2 K') (sym e)
      (λ d. fits_join (suc m) (second l) (behind_len cat (g cat)) t2 K' (line_whole (text "len") (decimal l))
      (keep_bounded (text "len") tt tt 2 255 len (omega arith) least most t2 (suc m) (λ j x. Fits j (behind_len cat r) x K) (λ j x. Fits j (behind_len cat (g cat)) x K')
      (fits_split (suc m) (second len) (behind_len cat r) t2 K (line_whole (text "len") (decimal len)) u)
      (λ el j w. keep_contents cat k r o (suc j) t3 K K' w (λ er. d (λ i. (cat, el i, er i)))))) c))

  -- the guess of a sheet is what it was made of, whatever is put behind it
  pub sheet_told : (x : List ℕ) → told_in (sheet_with cat len r ++ x) ≡ (cat, len, r)
  sheet_told x =
      let s : List ℕ = sheet_with cat len r in
      let t : List ℕ = s ++ x in
      let n : ℕ = suc (feeds (sheet_in t)) in
      fits-end n (sheet_in t) t (λ m y. told_in t ≡ (cat, len, r)) (sheet_whole (category_in t) (category_in_lem t) (length_in t) (guess_of t)) (omega arith)
      (keep_sheet n t (λ m y. y ≡ x) (λ m y. told_in t ≡ (cat, len, r)) (fits_self n s x (sheet_whole cat k len r)) (λ e m y u. e))
      (λ m y e. e)
