-- The first line and the third: the category, and the names of the items.
use Rattle.std.specs.Prelude.{◌≡◌, refl, Bool, true, false, ◌&&◌, Option, Some, None, MatchOption, List, [], ◌∷◌, ◌++◌, ℕ, ◌+◌, ◌-◌, ◌<◌, ◌≤◌, eqb, length, take, drop}
use Rattle.std.specs.Borrow.{Bor}
use Rattle.std.specs.Cmp.Lexicographic.{pointwise}
use Rattle.std.proofs.Common.{sym, ◌∙◌, add-one, arith, length-append, drop-drop}
use Rattle.std.proofs.Math.Path.{ap, ap₂}
use Rattle.std.proofs.lemmas.List.Edits.{sets}
use Rattle.codec.specs.Pick.{pick}
use Rattle.codec.specs.Radix.{join, ones}
use Rattle.codec.specs.Field.{flags}
use Rattle.codec.specs.Change.{set_flag}
use Rattle.codec.proofs.Laws.Field.{flags-join}
use Rattle.codec.proofs.Laws.Change.{flags-set}
use Rattle.papers.specs.Names.{text}
use Rattle.sheet.specs.Rows.{named_on, names_from}
use Rattle.sheet.specs.Laws.Rows.{names_on}
use Rattle.guess.specs.Lines.{until_feed}
use Rattle.guess.specs.Guess.{begins, names_in, category_of, category_in}
use Rattle.taken.specs.Items.{comma_in, Behind}

-- ---- the ways out of `category`

module _ (t : List ℕ) {w : List ℕ} (ew : w ≡ until_feed t) {x : Bool} (ex : x ≡ begins (text "cat=21") w) where
  category_is : (y : Bool) → y ≡ begins (text "cat=7") w → category_in t ≡ pick x 21 (pick y 7 48)
  unfolding category_in category_of
  category_is y ey = ap category_of (sym ew) ∙ ap₂ (λ a b. pick a 21 (pick b 7 48)) (sym ex) (sym ey)

  pub category_021 : x ≡ true → 21 ≡ category_in t
  category_021 e = sym (category_is (begins (text "cat=7") w) refl ∙ ap (λ a. pick a 21 (pick (begins (text "cat=7") w) 7 48)) e)

  module _ (e : x ≡ false) {y : Bool} (ey : y ≡ begins (text "cat=7") w) where
    pub category_007 : y ≡ true → 7 ≡ category_in t
    category_007 f = sym (category_is y ey ∙ ap₂ (λ a b. pick a 21 (pick b 7 48)) e f)

    pub category_048 : y ≡ false → 48 ≡ category_in t
    category_048 f = sym (category_is y ey ∙ ap₂ (λ a b. pick a 21 (pick b 7 48)) e f)

-- ---- what follows a name

-- as a slice's `strip_prefix` says it
pub opens_is : (w t : List ℕ) → pointwise eqb (take (length w) t) w ≡ begins w t
unfolding begins
opens_is [] t = refl
opens_is (o ∷ w) [] = refl
opens_is (o ∷ w) (x ∷ t) = ap (λ b. eqb x o && b) (opens_is w t)

begins_append : (v w t : List ℕ) → begins (v ++ w) t ≡ begins v t && begins w (drop (length v) t)
unfolding begins
begins_append [] w t = refl
begins_append (o ∷ v) w [] = refl
begins_append (o ∷ v) w (x ∷ t) = go (eqb x o) (begins_append v w t)
  where
    go : (b : Bool) → begins (v ++ w) t ≡ begins v t && begins w (drop (length v) t) → b && begins (v ++ w) t ≡ (b && begins v t) && begins w (drop (length v) t)
    go true e = e
    go false e = refl

module _ (c name t : List ℕ) where
  pub comma_other : pointwise eqb (take (length c) t) c ≡ false → begins (c ++ name) t ≡ false
  comma_other e = begins_append c name t ∙ ap (λ x. x && begins name (drop (length c) t)) (sym (opens_is c t) ∙ e)

  -- behind the comma
  module _ (there : pointwise eqb (take (length c) t) c ≡ true) {rest : List ℕ} (er : rest ≡ drop (length c) t) where
    comma_there : begins (c ++ name) t ≡ pointwise eqb (take (length name) rest) name
    comma_there = begins_append c name t ∙ ap (λ x. x && begins name (drop (length c) t)) (sym (opens_is c t) ∙ there) ∙ ap (begins name) (sym er) ∙ sym (opens_is name rest)

    pub name_behind : (o : Option (Bor (List ℕ))) → MatchOption o (pointwise eqb (take (length name) rest) name ≡ false) (λ r. (pointwise eqb (take (length name) rest) name ≡ true) × (r.now ≡ drop (length name) rest) × (length r.now + length name ≡ length rest)) → Behind (c ++ name) t o
    name_behind None e = comma_there ∙ e
    name_behind (Some r) (e, er2, el) = (comma_there ∙ e, er2 ∙ ap (drop (length name)) er ∙ drop-drop (length name) (length c) t ∙ ap (λ n. drop n t) (sym (length-append c name)))

-- ---- the ways through `names`

abbrev pub Named : ℕ → ℕ → ℕ → ℕ → ℕ → List ℕ → ℕ
Named items i comma k left w = join ones (sets (flags items) i (names_in (comma_in comma) (names_from k left) w))

module _ (items i comma k left : ℕ) (w : List ℕ) (low : items < 256) where
  pub names_none : left ≡ 0 → items ≡ Named items i comma k left w
  unfolding names_in names_from
  names_none e = rw e (sym (flags-join items low))

  module _ (some : left ≡ 0 → ⊥) (few : i < 8) where
    abbrev word : List ℕ
    word = comma_in comma ++ (named_on k).name

    step : (b : Bool) → begins word w ≡ b → names_in (comma_in comma) (names_from k left) w
        ≡ pick b (1 ∷ names_in (text ",") (names_from (k + 1) (left - 1)) (drop (length word) w)) (0 ∷ names_in (comma_in comma) (names_from (k + 1) (left - 1)) w)
    unfolding names_in
    step b e =
        ap (λ nms. names_in (comma_in comma) nms w) (names_on k left some)
        ∙ ap (λ x. pick x (1 ∷ names_in (text ",") (names_from (k + 1) (left - 1)) (drop (length word) w)) (0 ∷ names_in (comma_in comma) (names_from (k + 1) (left - 1)) w)) e

    -- one flag set, and the rest behind it
    flag_on : (d : ℕ) → d < 2 → {with : ℕ} → with ≡ set_flag items i d → (ds : List ℕ) → join ones (sets (flags with) (i + 1) ds) ≡ join ones (sets (flags items) i (d ∷ ds))
    flag_on d hd ew ds = ap₂ (λ l j. join ones (sets l j ds)) (ap flags ew ∙ flags-set items i d low few hd) (add-one i)

    pub names_there : begins word w ≡ true → {u : List ℕ} → u ≡ drop (length word) w → {with : ℕ} → with ≡ set_flag items i 1 → Named with (i + 1) 1 (k + 1) (left - 1) u ≡ Named items i comma k left w
    names_there b {u} eu ew =
        flag_on 1 (omega arith) ew (names_in (text ",") (names_from (k + 1) (left - 1)) u) ∙ ap (λ v. join ones (sets (flags items) i (1 ∷ names_in (text ",") (names_from (k + 1) (left - 1)) v))) eu
        ∙ ap (λ ds. join ones (sets (flags items) i ds)) (sym (step true b))

    pub names_absent : begins word w ≡ false → {without : ℕ} → without ≡ set_flag items i 0 → Named without (i + 1) comma (k + 1) (left - 1) w ≡ Named items i comma k left w
    names_absent b ew = flag_on 0 (omega arith) ew (names_in (comma_in comma) (names_from (k + 1) (left - 1)) w) ∙ ap (λ ds. join ones (sets (flags items) i ds)) (sym (step false b))

-- n items being passed
module _ (items i comma k left n : ℕ) (h : n < left) (few : i + left ≤ 8) (w : List ℕ) (low : items < 256) where
  ahead : left - n ≡ 0 → ⊥
  ahead e = omega arith

  pub there_next : begins (comma_in comma ++ (named_on (k + n)).name) w ≡ true → {u : List ℕ} → u ≡ drop (length (comma_in comma ++ (named_on (k + n)).name)) w → {with : ℕ} → with ≡ set_flag items (i + n) 1
      → Named with (i + (n + 1)) 1 (k + (n + 1)) (left - (n + 1)) u ≡ Named items (i + n) comma (k + n) (left - n) w
  there_next b eu ew =
      let ei : i + (n + 1) ≡ i + n + 1 = omega arith in
      let ek : k + (n + 1) ≡ k + n + 1 = omega arith in
      let el : left - (n + 1) ≡ left - n - 1 = omega arith in
      rw (ei, ek, el) (names_there items (i + n) comma (k + n) (left - n) w low ahead (omega arith) b eu ew)

  pub absent_next : begins (comma_in comma ++ (named_on (k + n)).name) w ≡ false → {without : ℕ} → without ≡ set_flag items (i + n) 0
      → Named without (i + (n + 1)) comma (k + (n + 1)) (left - (n + 1)) w ≡ Named items (i + n) comma (k + n) (left - n) w
  absent_next b ew =
      let ei : i + (n + 1) ≡ i + n + 1 = omega arith in
      let ek : k + (n + 1) ≡ k + n + 1 = omega arith in
      let el : left - (n + 1) ≡ left - n - 1 = omega arith in
      rw (ei, ek, el) (names_absent items (i + n) comma (k + n) (left - n) w low ahead (omega arith) b ew)
