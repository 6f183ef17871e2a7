-- The items in a row, the flags being known, and the line `items` that tells the flags.
use Rattle.std.specs.Prelude.{◌≡◌, Bool, ◌&&◌, eqb, pos, length, drop}
use Rattle.std.proofs.Math.Path.{refl}
use Rattle.std.proofs.Common.{sym, ap, ap₂, ◌∙◌, subst, arith, drop_at}
use Rattle.std.proofs.Math.Bool.{true, false}
use mathlib.Core.List.{List, [], ◌∷◌, ◌++◌}
use Prim.Native.Nat.{ℕ, zero, suc, ◌+◌, ◌-◌, ◌≤◌, ◌<◌}
use Rattle.std.proofs.Math.Dec.{T}
use Rattle.std.proofs.Math.ListN.{replicate}
use Rattle.codec.specs.Pick.{pick}
use Rattle.codec.specs.Radix.{join, digits, ones, total}
use Rattle.codec.specs.Codec.{opt}
use Rattle.codec.specs.Line.{Held}
use Rattle.codec.specs.Item.{Item, slots, nothing, item}
use Rattle.codec.specs.Field.{is_nil, is_cons, uncons, first_flag, next_flags, place, row, flags, all_zero, no_spare}
use Rattle.codec.proofs.Laws.Tests.{and_in, and_l, and_r}
use Rattle.codec.proofs.Laws.Radix.{cut-join, join_lt}
use Rattle.codec.proofs.Laws.Item.{only-nothing, zeros_yes}
use Rattle.layout.specs.Laws.Record.{zero_all}
use Rattle.papers.specs.Names.{text, Named}
use Rattle.scope.specs.Sheet.{item_text, row_text}
use Rattle.guess.proofs.Laws.Fits.{whole, whole_append, whole_pick, Fits, fits_nil, fits_split, fits_join}
use Rattle.guess.specs.Guess.{begins, item_in, item_left, row_in, names_in, indicator_of}
use Rattle.guess.proofs.Laws.Groups.{Begins, starts_any, starts_right}
use Rattle.guess.proofs.Laws.Items.{item_heads, item_right, keep_item, item_begin, item_whole, item_okay}

-- how the rows of items may begin, and what is asked of them with hs behind
unfoldable pub row_heads : List Item → List Named → List (List ℕ) → List (List ℕ)
unfolding item_heads
row_heads [] nms hs = hs
row_heads (it ∷ its) [] hs = hs
row_heads (it ∷ its) (nm ∷ nms) hs = item_heads it nm ++ row_heads its nms hs

unfoldable pub row_right : List Item → List Named → List (List ℕ) → Bool
unfolding item_right row_heads
row_right [] [] hs = true
row_right [] (nm ∷ nms) hs = false
row_right (it ∷ its) [] hs = false
row_right (it ∷ its) (nm ∷ nms) hs = item_right it nm (row_heads its nms hs) && row_right its nms hs

module _ (hs : List (List ℕ)) where
  pub row_whole : (ds : List ℕ) (its : List Item) (nms : List Named) → T (row_right its nms hs) → (vs : List Held) → T (whole (row_text ds its nms vs))
  unfolding row_text row_right whole
  row_whole ds [] [] q vs = tt
  row_whole ds [] (nm ∷ nms) q vs = absurd q
  row_whole ds (it ∷ its) [] q vs = absurd q
  row_whole ds (it ∷ its) (nm ∷ nms) q vs =
      whole_append (pick (eqb (first_flag ds) 1) (item_text it nm (uncons vs).0) []) _
      (whole_pick (eqb (first_flag ds) 1) _ (item_whole it nm (row_heads its nms hs) (and_l (item_right it nm (row_heads its nms hs)) _ q) (uncons vs).0))
      (row_whole (next_flags ds) its nms (and_r (item_right it nm (row_heads its nms hs)) _ q) (uncons vs).1)

  row_begin : (ds : List ℕ) (its : List Item) (nms : List Named) → T (row_right its nms hs) → (vs : List Held) → T ((row ds its).okay vs) → (K : ℕ → List ℕ → Type 0) → Begins hs K
      → Begins (row_heads its nms hs) (λ m x. Fits m (row_text ds its nms vs) x K)
  unfolding row_text row_right row_heads row Fits
  row_begin ds [] [] q vs o K a m x h = a m x h
  row_begin ds [] (nm ∷ nms) q vs o K a m x h = absurd q
  row_begin ds (it ∷ its) [] q vs o K a m x h = absurd q
  row_begin ds (it ∷ its) (nm ∷ nms) q vs o K a m x h =
      go (eqb (first_flag ds) 1) (and_l ((place (first_flag ds) it).okay (uncons vs).0) _ (and_r (is_cons vs) _ o)) h
      (row_begin (next_flags ds) its nms (and_r (item_right it nm (row_heads its nms hs)) _ q) (uncons vs).1 (and_r ((place (first_flag ds) it).okay (uncons vs).0) _ (and_r (is_cons vs) _ o)) K a)
    where
      behind : List ℕ
      behind = row_text (next_flags ds) its nms (uncons vs).1

      qi : T (item_right it nm (row_heads its nms hs))
      qi = and_l (item_right it nm (row_heads its nms hs)) _ q

      go : (b : Bool) → T ((opt (nothing (slots it)) b (item it)).okay (uncons vs).0) → Fits (suc m) (pick b (item_text it nm (uncons vs).0) [] ++ behind) x K
          → Begins (row_heads its nms hs) (λ j y. Fits j behind y K) → T (starts_any (item_heads it nm ++ row_heads its nms hs) x)
      go true o h ih =
          item_begin it nm (row_heads its nms hs) qi (uncons vs).0 o (λ j y. Fits j behind y K) ih m x
          (fits_split (suc m) (item_text it nm (uncons vs).0) behind x K (item_whole it nm (row_heads its nms hs) qi (uncons vs).0) h)
      go false o h ih = starts_right (item_heads it nm) (row_heads its nms hs) x (ih m x h)

  pub keep_row : (ds : List ℕ) (its : List Item) (nms : List Named) → T (row_right its nms hs) → (vs : List Held) → T ((row ds its).okay vs) → (n : ℕ) (t : List ℕ) (K K' : ℕ → List ℕ → Type 0) → Begins hs K
      → Fits n (row_text ds its nms vs) t K → (row_in ds its nms t ≡ vs → (m : ℕ) (x : List ℕ) → K (suc m) x → K' (suc m) x) → Fits n (row_text ds its nms (row_in ds its nms t)) t K'
  unfolding row_text row_right row row_in uncons is_nil is_cons
  keep_row ds [] [] q [] o n t K K' a h c = fits_nil n t K K' h (λ m. c refl m t)
  keep_row ds [] [] q (v ∷ vs) o n t K K' a h c = absurd o
  keep_row ds [] (nm ∷ nms) q vs o n t K K' a h c = absurd q
  keep_row ds (it ∷ its) [] q vs o n t K K' a h c = absurd q
  keep_row ds (it ∷ its) (nm ∷ nms) q [] o n t K K' a h c = absurd o
  keep_row ds (it ∷ its) (nm ∷ nms) q (v ∷ vs) o n t K K' a h c =
      go (eqb (first_flag ds) 1) (and_l ((place (first_flag ds) it).okay v) _ o) h c
      (λ j y g k. keep_row (next_flags ds) its nms (and_r (item_right it nm (row_heads its nms hs)) _ q) vs (and_r ((place (first_flag ds) it).okay v) _ o) j y K K' a g k)
      (row_begin (next_flags ds) its nms (and_r (item_right it nm (row_heads its nms hs)) _ q) vs (and_r ((place (first_flag ds) it).okay v) _ o) K a)
    where
      behind : List Held → List ℕ
      behind ws = row_text (next_flags ds) its nms ws

      from : List ℕ → List Held
      from y = row_in (next_flags ds) its nms y

      qi : T (item_right it nm (row_heads its nms hs))
      qi = and_l (item_right it nm (row_heads its nms hs)) _ q

      go : (b : Bool) → T ((opt (nothing (slots it)) b (item it)).okay v) → Fits n (pick b (item_text it nm v) [] ++ behind vs) t K
          → (pick b (item_in it nm t) (0, replicate (slots it) (pos 0)) ∷ from (pick b (item_left it nm t) t) ≡ v ∷ vs → (m : ℕ) (x : List ℕ) → K (suc m) x → K' (suc m) x)
          → ((j : ℕ) (y : List ℕ) → Fits j (behind vs) y K → (from y ≡ vs → (m : ℕ) (x : List ℕ) → K (suc m) x → K' (suc m) x) → Fits j (behind (from y)) y K')
          → Begins (row_heads its nms hs) (λ j y. Fits j (behind vs) y K)
          → Fits n (pick b (item_text it nm (pick b (item_in it nm t) (0, replicate (slots it) (pos 0)))) [] ++ behind (from (pick b (item_left it nm t) t))) t K'
      go true o h c ih bg =
          fits_join n (item_text it nm (item_in it nm t)) (behind (from (item_left it nm t))) t K' (item_whole it nm (row_heads its nms hs) qi (item_in it nm t))
          (keep_item it nm (row_heads its nms hs) qi v o n t (λ j y. Fits j (behind vs) y K) (λ j y. Fits j (behind (from (item_left it nm t))) y K') bg
          (fits_split n (item_text it nm v) (behind vs) t K (item_whole it nm (row_heads its nms hs) qi v) h)
          (λ e m g. ih (suc m) (item_left it nm t) g (λ es. c (ap₂ ◌∷◌ e es))))
      go false o h c ih bg = ih n t h (λ es. c (ap₂ ◌∷◌ (sym ((only-nothing (slots it)).is v o)) es))

  -- the guess can be written, whatever the text
  pub row_made : (ds : List ℕ) (its : List Item) (nms : List Named) → T (row_right its nms hs) → (t : List ℕ) → T ((row ds its).okay (row_in ds its nms t))
  unfolding row_right row row_in uncons is_nil is_cons
  row_made ds [] [] q t = tt
  row_made ds [] (nm ∷ nms) q t = absurd q
  row_made ds (it ∷ its) [] q t = absurd q
  row_made ds (it ∷ its) (nm ∷ nms) q t =
      and_in ((place (first_flag ds) it).okay (pick (eqb (first_flag ds) 1) (item_in it nm t) (0, replicate (slots it) (pos 0)))) _ (go (eqb (first_flag ds) 1))
      (row_made (next_flags ds) its nms (and_r (item_right it nm (row_heads its nms hs)) _ q) _)
    where
      go : (b : Bool) → T ((opt (nothing (slots it)) b (item it)).okay (pick b (item_in it nm t) (0, replicate (slots it) (pos 0))))
      go true = item_okay it nm (row_heads its nms hs) (and_l (item_right it nm (row_heads its nms hs)) _ q) t
      go false = zeros_yes (slots it)

-- ---- the flags that the line `items` tells

bits-digits : (comma : List ℕ) (nms : List Named) (w : List ℕ) (k : ℕ) → T (digits (replicate (length nms + k) 1) (names_in comma nms w ++ replicate k 0))
unfolding names_in digits
bits-digits comma [] w k = let e : k ≡ 0 + k = omega arith in subst (λ j. T (digits (replicate j 1) (replicate k 0))) e (zero_digits k)
  where
    zero_digits : (k : ℕ) → T (digits (replicate k 1) (replicate k 0))
    zero_digits zero = tt
    zero_digits (suc k) = zero_digits k
bits-digits comma (nm ∷ nms) w k =
    let e : suc (length nms + k) ≡ suc (length nms) + k = omega arith in
    go (begins (comma ++ nm.name) w)
    (subst (λ j. T (digits (replicate j 1) (1 ∷ (names_in (text ",") nms (drop (length (comma ++ nm.name)) w) ++ replicate k 0)))) e (bits-digits (text ",") nms (drop (length (comma ++ nm.name)) w) k))
    (subst (λ j. T (digits (replicate j 1) (0 ∷ (names_in comma nms w ++ replicate k 0)))) e (bits-digits comma nms w k))
  where
    go : (b : Bool) → T (digits (replicate (suc (length nms) + k) 1) (1 ∷ (names_in (text ",") nms (drop (length (comma ++ nm.name)) w) ++ replicate k 0)))
        → T (digits (replicate (suc (length nms) + k) 1) (0 ∷ (names_in comma nms w ++ replicate k 0)))
        → T (digits (replicate (suc (length nms) + k) 1) (pick b (1 ∷ names_in (text ",") nms (drop (length (comma ++ nm.name)) w)) (0 ∷ names_in comma nms w) ++ replicate k 0))
    go true a b = a
    go false a b = b

pub names_length : (comma : List ℕ) (nms : List Named) (w : List ℕ) → length (names_in comma nms w) ≡ length nms
unfolding names_in
names_length comma [] w = refl
names_length comma (nm ∷ nms) w = go (begins (comma ++ nm.name) w) (names_length (text ",") nms (drop (length (comma ++ nm.name)) w)) (names_length comma nms w)
  where
    go : (b : Bool) → length (names_in (text ",") nms (drop (length (comma ++ nm.name)) w)) ≡ length nms → length (names_in comma nms w) ≡ length nms
        → length (pick b (1 ∷ names_in (text ",") nms (drop (length (comma ++ nm.name)) w)) (0 ∷ names_in comma nms w)) ≡ suc (length nms)
    go true a b = ap suc a
    go false a b = ap suc b

-- it is an octet, and its spare places are 0
pub indicator_in_lem : (its : List Item) (nms : List Named) → length its ≡ length nms → length nms ≤ 8 → (w : List ℕ) → (indicator_of nms w < 256) × T (no_spare its (indicator_of nms w))
unfolding indicator_of total
indicator_in_lem its nms e h w =
    let k : ℕ = 8 - length nms in
    let f : length nms + k ≡ 8 = omega arith in
    let ds : List ℕ = names_in [] nms w ++ replicate k 0 in
    let d : T (digits ones ds) = subst (λ j. T (digits (replicate j 1) ds)) f (bits-digits [] nms w k) in
    let c : flags (join ones ds) ≡ ds = cut-join ones ds d in
    (join_lt ones ds d, subst (λ x. T (all_zero (drop (length its) x))) (sym c) (subst (λ x. T (all_zero x)) (sym (drop_at (names_in [] nms w) (replicate k 0) (length its) (names_length [] nms w ∙ sym e))) (zero_all k)))
