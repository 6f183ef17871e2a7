-- A line keeps the round trips, and what it holds: FX within its bits, a number for each piece that is not spare.
use Rattle.std.specs.Prelude.{◌≡◌, Bool, true, false, ◌&&◌, leb, eqb, ℤ, pos, negsuc, length, take}
use Rattle.std.proofs.Math.Path.{refl}
use Rattle.std.proofs.Common.{sym, ap, ap₂, ◌∙◌, subst, mod-lt, lt→ltb, le-leb, leb-true, leb-false, pow_pos}
use mathlib.Core.List.{List, [], ◌∷◌}
use Prim.Native.Nat.{ℕ, suc, ◌+◌, ◌*◌, ◌^◌, ◌/◌, ◌%◌, ◌≤◌, ◌<◌}
use Rattle.std.proofs.Math.Dec.{T, ltb, ltb→lt, eqb→eq}
use Rattle.std.proofs.lemmas.Bool.{lt-leb}
use Rattle.std.proofs.Math.Pow.{split, high, low, shr_lt}
use Rattle.codec.specs.Radix.{total, cut, join, digits, eights}
use Rattle.codec.specs.Codec.{Res, got, bad, Lawful, number}
use Rattle.codec.specs.Line.{Kind, plain, signed, limited, Piece, spare, num, Line, to_num, of_num, in_num, widths, count, clear, nums, unnums, fit_nums, in_limits, Held, cells, line, fills}
use Rattle.codec.proofs.Laws.Tests.{and_in, and_l, and_r}
use Rattle.codec.proofs.Laws.Signed.{to_of, of_to, in_to}
use Rattle.codec.proofs.Laws.Radix.{join-cut, cut-join, cut-digits}
use Rattle.codec.proofs.Laws.Codec.{lawful_via, lawful_number, number_under, lawful_guard}

-- ---- one number

num_to_of : (k : Kind) (w : ℕ) (z : ℤ) → T (in_num k w z) → to_num k w (of_num k w z) ≡ z
unfolding to_num of_num in_num
num_to_of plain w (pos n) h = refl
num_to_of plain w (negsuc n) h = absurd h
num_to_of signed w z h = to_of (2 ^ w) z h
num_to_of (limited lo hi) w z h = to_of (2 ^ w) z h

num_of_to : (k : Kind) (w d : ℕ) → d < 2 ^ w → of_num k w (to_num k w d) ≡ d
unfolding to_num of_num
num_of_to plain w d h = refl
num_of_to signed w d h = of_to (2 ^ w) d h
num_of_to (limited lo hi) w d h = of_to (2 ^ w) d h

num_in_to : (k : Kind) (w d : ℕ) → d < 2 ^ w → T (in_num k w (to_num k w d))
unfolding to_num in_num
num_in_to plain w d h = lt→ltb d (2 ^ w) h
num_in_to signed w d h = in_to (2 ^ w) d h
num_in_to (limited lo hi) w d h = in_to (2 ^ w) d h

-- ---- the numbers of the pieces

unnums-nums : (ps : List Piece) (ds : List ℕ) → T (digits (widths ps) ds) → T (clear ps ds) → unnums ps (nums ps ds) ≡ ds
unfolding digits widths clear nums unnums
unnums-nums [] [] h c = refl
unnums-nums [] (d ∷ ds) h c = absurd h
unnums-nums (spare w ∷ ps) [] h c = absurd h
unnums-nums (spare w ∷ ps) (d ∷ ds) h c =
    ap₂ ◌∷◌ (sym (eqb→eq d 0 (and_l (eqb d 0) _ c))) (unnums-nums ps ds (and_r (ltb d (2 ^ w)) _ h) (and_r (eqb d 0) _ c))
unnums-nums (num k w ∷ ps) [] h c = absurd h
unnums-nums (num k w ∷ ps) (d ∷ ds) h c =
    ap₂ ◌∷◌ (num_of_to k w d (ltb→lt d (2 ^ w) (and_l (ltb d (2 ^ w)) _ h))) (unnums-nums ps ds (and_r (ltb d (2 ^ w)) _ h) c)

fit_nums_lem : (ps : List Piece) (ds : List ℕ) → T (digits (widths ps) ds) → T (fit_nums ps (nums ps ds))
unfolding digits widths nums fit_nums
fit_nums_lem [] [] h = tt
fit_nums_lem [] (d ∷ ds) h = absurd h
fit_nums_lem (spare w ∷ ps) [] h = absurd h
fit_nums_lem (spare w ∷ ps) (d ∷ ds) h = fit_nums_lem ps ds (and_r (ltb d (2 ^ w)) _ h)
fit_nums_lem (num k w ∷ ps) [] h = absurd h
fit_nums_lem (num k w ∷ ps) (d ∷ ds) h =
    and_in (in_num k w (to_num k w d)) _ (num_in_to k w d (ltb→lt d (2 ^ w) (and_l (ltb d (2 ^ w)) _ h)))
    (fit_nums_lem ps ds (and_r (ltb d (2 ^ w)) _ h))

nums-unnums : (ps : List Piece) (zs : List ℤ) → T (fit_nums ps zs) → nums ps (unnums ps zs) ≡ zs
unfolding fit_nums nums unnums
nums-unnums [] [] h = refl
nums-unnums [] (z ∷ zs) h = absurd h
nums-unnums (spare w ∷ ps) zs h = nums-unnums ps zs h
nums-unnums (num k w ∷ ps) [] h = absurd h
nums-unnums (num k w ∷ ps) (z ∷ zs) h =
    ap₂ ◌∷◌ (num_to_of k w z (and_l (in_num k w z) _ h)) (nums-unnums ps zs (and_r (in_num k w z) _ h))

fit_count : (ps : List Piece) (zs : List ℤ) → T (fit_nums ps zs) → length zs ≡ count ps
unfolding fit_nums count
fit_count [] [] h = refl
fit_count [] (z ∷ zs) h = absurd h
fit_count (spare w ∷ ps) zs h = fit_count ps zs h
fit_count (num k w ∷ ps) [] h = absurd h
fit_count (num k w ∷ ps) (z ∷ zs) h = ap suc (fit_count ps zs (and_r (in_num k w z) _ h))

-- ---- a line

module _ (l : Line) (h : T (fills l)) where
  lawful_cells : Lawful (cells l)
  unfolding cells fills
  lawful_cells =
      let ws : List ℕ = widths l.pieces in
      let fx : ℕ = l.fx in
      let e : total (eights l.octets) ≡ total ws + fx = eqb→eq (total (eights l.octets)) (total ws + fx) h in
      let under : (n : ℕ) → T ((number l.octets).okay n) → n / 2 ^ fx < 2 ^ total ws
      = λ n t. shr_lt (total ws) fx (subst (λ m. n < 2 ^ m) e (number_under l.octets n t)) in
      lawful_via (λ n. (n % 2 ^ fx, cut ws (n / 2 ^ fx))) (λ p. join ws p.1 * 2 ^ fx + p.0) (λ p. ltb p.0 (2 ^ fx) && digits ws p.1) (lawful_number l.octets)
      (λ n t. (rw (join-cut ws (n / 2 ^ fx) (under n t)) (split n fx), and_in (ltb (n % 2 ^ fx) (2 ^ fx)) _ (lt→ltb (n % 2 ^ fx) (2 ^ fx) (mod-lt n (pow_pos fx))) (cut-digits ws (n / 2 ^ fx) (under n t))))
      (λ p t _.
      let b : p.0 < 2 ^ fx = ltb→lt p.0 (2 ^ fx) (and_l (ltb p.0 (2 ^ fx)) _ t) in
      λ i. (low (join ws p.1) fx b i, (ap (cut ws) (high (join ws p.1) fx b) ∙ cut-join ws p.1 (and_r (ltb p.0 (2 ^ fx)) _ t)) i))

  pub lawful_line : Lawful (line l)
  unfolding line cells
  lawful_line =
      let ps : List Piece = l.pieces in
      lawful_guard 8 (λ v. in_limits ps v.1)
      (lawful_via (λ p. (p.0, nums ps p.1)) (λ q. (q.0, unnums ps q.1)) (λ q. fit_nums ps q.1)
      (lawful_guard 6 (λ p. clear ps p.1) lawful_cells)
      (λ p t.
      let ds : T (digits (widths ps) p.1) = and_r (ltb p.0 (2 ^ l.fx)) _ (and_l (ltb p.0 (2 ^ l.fx) && digits (widths ps) p.1) _ (and_l ((cells l).okay p) (clear ps p.1) t)) in
      ((λ i. (p.0, unnums-nums ps p.1 ds (and_r ((cells l).okay p) (clear ps p.1) t) i)), fit_nums_lem ps p.1 ds))
      (λ q t _. λ i. (q.0, nums-unnums ps q.1 t i)))

-- the bits below the pieces, and the numbers of the pieces
module _ (l : Line) (v : Held) (t : T ((line l).okay v)) where
  pub line_count : length v.1 ≡ count l.pieces
  unfolding line
  line_count = fit_count l.pieces v.1 (search (and_l, and_r))

  pub line_fx : v.0 < 2 ^ l.fx
  unfolding line cells
  line_fx = ltb→lt v.0 (2 ^ l.fx) (search (and_l, and_r))

-- ---- what reading a line answers, by the tests in their order: 5, 6, 8

module _ (l : Line) (xs : List ℕ) where
  pub line_short : length xs < l.octets → (line l).read xs ≡ bad 5 0
  unfolding line cells number
  line_short h = rw (lt-leb l.octets (length xs) h) refl

  -- the octets as one number
  abbrev pub whole_of : ℕ
  whole_of = join (eights l.octets) (take l.octets xs)

  abbrev pub digits_of : List ℕ
  digits_of = cut (widths l.pieces) (whole_of / 2 ^ l.fx)

  module _ (h : l.octets ≤ length xs) where
    pub line_spare : clear l.pieces digits_of ≡ false → (line l).read xs ≡ bad 6 0
    unfolding line cells number
    line_spare c = rw (le-leb l.octets (length xs) h, c) refl

    module _ (c : clear l.pieces digits_of ≡ true) where
      pub line_limit : in_limits l.pieces (nums l.pieces digits_of) ≡ false → (line l).read xs ≡ bad 8 0
      unfolding line cells number
      line_limit z = rw (le-leb l.octets (length xs) h, c, z) refl

      pub line_there : in_limits l.pieces (nums l.pieces digits_of) ≡ true → (line l).read xs ≡ got (whole_of % 2 ^ l.fx, nums l.pieces digits_of) l.octets
      unfolding line cells number
      line_there z = rw (le-leb l.octets (length xs) h, c, z) refl

-- so what holds of every refusal at the first octet, and of the numbers of the octets, holds of every reading of a line
pub line_every : (l : Line) (xs : List ℕ) (P : Res Held → Type 0) → ((e : ℕ) → P (bad e 0)) → P (got (whole_of l xs % 2 ^ l.fx, nums l.pieces (digits_of l xs)) l.octets) → P ((line l).read xs)
line_every l xs P falls finds = short (leb l.octets (length xs)) refl
  where
    limits : l.octets ≤ length xs → clear l.pieces (digits_of l xs) ≡ true → (b : Bool) → in_limits l.pieces (nums l.pieces (digits_of l xs)) ≡ b → P ((line l).read xs)
    limits h c true e = subst P (sym (line_there l xs h c e)) finds
    limits h c false e = subst P (sym (line_limit l xs h c e)) (falls 8)

    spares : l.octets ≤ length xs → (b : Bool) → clear l.pieces (digits_of l xs) ≡ b → P ((line l).read xs)
    spares h true e = limits h e (in_limits l.pieces (nums l.pieces (digits_of l xs))) refl
    spares h false e = subst P (sym (line_spare l xs h e)) (falls 6)

    short : (b : Bool) → leb l.octets (length xs) ≡ b → P ((line l).read xs)
    short true e = spares (leb-true l.octets (length xs) e) (clear l.pieces (digits_of l xs)) refl
    short false e = subst P (sym (line_short l xs (leb-false l.octets (length xs) e))) (falls 5)
