-- What a codec can write, said of the lines: a line, a chain and the subfields of an item hold numbers exactly if each line that is there fits and each other has zeros.
use Rattle.std.specs.Prelude.{◌≡◌, refl, Bool, true, false, ◌&&◌, List, [], ◌∷◌, ◌++◌, ℕ, suc, ◌+◌, ◌-◌, ◌*◌, ◌^◌, ◌≤◌, ◌<◌, T, eqb, ltb, ℤ, pos, negsuc, length, take, drop, replicate}
use Rattle.std.proofs.Common.{sym, ap, ap₂, ◌∙◌, subst, arith, le_of_eq, lt-ltb, eq-eqb, ltb-false, ltb→lt, lt→ltb, eqb→eq, length-append, take-append-drop, drop_of_length-le, pow-add, pow_pos, take_all, take_at, drop_at}
use Rattle.std.proofs.Math.Arith.{digits_lt}
use Rattle.std.proofs.lemmas.List.{length-replicate, replicate-append-replicate}
use Rattle.codec.specs.Pick.{pick}
use Rattle.codec.specs.Radix.{total, join, digits, eights}
use Rattle.codec.specs.Codec.{Codec, opt, number}
use Rattle.codec.specs.Signed.{of_signed, in_signed}
use Rattle.codec.specs.Line.{Kind, plain, signed, limited, Piece, spare, num, Line, Held, in_num, of_num, fit_nums, widths, unnums, clear, count, cells, line, fills}
use Rattle.codec.specs.Item.{slots_of, zeros, nothing, beside, fx_of, chain, flagged, subfields, good_lines}
use Rattle.codec.proofs.Laws.Tests.{and_in, and_l, and_r}
use Rattle.codec.proofs.Laws.Radix.{join_lt}
use Rattle.codec.proofs.Laws.Codec.{number_okay}
use Rattle.codec.proofs.Laws.Line.{line_count}
use Rattle.codec.proofs.Laws.Item.{zeros_are, zeros_yes, beside_first, beside-second, opt-length}
use Rattle.scope.specs.Sheet.{parts_there, subfields_there}
use Rattle.guess.proofs.Laws.Groups.{line_ok, lines_ok, fit_length}

-- ---- a line

line_fits : (l : Line) (v : Held) → T ((line l).okay v) → T (line_ok true l v.1)
unfolding line line_ok
line_fits l v t = and_in (fit_nums l.pieces v.1) _ (search (and_l, and_r)) (search (and_l, and_r))

of_lt : (k : Kind) (w : ℕ) (z : ℤ) → T (in_num k w z) → of_num k w z < 2 ^ w
unfolding in_num of_num in_signed of_signed
of_lt plain w (pos n) h = ltb→lt n (2 ^ w) h
of_lt plain w (negsuc n) h = absurd h
of_lt signed w (pos n) h = omega (arith, ltb→lt (n + n) (2 ^ w) h)
of_lt signed w (negsuc n) h = omega (arith, ltb→lt (suc (n + n)) (2 ^ w) h)
of_lt (limited lo hi) w (pos n) h = omega (arith, ltb→lt (n + n) (2 ^ w) h)
of_lt (limited lo hi) w (negsuc n) h = omega (arith, ltb→lt (suc (n + n)) (2 ^ w) h)

digits-unnums : (ps : List Piece) (zs : List ℤ) → T (fit_nums ps zs) → T (digits (widths ps) (unnums ps zs))
unfolding fit_nums widths unnums digits
digits-unnums [] [] h = tt
digits-unnums [] (z ∷ zs) h = absurd h
digits-unnums (spare w ∷ ps) zs h = and_in (ltb 0 (2 ^ w)) _ (lt→ltb 0 (2 ^ w) (omega (arith, pow_pos w))) (digits-unnums ps zs h)
digits-unnums (num k w ∷ ps) [] h = absurd h
digits-unnums (num k w ∷ ps) (z ∷ zs) h =
    and_in (ltb (of_num k w z) (2 ^ w)) _ (lt→ltb _ _ (of_lt k w z (and_l (in_num k w z) _ h))) (digits-unnums ps zs (and_r (in_num k w z) _ h))

clear_unnums : (ps : List Piece) (zs : List ℤ) → T (clear ps (unnums ps zs))
unfolding unnums clear
clear_unnums [] zs = tt
clear_unnums (spare w ∷ ps) zs = clear_unnums ps zs
clear_unnums (num k w ∷ ps) [] = tt
clear_unnums (num k w ∷ ps) (z ∷ zs) = clear_unnums ps zs

line_made : (l : Line) → T (fills l) → (f : ℕ) → f < 2 ^ l.fx → (zs : List ℤ) → T (line_ok true l zs) → T ((line l).okay (f, zs))
unfolding line cells fills line_ok
line_made l h f b zs o =
    let ps : List Piece = l.pieces in
    let ws : List ℕ = widths ps in
    let ft : T (fit_nums ps zs) = and_l (fit_nums ps zs) _ o in
    let ds : T (digits ws (unnums ps zs)) = digits-unnums ps zs ft in
    let e : total (eights l.octets) ≡ total ws + l.fx = eqb→eq (total (eights l.octets)) (total ws + l.fx) h in
    let n : ℕ = join ws (unnums ps zs) * 2 ^ l.fx + f in
    let u : n < 2 ^ total (eights l.octets) = subst (λ m. n < 2 ^ m) (sym e) (subst (λ m. n < m) (sym (pow-add 2 (total ws) l.fx)) (digits_lt (join_lt ws (unnums ps zs) ds) b)) in
    and_in (fit_nums ps zs && ((((ltb f (2 ^ l.fx) && digits ws (unnums ps zs)) && (number l.octets).okay n)) && clear ps (unnums ps zs))) _
    (and_in (fit_nums ps zs) _ ft
    (and_in ((ltb f (2 ^ l.fx) && digits ws (unnums ps zs)) && (number l.octets).okay n) _
    (and_in (ltb f (2 ^ l.fx) && digits ws (unnums ps zs)) _ (and_in (ltb f (2 ^ l.fx)) _ (lt→ltb f (2 ^ l.fx) b) ds) (number_okay l.octets n u))
    (clear_unnums ps zs)))
    (and_r (fit_nums ps zs) _ o)

-- ---- lines behind each other

line_length : (b : Bool) (l : Line) (zs : List ℤ) → T (line_ok b l zs) → length zs ≡ count l.pieces
unfolding line_ok
line_length true l zs o = fit_length l.pieces zs (and_l (fit_nums l.pieces zs) _ o)
line_length false l zs o = ap length (zeros_are (count l.pieces) zs o) ∙ length-replicate (count l.pieces) (pos 0)

pub lines_length : (ts : List Bool) (ls : List Line) (zs : List ℤ) → T (lines_ok ts ls zs) → length zs ≡ slots_of ls
unfolding lines_ok slots_of
lines_length ts [] [] o = refl
lines_length ts [] (z ∷ zs) o = absurd o
lines_length [] (l ∷ ls) zs o = absurd o
lines_length (b ∷ ts) (l ∷ ls) zs o =
    let m : ℕ = count l.pieces in
    ap length (sym (take-append-drop m zs)) ∙ length-append (take m zs) (drop m zs)
    ∙ ap₂ ◌+◌ (line_length b l (take m zs) (and_l (line_ok b l (take m zs)) _ o)) (lines_length ts ls (drop m zs) (and_r (line_ok b l (take m zs)) _ o))

-- one line, and nothing behind it
pub one_line : (b : Bool) (l : Line) (zs : List ℤ) → T (line_ok b l zs) → T (lines_ok (b ∷ []) (l ∷ []) zs)
unfolding lines_ok
one_line b l zs o =
    let e : length zs ≡ count l.pieces = line_length b l zs o in
    and_in (line_ok b l (take (count l.pieces) zs)) _
    (subst (λ x. T (line_ok b l x)) (sym (take_all (count l.pieces) zs (le_of_eq e))) o)
    (subst (λ x. T (lines_ok [] [] x)) (sym (drop_of_length-le zs {i = count l.pieces} (le_of_eq e))) tt)

line_one : (b : Bool) (ts : List Bool) (l : Line) (zs : List ℤ) → T (lines_ok (b ∷ ts) (l ∷ []) zs) → T (line_ok b l zs)
unfolding lines_ok slots_of
line_one b ts l zs o =
    let e : length zs ≡ count l.pieces + 0 = lines_length (b ∷ ts) (l ∷ []) zs o in
    subst (λ x. T (line_ok b l x)) (take_all (count l.pieces) zs (omega arith)) (and_l (line_ok b l (take (count l.pieces) zs)) _ o)

-- none there
pub zeros_lines : (ls : List Line) → T (lines_ok (parts_there 0 ls) ls (replicate (slots_of ls) (pos 0)))
unfolding lines_ok parts_there slots_of line_ok
zeros_lines [] = tt
zeros_lines (l ∷ ls) =
    let m : ℕ = count l.pieces in
    let e : replicate (m + slots_of ls) (pos 0) ≡ replicate m (pos 0) ++ replicate (slots_of ls) (pos 0) = sym (replicate-append-replicate m (slots_of ls) (pos 0)) in
    and_in (line_ok false l (take m (replicate (m + slots_of ls) (pos 0)))) _
    (subst (λ x. T (zeros m x)) (sym (ap (take m) e ∙ take_at (replicate m (pos 0)) (replicate (slots_of ls) (pos 0)) m (length-replicate m (pos 0)))) (zeros_yes m))
    (subst (λ x. T (lines_ok (parts_there 0 ls) ls x)) (sym (ap (drop m) e ∙ drop_at (replicate m (pos 0)) (replicate (slots_of ls) (pos 0)) m (length-replicate m (pos 0)))) (zeros_lines ls))

pub lines_zeros : (ls : List Line) (zs : List ℤ) → T (lines_ok (parts_there 0 ls) ls zs) → zs ≡ replicate (slots_of ls) (pos 0)
unfolding lines_ok parts_there slots_of line_ok
lines_zeros [] [] o = refl
lines_zeros [] (z ∷ zs) o = absurd o
lines_zeros (l ∷ ls) zs o =
    let m : ℕ = count l.pieces in
    sym (take-append-drop m zs)
    ∙ ap₂ ◌++◌ (zeros_are m (take m zs) (and_l (line_ok false l (take m zs)) _ o)) (lines_zeros ls (drop m zs) (and_r (line_ok false l (take m zs)) _ o))
    ∙ replicate-append-replicate m (slots_of ls) (pos 0)

-- ---- a chain

fx_more : (n : ℕ) → eqb (fx_of n) 1 ≡ ltb 1 n
unfolding fx_of
fx_more n = go (ltb 1 n)
  where
    go : (b : Bool) → eqb (pick b 1 0) 1 ≡ b
    go true = refl
    go false = refl

parts_more : (n : ℕ) (l : Line) (ls : List Line) → 0 < n → parts_there n (l ∷ ls) ≡ true ∷ parts_there (n - 1) ls
unfolding parts_there
parts_more n l ls h = ap (◌∷ parts_there (n - 1) ls) (lt-ltb 0 n h)

pub parts_suc : (n : ℕ) (l : Line) (ls : List Line) → parts_there (suc n) (l ∷ ls) ≡ true ∷ parts_there n ls
parts_suc n l ls = let e : suc n - 1 ≡ n = omega arith in parts_more (suc n) l ls (omega arith) ∙ ap (λ m. true ∷ parts_there m ls) e

pub chain_lines : (p : Line) (qs : List Line) (n : ℕ) (zs : List ℤ) → T ((chain p qs).okay (n, zs)) → T (lines_ok (parts_there n (p ∷ qs)) (p ∷ qs) zs) × (1 ≤ n) × (n ≤ length (p ∷ qs))
unfolding chain parts_there lines_ok
chain_lines p [] n zs t =
    let e : n ≡ 1 = eqb→eq n 1 (and_l (eqb n 1) _ t) in
    (subst (λ m. T (lines_ok (parts_there m (p ∷ [])) (p ∷ []) zs)) (sym e) (one_line true p zs (line_fits p (0, zs) (and_l ((line p).okay (0, zs)) _ (and_r (eqb n 1) _ t)))), omega arith, omega arith)
chain_lines p (q ∷ qs) n zs t =
    let k : ℕ = slots_of (q ∷ qs) in
    let m : ℕ = count p.pieces in
    let h : 0 < n = ltb→lt 0 n (and_l (ltb 0 n) _ t) in
    let rest : Held → Codec Held = λ v. opt (nothing k) (eqb v.0 1) (chain q qs) in
    let a : T ((line p).okay (fx_of n, take m zs)) = beside_first m (line p) rest (line_count p) ((fx_of n, n - 1), zs) (and_r (ltb 0 n) _ t) in
    let b : T ((rest (fx_of n, take m zs)).okay (n - 1, drop m zs)) = beside-second m (line p) rest (line_count p) ((fx_of n, n - 1), zs) (and_r (ltb 0 n) _ t) in
    let g = go (ltb 1 n) (subst (λ x. T ((opt (nothing k) x (chain q qs)).okay (n - 1, drop m zs))) (fx_more n) b) (chain_lines q qs (n - 1) (drop m zs)) in
    (subst (λ x. T (lines_ok x (p ∷ q ∷ qs) zs)) (sym (parts_more n p (q ∷ qs) h)) (and_in (line_ok true p (take m zs)) _ (line_fits p (fx_of n, take m zs) a) g.0), omega arith, omega (arith, g.1))
  where
    go : (b : Bool) → T ((opt (nothing (slots_of (q ∷ qs))) b (chain q qs)).okay (n - 1, drop (count p.pieces) zs))
        → (T ((chain q qs).okay (n - 1, drop (count p.pieces) zs)) → T (lines_ok (parts_there (n - 1) (q ∷ qs)) (q ∷ qs) (drop (count p.pieces) zs)) × (1 ≤ n - 1) × (n - 1 ≤ length (q ∷ qs)))
        → T (lines_ok (parts_there (n - 1) (q ∷ qs)) (q ∷ qs) (drop (count p.pieces) zs)) × (n - 1 ≤ length (q ∷ qs))
    go true t ih = let r = ih t in (r.0, r.2)
    go false t ih =
        let e : n - 1 ≡ 0 = eqb→eq (n - 1) 0 (and_l (eqb (n - 1) 0) _ t) in
        let z : drop (count p.pieces) zs ≡ replicate (slots_of (q ∷ qs)) (pos 0) = zeros_are (slots_of (q ∷ qs)) _ (and_r (eqb (n - 1) 0) _ t) in
        (subst (λ j. T (lines_ok (parts_there j (q ∷ qs)) (q ∷ qs) (drop (count p.pieces) zs))) (sym e) (subst (λ x. T (lines_ok (parts_there 0 (q ∷ qs)) (q ∷ qs) x)) (sym z) (zeros_lines (q ∷ qs))), omega arith)

fx_under : (l : Line) (n : ℕ) → l.fx ≡ 1 → fx_of n < 2 ^ l.fx
unfolding fx_of
fx_under l n e = subst (λ m. fx_of n < 2 ^ m) (sym e) (go (ltb 1 n))
  where
    go : (b : Bool) → pick b 1 0 < 2
    go true = omega arith
    go false = omega arith

pub lines_chain : (p : Line) (qs : List Line) → T (good_lines 1 (p ∷ qs)) → (n : ℕ) (zs : List ℤ) → 1 ≤ n → n ≤ length (p ∷ qs) → T (lines_ok (parts_there n (p ∷ qs)) (p ∷ qs) zs) → T ((chain p qs).okay (n, zs))
unfolding chain good_lines beside lines_ok
lines_chain p [] g n zs a b o =
    let e : n ≡ 1 = omega arith in
    let fx : p.fx ≡ 1 = eqb→eq p.fx 1 (and_l (eqb p.fx 1) _ g) in
    and_in (eqb n 1) _ (subst T (sym (eq-eqb n 1 e)) tt)
    (and_in ((line p).okay (0, zs)) _
    (line_made p (and_l (fills p) _ (and_r (eqb p.fx 1) _ g)) 0 (subst (λ m. 0 < 2 ^ m) (sym fx) (omega arith)) zs (line_one true (parts_there (n - 1) []) p zs (subst (λ x. T (lines_ok x (p ∷ []) zs)) (parts_more n p [] (omega arith)) o))) tt)
lines_chain p (q ∷ qs) g n zs a b o =
    let m : ℕ = count p.pieces in
    let k : ℕ = slots_of (q ∷ qs) in
    let fx : p.fx ≡ 1 = eqb→eq p.fx 1 (and_l (eqb p.fx 1) _ g) in
    let u : T (lines_ok (true ∷ parts_there (n - 1) (q ∷ qs)) (p ∷ q ∷ qs) zs) = subst (λ x. T (lines_ok x (p ∷ q ∷ qs) zs)) (parts_more n p (q ∷ qs) (omega arith)) o in
    let ow : T (lines_ok (parts_there (n - 1) (q ∷ qs)) (q ∷ qs) (drop m zs)) = and_r (line_ok true p (take m zs)) _ u in
    and_in (ltb 0 n) _ (lt→ltb 0 n (omega arith))
    (and_in ((line p).okay (fx_of n, take m zs)) _
    (line_made p (and_l (fills p) _ (and_r (eqb p.fx 1) _ g)) (fx_of n) (fx_under p n fx) (take m zs) (and_l (line_ok true p (take m zs)) _ u))
    (subst (λ x. T ((opt (nothing k) x (chain q qs)).okay (n - 1, drop m zs))) (sym (fx_more n))
    (go (ltb 1 n) refl ow (λ c. lines_chain q qs (and_r (fills p) _ (and_r (eqb p.fx 1) _ g)) (n - 1) (drop m zs) c (omega arith) ow))))
  where
    go : (x : Bool) → ltb 1 n ≡ x → T (lines_ok (parts_there (n - 1) (q ∷ qs)) (q ∷ qs) (drop (count p.pieces) zs)) → (1 ≤ n - 1 → T ((chain q qs).okay (n - 1, drop (count p.pieces) zs)))
        → T ((opt (nothing (slots_of (q ∷ qs))) x (chain q qs)).okay (n - 1, drop (count p.pieces) zs))
    go true e ow ih = ih (omega (arith, ltb→lt 1 n (subst T (sym e) tt)))
    go false e ow ih =
        let z : n - 1 ≡ 0 = omega (arith, ltb-false 1 n e) in
        and_in (eqb (n - 1) 0) _ (subst T (sym (eq-eqb (n - 1) 0 z)) tt)
        (subst (λ x. T (zeros (slots_of (q ∷ qs)) x)) (sym (lines_zeros (q ∷ qs) _ (subst (λ j. T (lines_ok (parts_there j (q ∷ qs)) (q ∷ qs) (drop (count p.pieces) zs))) z ow))) (zeros_yes (slots_of (q ∷ qs))))

-- ---- subfields

pub subfields_lines : (bs : List ℤ) (ss : List Line) (zs : List ℤ) → T ((subfields bs ss).okay (0, zs)) → T (lines_ok (subfields_there bs ss) ss zs)
unfolding subfields subfields_there line_ok lines_ok
subfields_lines bs [] zs t = subst (λ x. T (lines_ok [] [] x)) (sym (zeros_are 0 zs t)) tt
subfields_lines bs (s ∷ ss) zs t =
    let m : ℕ = count s.pieces in
    let c : Codec Held = opt (nothing m) (flagged bs s) (line s) in
    let many : (v : Held) → T (c.okay v) → length v.1 ≡ m = opt-length m (flagged bs s) (line s) (line_count s) in
    let a : T (c.okay (0, take m zs)) = beside_first m c (λ v. subfields bs ss) many ((0, 0), zs) t in
    let b : T ((subfields bs ss).okay (0, drop m zs)) = beside-second m c (λ v. subfields bs ss) many ((0, 0), zs) t in
    and_in (line_ok (flagged bs s) s (take m zs)) _ (go (flagged bs s) a) (subfields_lines bs ss (drop m zs) b)
  where
    go : (x : Bool) → T ((opt (nothing (count s.pieces)) x (line s)).okay (0, take (count s.pieces) zs)) → T (line_ok x s (take (count s.pieces) zs))
    go true t = line_fits s (0, take (count s.pieces) zs) t
    go false t = t

pub lines_subfields : (bs : List ℤ) (ss : List Line) → T (good_lines 0 ss) → (zs : List ℤ) → T (lines_ok (subfields_there bs ss) ss zs) → T ((subfields bs ss).okay (0, zs))
unfolding subfields subfields_there good_lines beside lines_ok line_ok zeros
lines_subfields bs [] g [] o = tt
lines_subfields bs [] g (z ∷ zs) o = absurd o
lines_subfields bs (s ∷ ss) g zs o =
    let m : ℕ = count s.pieces in
    and_in ((opt (nothing m) (flagged bs s) (line s)).okay (0, take m zs)) _ (go (flagged bs s) (and_l (line_ok (flagged bs s) s (take m zs)) _ o))
    (lines_subfields bs ss (and_r (fills s) _ (and_r (eqb s.fx 0) _ g)) (drop m zs) (and_r (line_ok (flagged bs s) s (take m zs)) _ o))
  where
    go : (x : Bool) → T (line_ok x s (take (count s.pieces) zs)) → T ((opt (nothing (count s.pieces)) x (line s)).okay (0, take (count s.pieces) zs))
    go true o = line_made s (and_l (fills s) _ (and_r (eqb s.fx 0) _ g)) 0 (subst (λ m. 0 < 2 ^ m) (sym (eqb→eq s.fx 0 (and_l (eqb s.fx 0) _ g))) (omega arith)) (take (count s.pieces) zs) o
    go false o = o

-- ---- an item without a chain

pub single_lines : (l : Line) (v : Held) → l.fx ≡ 0 → T ((line l).okay v) → T (lines_ok (true ∷ []) (l ∷ []) v.1) × (v.0 ≡ 0)
unfolding line cells
single_lines l v e t =
    let f : v.0 < 2 ^ l.fx = ltb→lt v.0 (2 ^ l.fx) (search (and_l, and_r)) in
    let g : v.0 < 2 ^ 0 = subst (λ m. v.0 < 2 ^ m) e f in
    (one_line true l v.1 (line_fits l v t), omega arith)

pub lines_single : (l : Line) → T (good_lines 0 (l ∷ [])) → (zs : List ℤ) → T (lines_ok (true ∷ []) (l ∷ []) zs) → T ((line l).okay (0, zs))
unfolding good_lines
lines_single l g zs o =
    line_made l (and_l (fills l) _ (and_r (eqb l.fx 0) _ g)) 0 (subst (λ m. 0 < 2 ^ m) (sym (eqb→eq l.fx 0 (and_l (eqb l.fx 0) _ g))) (omega arith)) zs (line_one true [] l zs o)
