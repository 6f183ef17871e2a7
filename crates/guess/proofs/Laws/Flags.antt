-- The flags of subfields: on no line of the sheet, and told by which subfields are there.
use Rattle.std.specs.Prelude.{◌≡◌, refl, Bool, true, false, ◌&&◌, List, [], ◌∷◌, ◌++◌, ℕ, zero, suc, ◌+◌, ◌-◌, ◌^◌, ◌≤◌, ◌<◌, T, eqb, ltb, ℤ, pos, negsuc, length, get_or, take, drop, replicate}
use Rattle.std.proofs.Common.{sym, ap, ap₂, ◌∙◌, subst, arith, ltb→lt, lt→ltb, eqb→eq, take-append-drop, length-append, drop-cons, length-take-le}
use Rattle.codec.specs.Line.{plain, signed, limited, Piece, spare, num, Line, in_num, limit, fit_nums, in_limits, count}
use Rattle.codec.specs.Item.{slots_of, is_one}
use Rattle.codec.proofs.Laws.Tests.{and_in, and_l, and_r}
use Rattle.scope.specs.Sheet.{parts_there, subfields_there}
use Rattle.guess.specs.Guess.{bit, bits}
use Rattle.guess.proofs.Laws.Groups.{line_ok, lines_ok, allowed, fit_length}
use Rattle.guess.proofs.Laws.Okay.{lines_zeros, zeros_lines, parts_suc}

-- ---- bits as numbers, and numbers as bits

unfoldable pub ones_of : List ℤ → List Bool
ones_of [] = []
ones_of (z ∷ zs) = is_one z ∷ ones_of zs

unfoldable pub all_bits : List ℤ → Bool
all_bits [] = true
all_bits (pos n ∷ zs) = ltb n 2 && all_bits zs
all_bits (negsuc n ∷ zs) = false

pub ones-bits : (bs : List Bool) → ones_of (bits bs) ≡ bs
unfolding ones_of bits bit is_one
ones-bits [] = refl
ones-bits (true ∷ bs) = ap (true ∷◌) (ones-bits bs)
ones-bits (false ∷ bs) = ap (false ∷◌) (ones-bits bs)

bit_one : (n : ℕ) → n < 2 → bit (is_one (pos n)) ≡ pos n
unfolding bit is_one
bit_one zero h = refl
bit_one (suc zero) h = refl
bit_one (suc (suc n)) h = absurd (omega arith)

pub bits-ones : (zs : List ℤ) → T (all_bits zs) → bits (ones_of zs) ≡ zs
unfolding all_bits ones_of bits
bits-ones [] a = refl
bits-ones (pos n ∷ zs) a = ap₂ ◌∷◌ (bit_one n (ltb→lt n 2 (and_l (ltb n 2) _ a))) (bits-ones zs (and_r (ltb n 2) _ a))
bits-ones (negsuc n ∷ zs) a = absurd a

bits-append : (xs ys : List ℤ) → T (all_bits xs) → T (all_bits ys) → T (all_bits (xs ++ ys))
unfolding all_bits
bits-append [] ys a b = b
bits-append (pos n ∷ xs) ys a b = and_in (ltb n 2) _ (and_l (ltb n 2) _ a) (bits-append xs ys (and_r (ltb n 2) _ a) b)
bits-append (negsuc n ∷ xs) ys a b = absurd a

pub length-bits : (bs : List Bool) → length (bits bs) ≡ length bs
unfolding bits
length-bits [] = refl
length-bits (b ∷ bs) = ap suc (length-bits bs)

length-ones : (zs : List ℤ) → length (ones_of zs) ≡ length zs
unfolding ones_of
length-ones [] = refl
length-ones (z ∷ zs) = ap suc (length-ones zs)

ones-append : (xs ys : List ℤ) → ones_of (xs ++ ys) ≡ ones_of xs ++ ones_of ys
unfolding ones_of
ones-append [] ys = refl
ones-append (x ∷ xs) ys = ap (is_one x ∷◌) (ones-append xs ys)

take-bits : (n : ℕ) (bs : List Bool) → take n (bits bs) ≡ bits (take n bs)
unfolding bits
take-bits zero bs = refl
take-bits (suc n) [] = refl
take-bits (suc n) (b ∷ bs) = ap (bit b ∷◌) (take-bits n bs)

drop_bits : (n : ℕ) (bs : List Bool) → drop n (bits bs) ≡ bits (drop n bs)
unfolding bits
drop_bits zero bs = refl
drop_bits (suc n) [] = refl
drop_bits (suc n) (b ∷ bs) = drop_bits n bs

-- ---- parts whose numbers are flags of one bit

unfoldable pub bit_pieces : List Piece → Bool
bit_pieces [] = true
bit_pieces (spare w ∷ ps) = bit_pieces ps
bit_pieces (num plain w ∷ ps) = eqb w 1 && bit_pieces ps
bit_pieces (num signed w ∷ ps) = false
bit_pieces (num (limited lo hi) w ∷ ps) = false

unfoldable pub bit_lines : List Line → Bool
unfolding bit_pieces
bit_lines [] = true
bit_lines (l ∷ ls) = bit_pieces l.pieces && bit_lines ls

fit_bits : (ps : List Piece) (zs : List ℤ) → T (bit_pieces ps) → T (fit_nums ps zs) → T (all_bits zs)
unfolding bit_pieces fit_nums all_bits in_num
fit_bits [] [] b f = tt
fit_bits [] (z ∷ zs) b f = absurd f
fit_bits (spare w ∷ ps) zs b f = fit_bits ps zs b f
fit_bits (num plain w ∷ ps) [] b f = absurd f
fit_bits (num plain w ∷ ps) (pos n ∷ zs) b f =
    let e : w ≡ 1 = eqb→eq w 1 (and_l (eqb w 1) _ b) in
    and_in (ltb n 2) _ (subst (λ m. T (ltb n (2 ^ m))) e (and_l (ltb n (2 ^ w)) _ f)) (fit_bits ps zs (and_r (eqb w 1) _ b) (and_r (ltb n (2 ^ w)) _ f))
fit_bits (num plain w ∷ ps) (negsuc n ∷ zs) b f = absurd f
fit_bits (num signed w ∷ ps) zs b f = absurd b
fit_bits (num (limited lo hi) w ∷ ps) zs b f = absurd b

bits_fit : (ps : List Piece) (bs : List Bool) → T (bit_pieces ps) → length bs ≡ count ps → T (fit_nums ps (bits bs)) × T (in_limits ps (bits bs))
unfolding bit_pieces fit_nums in_limits in_num limit bits bit count
bits_fit [] [] b e = (tt, tt)
bits_fit [] (x ∷ bs) b e = absurd (omega arith)
bits_fit (spare w ∷ ps) bs b e = bits_fit ps bs b e
bits_fit (num plain w ∷ ps) [] b e = absurd (omega arith)
bits_fit (num plain w ∷ ps) (x ∷ bs) b e =
    let r = bits_fit ps bs (and_r (eqb w 1) _ b) (omega arith) in
    let f : w ≡ 1 = eqb→eq w 1 (and_l (eqb w 1) _ b) in
    (and_in (in_num plain w (bit x)) _ (subst (λ m. T (in_num plain m (bit x))) (sym f) (go x)) r.0, r.1)
  where
    go : (x : Bool) → T (in_num plain 1 (bit x))
    go true = tt
    go false = tt
bits_fit (num signed w ∷ ps) bs b e = absurd b
bits_fit (num (limited lo hi) w ∷ ps) bs b e = absurd b

zeros_bits : (n : ℕ) → T (all_bits (replicate n (pos 0)))
unfolding all_bits
zeros_bits zero = tt
zeros_bits (suc n) = zeros_bits n

zeros_allowed : (m n : ℕ) → T (allowed m (ones_of (replicate n (pos 0))))
unfolding allowed ones_of is_one
zeros_allowed m zero = tt
zeros_allowed m (suc n) = zeros_allowed (m - 1) n

allowed-append : (xs ys : List Bool) (m : ℕ) → T (allowed m ys) → T (allowed (length xs + m) (xs ++ ys))
unfolding allowed
allowed-append [] ys m h = let e : m ≡ 0 + m = omega arith in subst (λ j. T (allowed j ys)) e h
allowed-append (true ∷ xs) ys m h =
    let e : length xs + m ≡ suc (length xs) + m - 1 = omega arith in
    and_in (ltb 0 (suc (length xs) + m)) _ (lt→ltb 0 (suc (length xs) + m) (omega arith)) (subst (λ j. T (allowed j (xs ++ ys))) e (allowed-append xs ys m h))
allowed-append (false ∷ xs) ys m h =
    let e : length xs + m ≡ suc (length xs) + m - 1 = omega arith in
    subst (λ j. T (allowed j (xs ++ ys))) e (allowed-append xs ys m h)

allowed-drop : (n : ℕ) (bs : List Bool) (m : ℕ) → T (allowed (n + m) bs) → T (allowed m (drop n bs))
unfolding allowed
allowed-drop zero bs m h = let e : 0 + m ≡ m = omega arith in subst (λ j. T (allowed j bs)) e h
allowed-drop (suc n) [] m h = tt
allowed-drop (suc n) (true ∷ bs) m h = let e : suc n + m - 1 ≡ n + m = omega arith in allowed-drop n bs m (subst (λ j. T (allowed j bs)) e (and_r (ltb 0 (suc n + m)) _ h))
allowed-drop (suc n) (false ∷ bs) m h = let e : suc n + m - 1 ≡ n + m = omega arith in allowed-drop n bs m (subst (λ j. T (allowed j bs)) e h)

none_allowed : (bs : List Bool) → T (allowed 0 bs) → bits bs ≡ replicate (length bs) (pos 0)
unfolding allowed bits bit
none_allowed [] h = refl
none_allowed (true ∷ bs) h = absurd h
none_allowed (false ∷ bs) h = ap (pos 0 ∷◌) (none_allowed bs h)

-- ---- what the parts of a chain hold, and what flags they can hold

pub part_flags : (ls : List Line) (n : ℕ) (zs : List ℤ) → T (bit_lines ls) → T (lines_ok (parts_there n ls) ls zs) → T (all_bits zs) × T (allowed (slots_of (take n ls)) (ones_of zs))
unfolding bit_lines lines_ok line_ok slots_of all_bits allowed ones_of
part_flags [] n [] b o = (tt, tt)
part_flags [] n (z ∷ zs) b o = absurd o
part_flags (l ∷ ls) zero zs b o =
    let e : zs ≡ replicate (slots_of (l ∷ ls)) (pos 0) = lines_zeros (l ∷ ls) zs o in
    (subst (λ x. T (all_bits x)) (sym e) (zeros_bits (slots_of (l ∷ ls))), subst (λ x. T (allowed 0 (ones_of x))) (sym e) (zeros_allowed 0 (slots_of (l ∷ ls))))
part_flags (l ∷ ls) (suc n) zs b o =
    let c : ℕ = count l.pieces in
    let u : T (lines_ok (true ∷ parts_there n ls) (l ∷ ls) zs) = subst (λ x. T (lines_ok x (l ∷ ls) zs)) (parts_suc n l ls) o in
    let f : T (fit_nums l.pieces (take c zs)) = and_l (fit_nums l.pieces (take c zs)) _ (and_l (line_ok true l (take c zs)) _ u) in
    let r = part_flags ls n (drop c zs) (and_r (bit_pieces l.pieces) _ b) (and_r (line_ok true l (take c zs)) _ u) in
    let k : length (ones_of (take c zs)) ≡ c = length-ones (take c zs) ∙ fit_length l.pieces (take c zs) f in (
      subst (λ x. T (all_bits x)) (take-append-drop c zs) (bits-append (take c zs) (drop c zs) (fit_bits l.pieces (take c zs) (and_l (bit_pieces l.pieces) _ b) f) r.0),
      subst (λ x. T (allowed (c + slots_of (take n ls)) x)) (sym (ones-append (take c zs) (drop c zs)) ∙ ap ones_of (take-append-drop c zs))
          (subst (λ j. T (allowed (j + slots_of (take n ls)) (ones_of (take c zs) ++ ones_of (drop c zs)))) k (allowed-append (ones_of (take c zs)) (ones_of (drop c zs)) (slots_of (take n ls)) r.1)),
    )

pub flags_parts : (ls : List Line) (n : ℕ) (bs : List Bool) → T (bit_lines ls) → length bs ≡ slots_of ls → T (allowed (slots_of (take n ls)) bs) → T (lines_ok (parts_there n ls) ls (bits bs))
unfolding bit_lines lines_ok line_ok slots_of bits
flags_parts [] n [] b e a = tt
flags_parts [] n (x ∷ bs) b e a = absurd (omega arith)
flags_parts (l ∷ ls) zero bs b e a =
    subst (λ x. T (lines_ok (parts_there 0 (l ∷ ls)) (l ∷ ls) x)) (ap (λ j. replicate j (pos 0)) (sym e) ∙ sym (none_allowed bs a)) (zeros_lines (l ∷ ls))
flags_parts (l ∷ ls) (suc n) bs b e a =
    let c : ℕ = count l.pieces in
    let k : length (take c bs) ≡ c = length-take-le c bs (omega arith) in
    let d : length bs ≡ length (take c bs) + length (drop c bs) = ap length (sym (take-append-drop c bs)) ∙ length-append (take c bs) (drop c bs) in
    let f = bits_fit l.pieces (take c bs) (and_l (bit_pieces l.pieces) _ b) k in
    subst (λ x. T (lines_ok x (l ∷ ls) (bits bs))) (sym (parts_suc n l ls))
    (and_in (line_ok true l (take c (bits bs))) _ (subst (λ x. T (line_ok true l x)) (sym (take-bits c bs)) (and_in (fit_nums l.pieces (bits (take c bs))) _ f.0 f.1))
    (subst (λ x. T (lines_ok (parts_there n ls) ls x)) (sym (drop_bits c bs)) (flags_parts ls n (drop c bs) (and_r (bit_pieces l.pieces) _ b) (omega arith) (allowed-drop c bs (slots_of (take n ls)) a))))

-- ---- the subfields' flags stand in order

unfoldable pub in_order : ℕ → List Line → Bool
in_order j [] = true
in_order j (s ∷ ss) = eqb s.flag j && in_order (suc j) ss

pub there_ones : (j : ℕ) (ss : List Line) (zs : List ℤ) → T (in_order j ss) → j + length ss ≤ length zs → subfields_there zs ss ≡ ones_of (take (length ss) (drop j zs))
unfolding in_order subfields_there ones_of
there_ones j [] zs o h = refl
there_ones j (s ∷ ss) zs o h =
    let e : s.flag ≡ j = eqb→eq s.flag j (and_l (eqb s.flag j) _ o) in
    let d : drop j zs ≡ get_or zs j (pos 0) ∷ drop (suc j) zs = drop-cons zs j (pos 0) (omega arith) in
    ap₂ ◌∷◌ (ap (λ i. is_one (get_or zs i (pos 0))) e) (there_ones (suc j) ss zs (and_r (eqb s.flag j) _ o) (omega arith)) ∙ ap (λ x. ones_of (take (suc (length ss)) x)) (sym d)

pub there_length : (zs : List ℤ) (ss : List Line) → length (subfields_there zs ss) ≡ length ss
unfolding subfields_there
there_length zs [] = refl
there_length zs (s ∷ ss) = ap suc (there_length zs ss)

pub parts_length : (n : ℕ) (ls : List Line) → length (parts_there n ls) ≡ length ls
unfolding parts_there
parts_length n [] = refl
parts_length n (l ∷ ls) = ap suc (parts_length (n - 1) ls)
