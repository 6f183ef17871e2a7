-- The table in the code is the forms: one law for each way through `judge`, and what its answer is by the forms.
use Rattle.std.specs.Prelude.{◌≡◌, Bool, true, false, List, [], ◌∷◌, ℕ, zero, suc, ◌+◌, ◌≤◌, ◌<◌, Option, Some, None, MatchOption, Result, Ok, Err, ltb, replicate, eqb, length, get_or, drop, map}
use Rattle.std.specs.List.{range_with_len}
use Rattle.std.proofs.Common.{refl, sym, ap, ◌∙◌, subst, arith, lt-ltb, le-ltb, ne_eqb, drop_of_length-le, drop-cons}
use Rattle.std.proofs.lemmas.List.{get_or-map}
use Rattle.std.proofs.lemmas.List.FromFn.{get_or-range_with_len}
use Rattle.std.proofs.Math.Numerals.{add-one}
use Rattle.std.specs.Cmp.Lexicographic.{pointwise}
use Rattle.codec.specs.Pick.{pick}
use Rattle.protocol.specs.Line.{words_of, nth, same, places_from}
use Rattle.protocol.specs.Laws.Line.{same_octets}
use Rattle.protocol.specs.Forms.{Form, forms, first_wrong, wrong_word, Judged, Asks, Wrong, judged_as, judged_by, Parse, parse_of}
use Rattle.protocol.specs.Requests.{number_of, requests, request_of, judgement, parsed, asked_or, judged_in}
use Rattle.protocol.specs.declared.Request.{Request}
use Rattle.protocol.specs.declared.Parsed.{Parsed}
use Rattle.protocol.specs.declared.Row.{Row}

-- ---- of `judge`

pub asked_by : {Q : ℕ → Type 0} (r : Request) (o : Option ℕ) (x : Result Request ℕ) → MatchOption o (x ≡ Ok r) Q → ((n : ℕ) → Q n → x ≡ Err n) → x ≡ asked_or r o
asked_by r None x h f = h
asked_by r (Some n) x h f = f n h

module _ (rows : List Row) (ws : List (List ℕ)) (i : ℕ) where
  pub judged_end : length rows ≤ i → judged_in (drop i rows) ws ≡ Err 1
  unfolding judged_in
  judged_end h = rw (drop_of_length-le rows {i = i} h) refl

  -- the name w is that of row i, or of another
  module _ (h : i < length rows) (d : Row) {w : List ℕ} (ew : w ≡ nth ws 0) where
    pub judged_here : true ≡ pointwise eqb w (get_or rows i d).name.now
        → judged_in (drop i rows) ws ≡ asked_or (get_or rows i d).request (wrong_word (first_wrong (get_or rows i d).kinds.now (drop 1 ws) 2))
    unfolding judged_in
    judged_here t = rw (drop-cons rows i d h, ← ew, ← same_octets w (get_or rows i d).name.now, ← t) refl

    pub judged_more : false ≡ pointwise eqb w (get_or rows i d).name.now → judged_in (drop i rows) ws ≡ judged_in (drop (i + 1) rows) ws
    unfolding judged_in
    judged_more t = rw (add-one i, drop-cons rows i d h, ← ew, ← same_octets w (get_or rows i d).name.now, ← t) refl

-- ---- of `parse`

abbrev pub form_of : Row → Form
form_of r = record { name = r.name.now; kinds = r.kinds.now }

abbrev pub asked_in : Row → Request
asked_in r = r.request

-- the rows are those of the requests from a number on
abbrev pub Numbered : ℕ → List Row → Type 0
Numbered q [] = Unit {0}
Numbered q (r ∷ rs) = (r.request ≡ request_of q) × Numbered (q + 1) rs

-- rows that have the requests in their order are so
pub rows_numbered : (rows : List Row) → map asked_in rows ≡ requests → Numbered 0 rows
rows_numbered rows e = from_number 0 rows (λ i d. let here : i ≡ 0 + i = omega arith in ap (λ rs. get_or rs i d) e ∙ ap (λ j. get_or requests j d) here)
  where
    from_number : (q : ℕ) (rows : List Row) → ((i : ℕ) (d : Request) → get_or (map asked_in rows) i d ≡ get_or requests (q + i) d) → Numbered q rows
    from_number q [] f = tt
    from_number q (r ∷ rs) f =
        let here : q + 0 ≡ q = omega arith in
        let more : (i : ℕ) → q + suc i ≡ q + 1 + i = λ i. omega arith in
        (f 0 _ ∙ ap request_of here, from_number (q + 1) rs (λ i d. f (suc i) d ∙ ap (λ j. get_or requests j d) (more i)))

as_judged : (q n : ℕ) (r : Request) → r ≡ request_of q → asked_or r (wrong_word n) ≡ judgement (judged_as q n)
unfolding judged_as
as_judged q zero r e = ap Ok e
as_judged q (suc n) r e = rw (lt-ltb 0 (suc n) (omega arith), ne_eqb (suc n) 0 (λ z. omega arith)) refl

pub rows_judged : (q : ℕ) (rows : List Row) (ws : List (List ℕ)) → Numbered q rows → judged_in rows ws ≡ judgement (judged_by q (map form_of rows) ws)
unfolding judged_in judged_by
rows_judged q [] ws e = refl
rows_judged q (r ∷ rs) ws e = by_name (same (nth ws 0) r.name.now) (rows_judged (q + 1) rs ws e.1)
  where
    by_name : (b : Bool) → judged_in rs ws ≡ judgement (judged_by (q + 1) (map form_of rs) ws)
        → pick b (asked_or r.request (wrong_word (first_wrong r.kinds.now (drop 1 ws) 2))) (judged_in rs ws)
        ≡ judgement (pick b (judged_as q (first_wrong r.kinds.now (drop 1 ws) 2)) (judged_by (q + 1) (map form_of rs) ws))
    by_name true f = as_judged q (first_wrong r.kinds.now (drop 1 ws) 2) r.request e.0
    by_name false f = f

module _ (s : List ℕ) where
  pub parse_long : 16_384 < length s → parsed (record { judged = Wrong 0; starts = 0 ∷ 0 ∷ 0 ∷ 0 ∷ 0 ∷ 0 ∷ 0 ∷ 0 ∷ 0 ∷ 0 ∷ [] }) ≡ parsed (parse_of s)
  unfolding parse_of
  parse_long h = rw (lt-ltb 16_384 (length s) h) refl

  pub parse_line : length s ≤ 16_384 → (rows : List Row) → Numbered 0 rows → map form_of rows ≡ forms → {j : Result Request ℕ} {p : List ℕ} → j ≡ judged_in rows (words_of s) → p ≡ places_from s 0 10
      → ◌≡◌ {A = Parsed} (record { judged = j; starts = p }) (parsed (parse_of s))
  unfolding parse_of
  parse_line h rows a b ej ep =
      rw (le-ltb 16_384 (length s) h, ej, ep, rows_judged 0 rows (words_of s) a, b) refl

  -- of rows by the list of the requests, however many they are
  pub parse_rows : length s ≤ 16_384 → (rows : List Row) → map asked_in rows ≡ requests → map form_of rows ≡ forms → {j : Result Request ℕ} {p : List ℕ} → j ≡ judged_in rows (words_of s) → p ≡ places_from s 0 10
      → ◌≡◌ {A = Parsed} (record { judged = j; starts = p }) (parsed (parse_of s))
  parse_rows h rows a = parse_line h rows (rows_numbered rows a)

-- ---- what the answer of `parse` says

-- the requests are numbered in their order, and are as many as the forms, however many there are
in_order : map number_of requests ≡ range_with_len 0 (length requests)
in_order = refl

as_many : length forms ≡ length requests
unfolding forms
as_many = refl

pub request_number : (q : ℕ) → q < length requests → number_of (request_of q) ≡ q
request_number q h =
    let here : 0 + q ≡ q = omega arith in
    sym (get_or-map number_of requests q _ 0 h) ∙ ap (λ ns. get_or ns q 0) in_order ∙ get_or-range_with_len 0 (length requests) q 0 h ∙ here

asked_few : (q : ℕ) (fs : List Form) (ws : List (List ℕ)) (k : ℕ) → judged_by q fs ws ≡ Asks k → k < q + length fs
unfolding judged_by judged_as
asked_few q [] ws k e = cc
asked_few q (f ∷ fs) ws k e = by_name (same (nth ws 0) f.name) e (asked_few (q + 1) fs ws k)
  where
    here : (b : Bool) (n : ℕ) → pick b (Asks q) (Wrong n) ≡ Asks k → k < q + suc (length fs)
    here true n g = let z : q ≡ k = cc in omega arith
    here false n g = cc

    by_name : (b : Bool) → pick b (judged_as q (first_wrong f.kinds (drop 1 ws) 2)) (judged_by (q + 1) fs ws) ≡ Asks k → (judged_by (q + 1) fs ws ≡ Asks k → k < q + 1 + length fs) → k < q + suc (length fs)
    by_name true g rest = here (eqb (first_wrong f.kinds (drop 1 ws) 2) 0) (first_wrong f.kinds (drop 1 ws) 2) g
    by_name false g rest = omega (arith, rest g)

-- a request that code names is the one of its number
pub asked_told : (s : List ℕ) (r : Request) → judgement (parse_of s).judged ≡ Ok r → (parse_of s).judged ≡ Asks (number_of r)
unfolding parse_of
asked_told s r e = by_length (ltb 16_384 (length s)) e
  where
    named : (j : Judged) → ((q : ℕ) → j ≡ Asks q → q < length requests) → judgement j ≡ Ok r → j ≡ Asks (number_of r)
    named (Asks q) f e = let z : request_of q ≡ r = cc in ap Asks (sym (ap number_of (sym z) ∙ request_number q (f q refl)))
    named (Wrong n) f e = cc

    by_length : (b : Bool) → judgement (pick {X = Parse} b (record { judged = Wrong 0; starts = replicate 10 0 }) (record { judged = judged_by 0 forms (words_of s); starts = places_from s 0 10 })).judged ≡ Ok r
        → (pick {X = Parse} b (record { judged = Wrong 0; starts = replicate 10 0 }) (record { judged = judged_by 0 forms (words_of s); starts = places_from s 0 10 })).judged ≡ Asks (number_of r)
    by_length true g = cc
    by_length false g = named (judged_by 0 forms (words_of s)) (λ q e. subst (q <◌) as_many (asked_few 0 forms (words_of s) q e)) g

pub wrong_told : (s : List ℕ) (n : ℕ) → judgement (parse_of s).judged ≡ Err n → (parse_of s).judged ≡ Wrong n
wrong_told s n e = by_case (parse_of s).judged e
  where
    by_case : (j : Judged) → judgement j ≡ Err n → j ≡ Wrong n
    by_case (Asks q) e = cc
    by_case (Wrong m) e = cc
