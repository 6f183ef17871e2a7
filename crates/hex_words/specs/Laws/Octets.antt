-- The octets that a word writes: pairs of hex digits in either case, at most 4,096 pairs, or `-` for none.
use Rattle.std.specs.Prelude.{◌≡◌, Option, Some, None, is_some, unwrap_or, ltb, Bool, ◌&&◌, List, [], ◌∷◌, ◌++◌, ℕ, ◌+◌, ◌-◌, ◌/◌, ◌%◌, ◌≤◌, ◌<◌, leb, eqb, length, get_or, take, drop, set}
use Rattle.std.proofs.Math.Path.{refl}
use Rattle.std.proofs.Common.{sym, ap, ap₂, ◌∙◌, add-one, arith, length-take}
use Rattle.std.proofs.Math.Bool.{true, false}
use borrow.Author.Tests.{eq-eqb, ne_eqb, le-leb, lt-leb, lt-ltb, leb-true, ltb-true, ltb-false, eqb-true}
use Rattle.std.proofs.Math.Seq.{take-append_seam}
use Rattle.std.proofs.lemmas.List.Edits.{sets, sets-eq}
use Rattle.codec.specs.Pick.{pick}
use Rattle.std.specs.Bool.{then_some}
use Rattle.std.specs.List.{list_all}
use Rattle.hex_words.specs.Octets.{between, hex_digit, digit_in, are_hex, is_octets, octet_of, octets_of, octets_in, is_list, list_in}

-- ---- the ways out of `hex_digit`

in_range : (low high o : ℕ) → low ≤ o → o ≤ high → between low high o ≡ true
in_range low high o h k = rw (le-leb low o h, le-leb o high k) refl

under : (low high o : ℕ) → o < low → between low high o ≡ false
under low high o h = rw (lt-leb low o h) refl

over : (low high o : ℕ) → high < o → between low high o ≡ false
over low high o h = rw (lt-leb o high h) (none (leb low o))
  where
    none : (b : Bool) → b && false ≡ false
    none true = refl
    none false = refl

module _ (o : ℕ) where
  pub hex_number : 48 ≤ o → o ≤ 57 → o - 48 ≡ hex_digit o
  unfolding hex_digit
  hex_number h k = rw (in_range 48 57 o h k) refl

  pub hex_capital : 65 ≤ o → o ≤ 70 → o - 65 + 10 ≡ hex_digit o
  unfolding hex_digit
  hex_capital h k = rw (over 48 57 o (omega arith), in_range 65 70 o h k) refl

  pub hex_small : 97 ≤ o → o ≤ 102 → o - 97 + 10 ≡ hex_digit o
  unfolding hex_digit
  hex_small h k = rw (over 48 57 o (omega arith), over 65 70 o (omega arith), in_range 97 102 o h k) refl

  -- before, between and behind the three ranges
  pub hex_before : o < 48 → 16 ≡ hex_digit o
  unfolding hex_digit
  hex_before h = rw (under 48 57 o h, under 65 70 o (omega arith), under 97 102 o (omega arith)) refl

  pub hex_second : 57 < o → o < 65 → 16 ≡ hex_digit o
  unfolding hex_digit
  hex_second h k = rw (over 48 57 o h, under 65 70 o k, under 97 102 o (omega arith)) refl

  pub hex_third : 70 < o → o < 97 → 16 ≡ hex_digit o
  unfolding hex_digit
  hex_third h k = rw (over 48 57 o (omega arith), over 65 70 o h, under 97 102 o k) refl

  pub hex_behind : 102 < o → 16 ≡ hex_digit o
  unfolding hex_digit
  hex_behind h = rw (over 48 57 o (omega arith), over 65 70 o (omega arith), over 97 102 o h) refl

-- as code gives it
pub digit_some : (o n : ℕ) → n ≡ hex_digit o → n < 16 → Some n ≡ digit_in (hex_digit o)
digit_some o n e h = rw (sym e, lt-ltb n 16 h) refl

pub digit_none : (o : ℕ) → 16 ≡ hex_digit o → None ≡ digit_in (hex_digit o)
digit_none o e = rw (sym e) refl

pub ruleset hex_ways = (hex_number, hex_capital, hex_small, hex_before, hex_second, hex_third, hex_behind, digit_some, digit_none)

-- no octet has more than 16
hex_most : (o : ℕ) → hex_digit o ≤ 16
unfolding hex_digit
hex_most o = one (leb 48 o) (leb o 57) (leb-true o 57) (two 65 (leb 65 o) (leb o 70) (leb-true o 70) (two 97 (leb 97 o) (leb o 102) (leb-true o 102) (omega arith)))
  where
    one : (a b : Bool) → (b ≡ true → o ≤ 57) → {n : ℕ} → n ≤ 16 → pick (a && b) (o - 48) n ≤ 16
    one true true f h = omega (arith, f refl)
    one true false f h = h
    one false b f h = h

    two : (low : ℕ) (a b : Bool) → (b ≡ true → o ≤ low + 5) → {n : ℕ} → n ≤ 16 → pick (a && b) (o - low + 10) n ≤ 16
    two low true true f h = omega (arith, f refl)
    two low true false f h = h
    two low false b f h = h

-- nothing is lost: a digit, or 16, is got back
pub digit_told : (o : ℕ) → unwrap_or (digit_in (hex_digit o)) 16 ≡ hex_digit o
digit_told o = by_size (hex_digit o) (hex_most o)
  where
    by_size : (n : ℕ) → n ≤ 16 → unwrap_or (digit_in n) 16 ≡ n
    by_size n h = by_test (ltb n 16) refl
      where
        by_test : (b : Bool) → ltb n 16 ≡ b → unwrap_or (then_some b n) 16 ≡ n
        by_test true t = refl
        by_test false t = omega (arith, ltb-false n 16 t)

-- 0 where it is none
pub digit_value : (o : ℕ) → unwrap_or (digit_in (hex_digit o)) 0 ≡ hex_digit o % 16
digit_value o = by_size (hex_digit o) (hex_most o)
  where
    by_size : (n : ℕ) → n ≤ 16 → unwrap_or (digit_in n) 0 ≡ n % 16
    by_size n h = by_test (ltb n 16) refl
      where
        by_test : (b : Bool) → ltb n 16 ≡ b → unwrap_or (then_some b n) 0 ≡ n % 16
        by_test true t = omega (arith, ltb-true n 16 t)
        by_test false t = let e : n ≡ 16 = omega (arith, ltb-false n 16 t) in rw e refl

pub hex_all : (w : List ℕ) → list_all (λ o. is_some (digit_in (hex_digit o))) w ≡ are_hex w
unfolding are_hex
hex_all [] = refl
hex_all (o ∷ w) = ap₂ (λ a b. a && b) (is_digit (ltb (hex_digit o) 16) (hex_digit o)) (hex_all w)
  where
    is_digit : (b : Bool) (n : ℕ) → is_some (then_some b n) ≡ b
    is_digit true n = refl
    is_digit false n = refl

-- ---- the ways out of `is_octets`

pub octets_sign : (w : List ℕ) → length w ≡ 1 → eqb (get_or w 0 0) 45 ≡ is_octets w
unfolding is_octets
octets_sign w e = rw (eq-eqb (length w) 1 e) refl

module _ (w : List ℕ) (one : length w ≡ 1 → ⊥) where
  pub octets_empty : length w ≡ 0 → false ≡ is_octets w
  unfolding is_octets
  octets_empty e = rw (ne_eqb (length w) 1 one, lt-leb 1 (length w) (omega arith)) refl

  pub octets_long : 1 ≤ length w → 8_192 < length w → false ≡ is_octets w
  unfolding is_octets
  octets_long h k = rw (ne_eqb (length w) 1 one, le-leb 1 (length w) h, lt-leb (length w) 8_192 k) refl

  pub octets_odd : 1 ≤ length w → length w ≤ 8_192 → (length w % 2 ≡ 0 → ⊥) → false ≡ is_octets w
  unfolding is_octets
  octets_odd h k e = rw (ne_eqb (length w) 1 one, le-leb 1 (length w) h, le-leb (length w) 8_192 k, ne_eqb (length w % 2) 0 e) refl

  pub octets_even : 1 ≤ length w → length w ≤ 8_192 → length w % 2 ≡ 0 → are_hex w ≡ is_octets w
  unfolding is_octets
  octets_even h k e = rw (ne_eqb (length w) 1 one, le-leb 1 (length w) h, le-leb (length w) 8_192 k, eq-eqb (length w % 2) 0 e) refl

pub ruleset octets_ways = (octets_sign, octets_empty, octets_long, octets_odd, octets_even)

-- ---- the ways through `lay`

-- a pair goes in front of the octets that are left
pub lay_more : (pair rest out : List ℕ) (i : ℕ) → length pair ≡ 2 → {o : ℕ} → o ≡ octet_of (get_or pair 0 0) (get_or pair 1 0) → sets out i (octets_of (pair ++ rest)) ≡ sets (set out i o) (i + 1) (octets_of rest)
unfolding octets_of
lay_more [] rest out i h eo = absurd (omega arith)
lay_more (a ∷ []) rest out i h eo = absurd (omega arith)
lay_more (a ∷ b ∷ []) rest out i h eo = rw (add-one i, eo) refl
lay_more (a ∷ b ∷ c ∷ w) rest out i h eo = absurd (omega arith)

-- fewer than two digits are left
pub lay_end : (rest out : List ℕ) (i : ℕ) → length rest < 2 → sets out i (octets_of rest) ≡ out
unfolding octets_of
lay_end [] out i h = refl
lay_end (a ∷ []) out i h = refl
lay_end (a ∷ b ∷ w) out i h = absurd (omega arith)

pub octets_length : (w : List ℕ) → length (octets_of w) ≡ length w / 2
unfolding octets_of
octets_length [] = refl
octets_length (a ∷ []) = refl
octets_length (a ∷ b ∷ w) = omega (arith, octets_length w)

-- ---- the ways out of `octets`

pub octets_most : (w : List ℕ) → is_octets w ≡ true → length w ≤ 8_192
unfolding is_octets
octets_most w e = by_one (eqb (length w) 1) refl e
  where
    by_long : (b : Bool) → leb (length w) 8_192 ≡ b → (a : Bool) (t : Bool) → a && (b && t) ≡ true → length w ≤ 8_192
    by_long true k a t u = leb-true (length w) 8_192 k
    by_long false k true t u = let z : ◌≡◌ {A = ℕ} 0 1 = cc in absurd (omega arith)
    by_long false k false t u = let z : ◌≡◌ {A = ℕ} 0 1 = cc in absurd (omega arith)

    by_one : (b : Bool) → eqb (length w) 1 ≡ b
        → pick b (eqb (get_or w 0 0) 45) (leb 1 (length w) && (leb (length w) 8_192 && (eqb (length w % 2) 0 && are_hex w))) ≡ true → length w ≤ 8_192
    by_one true k u = omega (arith, eqb-true (length w) 1 k)
    by_one false k u = by_long (leb (length w) 8_192) refl (leb 1 (length w)) (eqb (length w % 2) 0 && are_hex w) u

-- how many they are and what the array comes to hold
abbrev Lays : List ℕ → List ℕ → ℕ → List ℕ → Type 0
Lays w out n m = (n ≡ length (octets_in w)) × (m ≡ sets out 0 (octets_in w))

-- as code gives it: None where the word writes none
abbrev Gives : List ℕ → List ℕ → Option ℕ → List ℕ → Type 0
Gives w out o m = (o ≡ then_some (is_octets w) (length (octets_in w))) × (m ≡ sets out 0 (octets_in w))

module _ (w out : List ℕ) where
  pub octets_there : is_octets w ≡ true → {m : List ℕ} → m ≡ sets out 0 (octets_of w) → Lays w out (length w / 2) m
  unfolding octets_in
  octets_there e em = rw e (sym (octets_length w), em)

  pub octets_none : is_octets w ≡ false → Lays w out 0 out
  unfolding octets_in
  octets_none e = rw e (refl, refl)

  pub octets_some : is_octets w ≡ true → {m : List ℕ} → m ≡ sets out 0 (octets_of w) → Gives w out (Some (length w / 2)) m
  octets_some e em = let laid = octets_there e em in rw e (ap Some laid.0, laid.1)

  pub not_octets : is_octets w ≡ false → Gives w out None out
  not_octets e = rw e (refl, (octets_none e).1)

-- ---- what the answer of `octets` says: so many octets stand in the array's front

pub octets_few : (w : List ℕ) → length (octets_in w) ≤ 4_096
unfolding octets_in
octets_few w = by_form (is_octets w) refl
  where
    by_form : (b : Bool) → is_octets w ≡ b → length (pick b (octets_of w) []) ≤ 4_096
    by_form true t = omega (arith, octets_most w t, octets_length w)
    by_form false t = omega arith

-- how many, 0 where there are none
octets_told : (w : List ℕ) → unwrap_or (then_some (is_octets w) (length (octets_in w))) 0 ≡ length (octets_in w)
unfolding octets_in
octets_told w = by_form (is_octets w)
  where
    by_form : (b : Bool) → unwrap_or (then_some b (length (pick b (octets_of w) []))) 0 ≡ length (pick b (octets_of w) [])
    by_form true = refl
    by_form false = refl

pub octets_given : (w b : List ℕ) {o : Option ℕ} {n : ℕ} {m : List ℕ} → Gives w b o m → n ≡ unwrap_or o 0 → Lays w b n m
octets_given w b x en = (en ∙ ap (λ o. unwrap_or o 0) x.0 ∙ octets_told w, x.1)

module _ (w b : List ℕ) (eb : 4_096 ≡ length b) {n : ℕ} {m : List ℕ} (x : Lays w b n m) where
  pub octets_taken : take n m ≡ octets_in w
  octets_taken =
      ap₂ take x.0 (x.1 ∙ sets-eq (octets_in w) b 0 (omega (arith, octets_few w)))
      ∙ take-append_seam (octets_in w) (drop (0 + length (octets_in w)) b)

  pub octets_counted : n ≡ length (take n m)
  octets_counted = x.0 ∙ ap length (sym octets_taken)

  pub octets_held : n ≤ length m
  octets_held = omega (arith, octets_counted, length-take n m)

-- ---- the ways out of `is_list` and `list`

module _ (w : List ℕ) where
  pub list_other : (length w ≡ 2 → ⊥) → false ≡ is_list w
  unfolding is_list
  list_other e = rw (ne_eqb (length w) 2 e) refl

  pub list_form : length w ≡ 2 → are_hex w ≡ is_list w
  unfolding is_list
  list_form e = rw (eq-eqb (length w) 2 e) refl

  pub ruleset list_ways = (list_other, list_form)

  -- a list has its two digits
  pub list_pair : is_list w ≡ true → length w ≡ 2
  unfolding is_list
  list_pair t = eqb-true (length w) 2 (both (eqb (length w) 2) (are_hex w) t)
    where
      both : (a b : Bool) → a && b ≡ true → a ≡ true
      both true b e = refl
      both false b e = e

  pub list_value : is_list w ≡ true → octet_of (get_or w 0 0) (get_or w 1 0) ≡ list_in w
  unfolding list_in
  list_value t = rw t refl

  pub list_none : is_list w ≡ false → 0 ≡ list_in w
  unfolding list_in
  list_none t = rw t refl

  -- as code gives it
  pub list_some : is_list w ≡ true → Some (octet_of (get_or w 0 0) (get_or w 1 0)) ≡ then_some (is_list w) (list_in w)
  list_some t = rw t (ap Some (list_value t))

  pub not_list : is_list w ≡ false → None ≡ then_some (is_list w) (list_in w)
  not_list t = rw t refl

  -- 0 where there is none
  pub list_told : unwrap_or (then_some (is_list w) (list_in w)) 0 ≡ list_in w
  list_told = by_form (is_list w) refl
    where
      by_form : (b : Bool) → is_list w ≡ b → unwrap_or (then_some b (list_in w)) 0 ≡ list_in w
      by_form true t = refl
      by_form false t = list_none t
