-- Chain parts by their octets: FX is the lowest bit of the last octet, and the flags of subfields are the bits of the parts.
use Rattle.std.specs.Prelude.{◌≡◌, refl, Bool, true, false, List, ◌++◌, map, ℕ, zero, suc, ◌+◌, ◌-◌, ◌*◌, ◌^◌, ◌/◌, ◌%◌, ◌≤◌, ◌<◌, leb, eqb, ℤ, pos, take, drop, replicate}
use Rattle.std.proofs.Common.{sym, ◌∙◌, subst, leb-true, leb-false, eqb-true, eqb→eq, get_or-take}
use Rattle.std.proofs.Math.Path.{ap, ap₂}
use native.Mathlib.Omega.{arith}
use Rattle.std.proofs.lemmas.Bool.{eqb-false}
use Rattle.std.proofs.Math.ListN.{length, get_or, get_or-map, get_or-append}
use Rattle.std.proofs.Math.Seq.{get_or-drop}
use Rattle.codec.specs.Pick.{pick}
use Rattle.codec.specs.Radix.{total, cut, join, eights}
use Rattle.codec.specs.Codec.{Res, got, bad, map_res, shift}
use Rattle.codec.specs.Line.{Line, Held, widths, nums, line, fills}
use Rattle.codec.specs.Item.{slots_of, is_one}
use Rattle.codec.specs.Field.{flags}
use Rattle.codec.proofs.Laws.Radix.{total-eights, join-take}
use Rattle.codec.proofs.Laws.Line.{whole_of, digits_of, line_short, line_every}
use Rattle.lengths.specs.Lines.{line_at}
use Rattle.lengths.specs.Laws.Lines.{line_filled}
use Rattle.shapes.specs.Shapes.{lines_from}
use Rattle.reader.specs.Steps.{line_run}
use Rattle.reader.specs.Chains.{chain_at}
use Rattle.reader.specs.Laws.Chains.{part_bad, part_over, part_last, part_then, line_zero}
use Rattle.reader.specs.Seen.{goes_on}

-- ---- what a line holds, by its octets

abbrev HeldBy : Line → List ℕ → Res Held → Type 0
HeldBy l ys (got v m) = (l.octets ≤ length ys) × (v ≡ (whole_of l ys % 2 ^ l.fx, nums l.pieces (digits_of l ys))) × (m ≡ l.octets)
HeldBy l ys (bad e p) = Unit {0}

held_line : (l : Line) (ys : List ℕ) → HeldBy l ys ((line l).read ys)
held_line l ys = go (leb l.octets (length ys)) refl
  where
    go : (b : Bool) → leb l.octets (length ys) ≡ b → HeldBy l ys ((line l).read ys)
    go true e = line_every l ys (HeldBy l ys) (λ _. tt) (leb-true l.octets (length ys) e, refl, refl)
    go false e = subst (HeldBy l ys) (sym (line_short l ys (leb-false l.octets (length ys) e))) tt

pub record LineHeld (b : ℕ) (xs : List ℕ) (at : ℕ) (w : Held) (n : ℕ) : Type 0 where
  pub there : (line_at b).octets ≤ length (drop at xs)
  pub holds : w ≡ (whole_of (line_at b) (drop at xs) % 2 ^ (line_at b).fx, nums (line_at b).pieces (digits_of (line_at b) (drop at xs)))
  pub next : n ≡ at + (line_at b).octets

pub line_held : (b : ℕ) (xs : List ℕ) (at : ℕ) {w : Held} {n : ℕ} → line_run b xs at ≡ got w n → LineHeld b xs at w n
unfolding line_run
line_held b xs at {w} {n} e = go ((line (line_at b)).read (drop at xs)) (held_line (line_at b) (drop at xs)) e
  where
    go : (y : Res Held) → HeldBy (line_at b) (drop at xs) y → shift at y ≡ got w n → LineHeld b xs at w n
    go (got v m) h q =
        let ew : v ≡ w = cc in
        let en : at + m ≡ n = cc in
        record { there = h.0; holds = sym ew ∙ h.1; next = sym en ∙ ap (at +◌) h.2 }
    go (bad q' p) h q = let z : ◌≡◌ {A = ℕ} 0 1 = cc in absurd (omega arith)

-- FX is the lowest bit of the last octet
pub fx_octet : (b : ℕ) (xs : List ℕ) (at : ℕ) → (line_at b).fx ≡ 1 → {x n : ℕ} {v : List ℤ} → line_run b xs at ≡ got (x, v) n → x ≡ get_or xs (n - 1) 0 % 2
unfolding fills
fx_octet b xs at f {x} {n} {v} e = go (line_at b).octets refl
  where
    h : LineHeld b xs at (x, v) n
    h = line_held b xs at e

    some : 8 * (line_at b).octets ≡ total (widths (line_at b).pieces) + 1
    some = sym (total-eights (line_at b).octets) ∙ eqb→eq (total (eights (line_at b).octets)) (total (widths (line_at b).pieces) + (line_at b).fx) (line_filled b) ∙ ap (total (widths (line_at b).pieces) +◌) f

    go : (k : ℕ) → (line_at b).octets ≡ k → x ≡ get_or xs (n - 1) 0 % 2
    go zero ek = absurd (omega (arith, some, ek))
    go (suc j) ek =
        let l : j < length (drop at xs) = omega (arith, h.there, ek) in
        let i : n - 1 ≡ at + j = omega (arith, h.next, ek) in
        let d : get_or (drop at xs) j 0 ≡ get_or xs (n - 1) 0 = get_or-drop at xs j 0 ∙ ap (λ m. get_or xs m 0) (sym i) in
        let w : whole_of (line_at b) (drop at xs) ≡ join (eights j) (take j (drop at xs)) * 256 + get_or xs (n - 1) 0
        = ap (λ k. join (eights k) (take k (drop at xs))) ek ∙ join-take (drop at xs) j l ∙ ap (join (eights j) (take j (drop at xs)) * 256 +◌) d in
        ap (λ (p : Held). p.0) h.holds ∙ ap₂ (λ m k. m % 2 ^ k) w f ∙ low (join (eights j) (take j (drop at xs))) (get_or xs (n - 1) 0)
      where
        low : (a c : ℕ) → (a * 256 + c) % 2 ^ 1 ≡ c % 2
        low a c = omega arith

pub fx_goes_on : (b : ℕ) (xs : List ℕ) (at : ℕ) → (line_at b).fx ≡ 1 → {x n : ℕ} {v : List ℤ} → line_run b xs at ≡ got (x, v) n → eqb x 1 ≡ goes_on xs n
fx_goes_on b xs at f e = ap (λ y. eqb y 1) (fx_octet b xs at f e)

-- ---- the numbers of a chain whose parts are an octet of flags

abbrev pub sevens : List ℕ
sevens = replicate 7 1

-- the first j bits of an octet as numbers
abbrev pub bits : ℕ → ℕ → List ℤ
bits j o = map pos (take j (cut sevens (o / 2)))

pub bit_is : (o i : ℕ) → i < 7 → get_or (cut sevens (o / 2)) i 0 ≡ get_or (flags o) i 0
unfolding cut total
bit_is o zero h = omega arith
bit_is o (suc zero) h = omega arith
bit_is o (suc (suc zero)) h = omega arith
bit_is o (suc (suc (suc zero))) h = omega arith
bit_is o (suc (suc (suc (suc zero)))) h = omega arith
bit_is o (suc (suc (suc (suc (suc zero))))) h = omega arith
bit_is o (suc (suc (suc (suc (suc (suc zero)))))) h = omega arith
bit_is o (suc (suc (suc (suc (suc (suc (suc i))))))) h = absurd (omega arith)

pub flag_is_bit : (o j i : ℕ) → i < j → j ≤ 7 → {t : Bool} → t ≡ eqb (get_or (flags o) i 0) 1 → t ≡ is_one (get_or (bits j o) i (pos 0))
unfolding is_one
flag_is_bit o j i h k e =
    e ∙ ap (λ d. eqb d 1) (sym (get_or-take j (cut sevens (o / 2)) i 0 h ∙ bit_is o i (omega arith)))
    ∙ ap is_one (sym (get_or-map pos (take j (cut sevens (o / 2))) i 0))

-- the flags of a first part of seven bits, whatever stands behind, and the first bit of a second part
pub flag_leads : (o : ℕ) (zs : List ℤ) (i : ℕ) → i < 7 → {t : Bool} → t ≡ eqb (get_or (flags o) i 0) 1 → t ≡ is_one (get_or (bits 7 o ++ zs) i (pos 0))
unfolding cut
flag_leads o zs i h e = flag_is_bit o 7 i h (omega arith) e ∙ ap is_one (sym (get_or-append (bits 7 o) zs (pos 0) i h))

pub flag_behind : (o q n : ℕ) {t : Bool} → t ≡ eqb (get_or (flags (pick (eqb (o % 2) 1) q 0)) 0 0) 1 → t ≡ is_one (get_or (bits 7 o ++ pick (eqb (o % 2) 1) (bits 1 q) (replicate n (pos 0))) 7 (pos 0))
unfolding cut total is_one
flag_behind o q n e = e ∙ by (eqb (o % 2) 1)
  where
    none : (n : ℕ) → get_or (replicate n (pos 0)) 0 (pos 0) ≡ pos 0
    none zero = refl
    none (suc n) = refl

    by : (b : Bool) → eqb (get_or (flags (pick b q 0)) 0 0) 1 ≡ is_one (get_or (pick b (bits 1 q) (replicate n (pos 0))) 0 (pos 0))
    by true = flag_is_bit q 1 0 (omega arith) (omega arith) refl
    by false = ap is_one (sym (none n))

pub behind_some : (o q n : ℕ) → 1 ≤ n → 7 < length (bits 7 o ++ pick (eqb (o % 2) 1) (bits 1 q) (replicate n (pos 0)))
unfolding cut
behind_some o q n h = let g : 1 ≤ length (pick (eqb (o % 2) 1) (bits 1 q) (replicate n (pos 0))) = by (eqb (o % 2) 1) n h in omega arith
  where
    by : (b : Bool) (n : ℕ) → 1 ≤ n → 1 ≤ length (pick b (bits 1 q) (replicate n (pos 0)))
    by true n h = omega arith
    by false zero h = absurd (omega arith)
    by false (suc n) h = omega arith

-- such a part: its numbers are the first j bits, whatever the octet
pub record Bits (b j : ℕ) : Type 0 where
  pub part : (line_at b).fx ≡ 1
  pub octet : (line_at b).octets ≡ 1
  pub numbers : (m : ℕ) → nums (line_at b).pieces (cut (widths (line_at b).pieces) m) ≡ map pos (take j (cut sevens m))

abbrev pub Holds : List ℤ → Res Held → Type 0
Holds zs (got w n) = w.1 ≡ zs
Holds zs (bad e p) = Unit {0}

module _ (b j : ℕ) (bs : Bits b j) (xs : List ℕ) (at : ℕ) where
  pub line_bits : {w : Held} {n : ℕ} → line_run b xs at ≡ got w n → w.1 ≡ bits j (get_or xs at 0)
  unfolding join total
  line_bits {w} {n} e =
      let h : LineHeld b xs at w n = line_held b xs at e in
      let l : 0 < length (drop at xs) = omega (arith, h.there, bs.octet) in
      let z : at + 0 ≡ at = omega arith in
      let one : whole_of (line_at b) (drop at xs) ≡ get_or xs at 0
      = ap (λ k. join (eights k) (take k (drop at xs))) bs.octet ∙ join-take (drop at xs) 0 l ∙ plain (get_or (drop at xs) 0 0) ∙ get_or-drop at xs 0 0 ∙ ap (λ m. get_or xs m 0) z in
      ap (λ (p : Held). p.1) h.holds ∙ ap₂ (λ m k. nums (line_at b).pieces (cut (widths (line_at b).pieces) (m / 2 ^ k))) one bs.part ∙ bs.numbers (get_or xs at 0 / 2 ^ 1)
    where
      plain : (c : ℕ) → 0 * 256 + c ≡ c
      plain c = omega arith

  pub one_holds : Holds (bits j (get_or xs at 0)) (chain_at b xs at 0)
  one_holds = go (line_run b xs at) refl
    where
      by : (w : Held) (n : ℕ) → line_run b xs at ≡ got w n → (t : Bool) → eqb w.0 1 ≡ t → Holds (bits j (get_or xs at 0)) (chain_at b xs at 0)
      by w n e true et = subst (Holds (bits j (get_or xs at 0))) (sym (part_over b xs at (e ∙ ap (λ y. got (y, w.1) n) (eqb-true w.0 1 et)))) tt
      by w n e false et =
          subst (Holds (bits j (get_or xs at 0))) (sym (part_last b xs at (e ∙ ap (λ y. got (y, w.1) n) (line_zero b xs at bs.part e (eqb-false w.0 1 et))))) (line_bits e)

      go : (y : Res Held) → line_run b xs at ≡ y → Holds (bits j (get_or xs at 0)) (chain_at b xs at 0)
      go (got w n) e = by w n e (eqb w.0 1) refl
      go (bad q p) e = subst (Holds (bits j (get_or xs at 0))) (sym (part_bad b xs at 0 e)) tt

-- two such parts; where FX of the first is 0 the numbers of the second are zeros
module _ (b i j : ℕ) (bs : Bits b i) (cs : Bits (b + 1) j) (xs : List ℕ) (at : ℕ) where
  abbrev behind_one : List ℤ
  behind_one = pick (eqb (get_or xs at 0 % 2) 1) (bits j (get_or xs (at + 1) 0)) (replicate (slots_of (lines_from (b + 1) 1)) (pos 0))

  pub two_hold : Holds (bits i (get_or xs at 0) ++ behind_one) (chain_at b xs at 1)
  two_hold = go (line_run b xs at) refl
    where
      joined : (v : List ℤ) → v ≡ bits i (get_or xs at 0) → (ws : List ℤ) → ws ≡ behind_one → (y : Res Held) → Holds ws y → Holds (bits i (get_or xs at 0) ++ behind_one) (map_res {A = Held} (λ w. (suc w.0, v ++ w.1)) y)
      joined v ev ws es (got w n) h = ap₂ ◌++◌ ev (h ∙ es)
      joined v ev ws es (bad e p) h = tt

      by : (w : Held) (n : ℕ) → line_run b xs at ≡ got w n → (t : Bool) → eqb w.0 1 ≡ t → Holds (bits i (get_or xs at 0) ++ behind_one) (chain_at b xs at 1)
      by w n e true et =
          let nx : n ≡ at + 1 = (line_held b xs at e).next ∙ ap (at +◌) bs.octet in
          let m : n - 1 ≡ at = omega (arith, nx) in
          let o : eqb (get_or xs at 0 % 2) 1 ≡ true = ap (λ k. eqb (get_or xs k 0 % 2) 1) (sym m) ∙ ap (λ y. eqb y 1) (sym (fx_octet b xs at bs.part e)) ∙ et in
          let q : bits j (get_or xs n 0) ≡ behind_one = ap (λ k. bits j (get_or xs k 0)) nx ∙ rw o refl in
          let c : chain_at b xs at 1 ≡ map_res {A = Held} (λ u. (suc u.0, w.1 ++ u.1)) (chain_at (b + 1) xs n 0) = part_then b xs at 0 e ∙ rw et refl in
          subst (Holds (bits i (get_or xs at 0) ++ behind_one)) (sym c) (joined w.1 (line_bits b i bs xs at e) (bits j (get_or xs n 0)) q (chain_at (b + 1) xs n 0) (one_holds (b + 1) j cs xs n))
      by w n e false et =
          let nx : n ≡ at + 1 = (line_held b xs at e).next ∙ ap (at +◌) bs.octet in
          let m : n - 1 ≡ at = omega (arith, nx) in
          let o : eqb (get_or xs at 0 % 2) 1 ≡ false = ap (λ k. eqb (get_or xs k 0 % 2) 1) (sym m) ∙ ap (λ y. eqb y 1) (sym (fx_octet b xs at bs.part e)) ∙ et in
          let zs : List ℤ = replicate (slots_of (lines_from (b + 1) 1)) (pos 0) in
          let q : zs ≡ behind_one = rw o refl in
          let c : chain_at b xs at 1 ≡ map_res {A = Held} (λ u. (suc u.0, w.1 ++ u.1)) (got (0, zs) (n + 0)) = part_then b xs at 0 e ∙ rw et refl in
          subst (Holds (bits i (get_or xs at 0) ++ behind_one)) (sym c) (joined w.1 (line_bits b i bs xs at e) zs q (got (0, zs) (n + 0)) refl)

      go : (y : Res Held) → line_run b xs at ≡ y → Holds (bits i (get_or xs at 0) ++ behind_one) (chain_at b xs at 1)
      go (got w n) e = by w n e (eqb w.0 1) refl
      go (bad q p) e = subst (Holds (bits i (get_or xs at 0) ++ behind_one)) (sym (part_bad b xs at 1 e)) tt
