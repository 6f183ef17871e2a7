-- One law for each way through the code that takes a record from its words.
use Rattle.std.specs.Prelude.{◌≡◌, List, ◌++◌, ℤ, length, drop, set}
use Rattle.std.proofs.Math.Path.{refl}
use Rattle.std.proofs.Common.{sym, ap, ◌∙◌, append-nil, drop_of_length-le, drop-drop, take_all}
use Prim.Native.Nat.{ℕ, zero, suc, ◌+◌, ◌-◌, ◌≤◌, ◌<◌}
use Rattle.std.proofs.Math.Numerals.{add-one}
use native.Mathlib.Omega.{arith}
use Rattle.std.proofs.lemmas.List.Edits.{sets, sets-eq}
use Rattle.papers.specs.Papers.{SLOTS}
use Rattle.layout.specs.declared.Record.{Record}
use Rattle.words.specs.Lines.{word_of}
use Rattle.words.specs.Numbers.{value_in, whole_in}
use Rattle.protocol.specs.Line.{nth, words_at, next_place}
use Rattle.protocol.specs.Record.{values_of, record_in, record_at}
use Rattle.protocol.specs.Laws.Line.{word_at, rest_at}

-- ---- of `values`: values from a word on, into an array

module _ {A : Type 0} (value : List ℕ → A) (most : ℕ) (s : List ℕ) where
  abbrev pub filled : List A → ℕ → ℕ → List A
  filled l i at = sets l i (values_of value (most - i) (words_at s at))

  pub filled_more : (l : List A) (i at : ℕ) → i < most → {x : A} {w : List ℕ} → w ≡ word_of (drop at s) → x ≡ value w → {next : ℕ} → next ≡ next_place s at
      → filled l i at ≡ filled (set l i x) (i + 1) next
  unfolding values_of
  filled_more l i at h ew ex en =
      let e : most - i ≡ suc (most - (i + 1)) = omega arith in
      rw (e, ← word_at s at, rest_at s at, ex, ew, en, add-one i) refl

  pub filled_end : (l : List A) (i at : ℕ) → most ≤ i → filled l i at ≡ l
  unfolding values_of
  filled_end l i at h = let e : most - i ≡ 0 = omega arith in rw e refl

  pub passed_more : (i at : ℕ) → i < most → {next : ℕ} → next ≡ next_place s at → drop (most - i) (words_at s at) ≡ drop (most - (i + 1)) (words_at s next)
  passed_more i at h en =
      let e : 1 + (most - (i + 1)) ≡ most - i = omega arith in
      ap (λ k. drop k (words_at s at)) (sym e) ∙ sym (drop-drop (most - (i + 1)) 1 (words_at s at)) ∙ ap (drop (most - (i + 1))) (rest_at s at ∙ ap (words_at s) (sym en))

  pub passed_end : (i at : ℕ) → most ≤ i → drop (most - i) (words_at s at) ≡ words_at s at
  passed_end i at h = let e : most - i ≡ 0 = omega arith in rw e refl

values_length : {A : Type 0} (value : List ℕ → A) (k : ℕ) (ws : List (List ℕ)) → length (values_of value k ws) ≡ k
unfolding values_of
values_length value zero ws = refl
values_length value (suc k) ws = ap suc (values_length value k (drop 1 ws))

-- an array that they fill
pub filled_all : {A : Type 0} (value : List ℕ → A) (k : ℕ) (s : List ℕ) (l : List A) (at : ℕ) → length l ≡ k → filled value k s l 0 at ≡ values_of value k (words_at s at)
filled_all value k s l at e =
    let ws = words_at s at in
    let z : k - 0 ≡ k = omega arith in
    ap (λ n. sets l 0 (values_of value n ws)) z
    ∙ sets-eq (values_of value k ws) l 0 (omega (arith, values_length value k ws))
    ∙ ap (λ x. values_of value k ws ++ x) (drop_of_length-le l {i = 0 + length (values_of value k ws)} (omega (arith, values_length value k ws)))
    ∙ append-nil (values_of value k ws)

pub passed_none : (k : ℕ) (ws : List (List ℕ)) → drop (k - 0) ws ≡ drop k ws
passed_none k ws = let z : k - 0 ≡ k = omega arith in ap (λ n. drop n ws) z

-- ---- of `record_in`

pub record_taken : (s : List ℕ) (at at4 : ℕ) {c i at2 at3 : ℕ} {w v : List ℕ} {p : List ℕ} {n : List ℤ}
    → w ≡ word_of (drop at s) → c ≡ (value_in 255) w → at2 ≡ next_place s at → v ≡ word_of (drop at2 s) → i ≡ (value_in 255) v → at3 ≡ next_place s at2
    → p ≡ values_of (value_in 255) 8 (words_at s at3) → words_at s at4 ≡ drop 8 (words_at s at3) → n ≡ values_of whole_in SLOTS (words_at s at4)
    → ◌≡◌ {A = Record} (record { cat = c; items = i; parts = p; numbers = n }) (record_in (words_at s at))
unfolding record_in
record_taken s at at4 {at2 = at2} {at3 = at3} ew ec e2 ev ei e3 ep e4 en =
    let r2 : words_at s at2 ≡ drop 1 (words_at s at) = ap (words_at s) e2 ∙ sym (rest_at s at) in
    let r3 : words_at s at3 ≡ drop 1 (drop 1 (words_at s at)) = ap (words_at s) e3 ∙ sym (rest_at s at2) ∙ ap (drop 1) r2 in
    let ec2 = ec ∙ ap (value_in 255) (ew ∙ word_at s at) in
    let ei2 = ei ∙ ap (value_in 255) (ev ∙ word_at s at2 ∙ ap (λ ws. nth ws 0) r2) in
    let ep2 = ep ∙ ap (values_of (value_in 255) 8) r3 in
    let en2 = en ∙ ap (values_of whole_in SLOTS) (e4 ∙ ap (drop 8) r3) in
    rw (ec2, ei2, ep2, en2) refl

-- ---- of `record_at`

-- of a line that a request can be
pub record_short : (line : List ℕ) (at : ℕ) → length line ≤ 16_384 → record_in (words_at line at) ≡ record_at line at
unfolding record_at
record_short line at h = ap (λ s. record_in (words_at s at)) (sym (take_all 16_384 line h))
