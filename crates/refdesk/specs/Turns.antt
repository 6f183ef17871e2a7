-- What is held of the input between two reads, and the laws of the loop over the octets of a read.
use Rattle.std.specs.Prelude.{◌≡◌, Bool, true, false, Option, None, Some, Result, OnOk, ℕ, ◌+◌, ◌-◌, ◌≤◌, ◌<◌, max, length}
use Rattle.std.proofs.Math.Path.{refl, sym, ap}
use Rattle.std.proofs.Common.{◌∙◌, arith, subst, drop-drop}
use Rattle.std.proofs.Math.Nat.{le-max_right}
use mathlib.Core.List.{List, []}
use Rattle.std.proofs.Math.ListN.{drop, length-drop, drop_of_length-le}
use Rattle.lines.specs.Lines.{left}
use Rattle.lines.specs.Joining.{Joined, joined as joined_by, join_of, line_after, Joins}
use Rattle.lines.specs.Laws.Lines.{Holds, holds_none, join_ends, join-goes_on, place_further, place_within, ends_at_octet}

-- taking in the octets of a read: the array that held a line then holds what is left behind those octets, unless the program ends
abbrev pub Takes : {T E : Type 0} → List ℕ → ℕ → List ℕ → Result T E → ℕ → List ℕ → Type 0
Takes s n array r n' array' = (h : List ℕ) → Holds array n h → OnOk r (Holds array' n' (left h s))

-- ---- within a read: the array holds a line, and behind the octets s that are not yet taken the rest will be left

pub record Since (array : List ℕ) (n : ℕ) (s rest : List ℕ) : Type 0 where
  pub line : List ℕ
  pub holds : Holds array n line
  pub same : rest ≡ left line s

-- each turn takes an octet
pub further : (octets : List ℕ) (at n : ℕ) (array : List ℕ) {array' : List ℕ} {j : Joined} → Joins octets at n array j array' → at < length octets → at < j.at
further octets at n array x h =
    omega (arith, ap (λ (k : Joined). k.at) x.0, place_further (length array) (drop at octets) n at (omega (arith, length-drop at octets)))

module _ (octets : List ℕ) (at n : ℕ) {array array' rest : List ℕ} {j : Joined} (x : Joins octets at n array j array') (y : Since array n (drop at octets) rest) where
  joined : j ≡ join_of 16_385 (drop at octets) n at
  joined = x.0 ∙ ap (λ r. join_of r (drop at octets) n at) y.holds.room

  array_is : array' ≡ line_after 16_385 (drop at octets) n array
  array_is = x.1 ∙ ap (λ r. line_after r (drop at octets) n array) y.holds.room

  ended_is : {b : Bool} → j.ended ≡ b → (join_of 16_385 (drop at octets) n at).ended ≡ b
  ended_is e = ap (λ (k : Joined). k.ended) (sym joined) ∙ e

  place_is : (join_of 16_385 (drop at octets) n at).at ≡ j.at
  place_is = ap (λ (k : Joined). k.at) (sym joined)

  -- the line was answered, and none is held
  pub since_line : j.ended ≡ true → {r : ℕ} → r ≡ 0 → at < length octets → Since array' r (drop j.at octets) rest
  since_line e er h =
      let g = join_ends (drop at octets) y.holds at (ended_is e) in
      let p : at + (j.at - at) ≡ j.at = omega (arith, further octets at n array x h) in
      let d : drop ((join_of 16_385 (drop at octets) n at).at - at) (drop at octets) ≡ drop j.at octets =
      ap (λ k. drop (k - at) (drop at octets)) place_is ∙ drop-drop (j.at - at) at octets ∙ ap (λ k. drop k octets) p in record {
        line = [];
        holds = rw er (holds_none array' (ap length array_is ∙ g.stands.room));
        same = y.same ∙ g.rest ∙ ap (left []) d;
      }

  -- no line ended, and all octets are taken
  pub since_none : j.ended ≡ false → Since array' j.held (drop j.at octets) rest
  unfolding left
  since_none e =
      let g = join-goes_on (drop at octets) y.holds at (ended_is e) in
      let d : drop j.at octets ≡ [] = drop_of_length-le octets {i = j.at} (omega (arith, g.all, place_is, length-drop at octets)) in record {
        line = left y.line (drop at octets);
        holds = rw (array_is, ap (λ (k : Joined). k.held) joined) g.stands;
        same = y.same ∙ sym (ap (left (left y.line (drop at octets))) d);
      }

pub since_all : (octets : List ℕ) (at : ℕ) → length octets ≤ at → {array rest : List ℕ} {n : ℕ} → Since array n (drop at octets) rest → Holds array n rest
unfolding left
since_all octets at h {array} {rest} {n} y =
    let e : left y.line (drop at octets) ≡ y.line = ap (left y.line) (drop_of_length-le octets {i = at} h) in
    rw (y.same ∙ e) y.holds

-- ---- a turn: at is the place of the octets s of the read from which on they are not yet taken

-- each turn takes an octet, and no more than there are
pub taken_within : (s array : List ℕ) (at n held next : ℕ) {array' : List ℕ} → Joins s at n array (record { at = next; held = held; ended = true }) array' → (at < next) × (next ≤ length s)
taken_within s array at n held next x =
    let e : next ≡ (join_of (length array) (drop at s) n at).at = ap (λ (k : Joined). k.at) x.0 in
    let some = ends_at_octet (length array) (drop at s) n at (ap (λ (k : Joined). k.ended) (sym x.0)) in
    (omega (arith, e, place_further (length array) (drop at s) n at some), omega (arith, e, some, length-drop at s, place_within (length array) (drop at s) n at))

module _ (s : List ℕ) (at n n' : ℕ) (r : Option ℕ) {array array' rest : List ℕ} (x : Joins s at n array (joined_by (max at (length s)) n' r) array') (y : Since array n (drop at s) rest) where
  result_is : {q : Option ℕ} → r ≡ q → Joins s at n array (joined_by (max at (length s)) n' q) array'
  result_is e = subst (λ q. Joins s at n array (joined_by (max at (length s)) n' q) array') e x

  pub line_answered : (next : ℕ) → r ≡ Some next → Since array' 0 (drop next s) rest
  line_answered next e =
      let t = taken_within s array at n n' next (result_is e) in
      since_line s at n (result_is e) y refl refl (omega (arith, t))

  pub all_taken : r ≡ None → Holds array' n' rest
  all_taken e = since_all s (max at (length s)) (le-max_right at (length s)) (since_none s at n (result_is e) y refl)
