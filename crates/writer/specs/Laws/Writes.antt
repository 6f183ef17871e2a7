-- What `write` answers and leaves: the field of a record in front of the output, or the output as it was.
use Rattle.std.specs.Prelude.{◌≡◌, Bool, List, ℕ, ◌≤◌}
use Rattle.std.proofs.Math.Path.{refl, ap, subst}
use Rattle.std.proofs.Common.{sym, ◌∙◌, arith, length-take}
use Rattle.std.proofs.Math.Bool.{true, false}
use Rattle.std.proofs.Math.Dec.{T}
use Rattle.std.proofs.Math.ListN.{length, take}
use Rattle.codec.specs.Pick.{pick}
use Rattle.codec.specs.Frame.{accepted, refused}
use Rattle.papers.specs.Papers.{known}
use Rattle.layout.specs.declared.Record.{Record}
use Rattle.layout.specs.Answer.{Answer, Accepted, Refused}
use Rattle.scope.specs.Writing.{writable, written, write_of, Wrote}
use Rattle.scope.specs.Outputs.{with_room, answer_of, after, Leaves}
use Rattle.layout.specs.Laws.Answer.{Refused≢Accepted, Accepted≢Refused}
use Rattle.writer.specs.Checked.{Checked}

-- ---- the ways out of `write`

-- 1 for a category that is not known
pub wrote_unknown : (f : Record) (out : List ℕ) → known f.cat ≡ false → Wrote f out (Refused 1 0) out
unfolding write_of answer_of after
wrote_unknown f out k = record { answer = rw k refl; output = rw k refl }

module _ (f : Record) (k : known f.cat ≡ true) {a : Answer} {octets : List ℕ} (c : Checked f a octets) where
  -- a record that no field reads to
  wrote_not : (out : List ℕ) → writable f ≡ false → Wrote f out a out
  unfolding write_of answer_of after
  wrote_not out e = record { answer = c.answer ∙ rw (k, e) refl; output = rw (k, e) refl }

  -- 10 goes on
  pub wrote_refused : (out : List ℕ) {n p : ℕ} → a ≡ Refused n p → Wrote f out a out
  unfolding answer_of
  wrote_refused out {n} {p} ea = go (writable f) refl (sym ea ∙ c.answer)
    where
      go : (b : Bool) → writable f ≡ b → Refused n p ≡ answer_of (pick b (accepted (written f)) (refused 10 0)) → Wrote f out a out
      go true e h = Refused≢Accepted h
      go false e h = wrote_not out e

  module _ {n : ℕ} (ea : a ≡ Accepted n) where
    -- the number is the length of its field
    long_is : (writable f ≡ true) × (n ≡ length (written f))
    unfolding answer_of
    long_is = go (writable f) refl (sym ea ∙ c.answer)
      where
        go : (b : Bool) → writable f ≡ b → Accepted n ≡ answer_of (pick b (accepted (written f)) (refused 10 0)) → (writable f ≡ true) × (n ≡ length (written f))
        go true e h = (e, cc)
        go false e h = Accepted≢Refused h

    -- the field stands there whole
    pub stands_whole : (n ≤ length octets) × (n ≡ length (take n octets))
    stands_whole =
        let front : take n octets ≡ written f = ap (λ m. take m octets) long_is.1 ∙ c.front (subst T (sym long_is.0) tt) in
        let e : n ≡ length (take n octets) = long_is.1 ∙ ap length (sym front) in
        (omega (arith, length-take n octets, e), e)

    -- its field is delivered
    pub wrote_all : {s out out' : List ℕ} {b : Answer} → s ≡ take n octets → Leaves (with_room (length out) s) out b out' → Wrote f out b out'
    unfolding write_of
    wrote_all {s} {out} {out'} {b} es d =
        let front : s ≡ written f = es ∙ ap (λ m. take m octets) long_is.1 ∙ c.front (subst T (sym long_is.0) tt) in
        let o : with_room (length out) s ≡ write_of f (length out) = ap (with_room (length out)) front ∙ rw (k, long_is.0) refl in
        subst (λ x. Leaves x out b out') o d
