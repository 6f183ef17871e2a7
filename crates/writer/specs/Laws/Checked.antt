-- What laying a record and reading it back tells.
use Rattle.std.specs.Prelude.{◌≡◌, Bool, ℕ, length, take, drop}
use Rattle.std.proofs.Math.Path.{refl, ap, subst}
use Rattle.std.proofs.Common.{sym, ◌∙◌, take-append-drop}
use Rattle.std.proofs.Math.Bool.{true, false}
use mathlib.Core.List.{List, ◌++◌}
use Rattle.std.proofs.Math.Dec.{T}
use Rattle.std.proofs.Math.Seq.{take-append_seam}
use Rattle.codec.specs.Codec.{Octets}
use Rattle.codec.proofs.Laws.Tests.{holds}
use Rattle.papers.specs.Papers.{known}
use Rattle.layout.specs.declared.Record.{Record}
use Rattle.layout.specs.Answer.{Reading, Answer, Accepted, Refused}
use Rattle.scope.specs.Reading.{no_record, read_of}
use Rattle.scope.specs.Writing.{writable, written}
use Rattle.scope.specs.Outputs.{answer_of}
use Rattle.scope.proofs.Laws.Reading.{read_then_write, write_then_read}
use Rattle.scope.proofs.Laws.Refusals.{refused_zeros}
use Rattle.writer.specs.Frames.{Laid}
use Rattle.writer.specs.Checked.{Checked, ReadBack}

-- octets that read to a record of a known category are accepted: "A refused read gives a record of zeros"
not_refused : (cat : ℕ) (s : List ℕ) (n p : ℕ) → known (read_of cat s).kept.cat ≡ true → (read_of cat s).answer ≡ Refused n p → ⊥
unfolding no_record known
not_refused cat s n p k e = subst T (sym (ap (λ (f : Record). known f.cat) (sym (refused_zeros cat s n p e)) ∙ k)) tt

-- ---- the ways out of `reads_back`

module _ (f : Record) (k : known f.cat ≡ true) {s : List ℕ} {r : Reading} (er : r ≡ read_of f.cat s) where
  -- a field that stands in front is read to its record
  again : T (writable f) → (rest : List ℕ) → s ≡ written f ++ rest → r ≡ record { answer = Accepted (length (written f)); kept = f }
  again w rest e = er ∙ ap (read_of f.cat) e ∙ write_then_read f (subst T (sym k) tt) w rest

  -- and is what `checked` promises
  stands : T (writable f) → (rest : List ℕ) → s ≡ written f ++ rest → Checked f r.answer s
  unfolding answer_of
  stands w rest e = record {
    answer = ap (λ (x : Reading). x.answer) (again w rest e) ∙ rw (holds (writable f) w) refl;
    front = λ _. ap (take (length (written f))) e ∙ take-append_seam (written f) rest;
  }

  -- what reads back to the record is its field
  pub back_same : Octets s → r.kept ≡ f → ReadBack f s r.answer
  back_same o e = record { checked = λ _. go (read_of f.cat s).answer refl }
    where
      back : (read_of f.cat s).kept ≡ f
      back = ap (λ (x : Reading). x.kept) (sym er) ∙ e

      go : (a : Answer) → (read_of f.cat s).answer ≡ a → Checked f r.answer s
      go (Accepted n) ea =
          let w : T (writable f) × (written f ≡ take n s) = subst (λ g. T (writable g) × (written g ≡ take n s)) back (read_then_write f.cat s o n ea) in
          stands w.0 (drop n s) (sym (take-append-drop n s) ∙ ap (◌++ drop n s) (sym w.1))
      go (Refused n p) ea = absurd (not_refused f.cat s n p (ap (λ (g : Record). known g.cat) back ∙ k) ea)

  -- where what was laid does not, no field reads to the record
  pub back_other : (r.kept ≡ f → ⊥) → ReadBack f s (Refused 10 0)
  unfolding answer_of
  back_other h = record { checked = λ l. go l (writable f) refl }
    where
      go : {before : List ℕ} → Laid f before s → (b : Bool) → writable f ≡ b → Checked f (Refused 10 0) s
      go {before} l true e =
          let w : T (writable f) = subst T (sym e) tt in
          absurd (h (ap (λ (x : Reading). x.kept) (again w (drop (length (written f)) before) (l.front w))))
      go l false e = record { answer = rw e refl; front = λ w. absurd (subst T e w) }
