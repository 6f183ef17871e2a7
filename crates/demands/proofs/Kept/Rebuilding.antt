-- 02, Ask 6 of the defined program: the sheets of fields come back, and every other text is refused at its line.
use Rattle.std.specs.Prelude.{◌≡◌, refl, ◌≢◌, Bool, true, false, List, [], ◌∷◌, ◌++◌, ℕ, suc, ◌+◌, ◌≤◌, T, eqb, leb, length, take, drop}
use Rattle.std.proofs.Common.{sym, ◌∙◌, subst, arith, le-leb, eqb-true, length-append, drop_at}
use Rattle.std.proofs.Math.Path.{ap}
use Rattle.std.proofs.lemmas.Bool.{lt-leb}
use Rattle.std.proofs.lemmas.List.{drop-append-le}
use Rattle.std.proofs.Math.Seq.{take-append_seam}
use Rattle.codec.specs.Pick.{pick}
use Rattle.codec.specs.Codec.{Octets}
use Rattle.codec.specs.Frame.{Outcome, accepted, refused}
use Rattle.codec.specs.Meaning.{len_of}
use Rattle.papers.specs.Names.{text}
use Rattle.layout.specs.declared.Record.{Record}
use Rattle.layout.specs.Answer.{Reading, Accepted}
use Rattle.layout.specs.Laws.Answer.{Refused≢Accepted}
use Rattle.scope.specs.Outputs.{answer_of, after}
use Rattle.scope.specs.Sheet.{sheet_of}
use Rattle.scope.specs.Rebuilding.{are_lines, category_given, octets_given, Right, long, line_wrong, length_wrong, no_room}
use Rattle.guess.proofs.Laws.Fits.{feeds, feeds-append}
use Rattle.guess.specs.Guess.{rebuild_of}
use Rattle.guess.proofs.Laws.Wrong.{lines_feeds}
use Rattle.guess.proofs.Laws.Rebuilt as rebuilt
use Rattle.demands.specs.Terms.{IsField, handed_out}
use Rattle.demands.specs.Leftovers.{Nowhere}
use Rattle.demands.specs.Rebuilding.{refused_at, Printed, Agrees, IsSheet, Kind, too_long, a_sheet, but_length, wrong_line, Rebuilding}
use Rattle.demands.specs.Defined.{handed, program}
use Rattle.demands.proofs.Kept.Fields.{is_field_accepted, fault_refused}

-- ---- what is handed out

module _ (t out : List ℕ) where
  refusal_given : {n k : ℕ} → rebuild_of t (length out) ≡ refused n k → program.rebuild t out ≡ refused_at n k out
  unfolding category_given octets_given answer_of after
  refusal_given e = ap (λ x. (category_given x, handed (octets_given x) out)) e

  field_given : (cat : ℕ) (b : List ℕ) → rebuild_of t (length out) ≡ accepted (cat, b) → program.rebuild t out ≡ (cat, handed_out b out)
  unfolding category_given octets_given answer_of after
  field_given cat b e = ap (λ x. (category_given x, handed (octets_given x) out)) e

-- ---- a field

module _ (cat : ℕ) (s : List ℕ) (f : Record) (o : Octets s) (h : IsField cat s f) (room : ℕ) where
  back : rebuild_of (sheet_of (cat ∷ s)) room ≡ pick (leb (len_of s) room) (accepted (cat, take (len_of s) s)) (refused 11 0)
  back = rebuilt.sheet_back room cat s o (len_of s) (ap (λ (r : Reading). r.answer) (is_field_accepted cat s o f h))

-- ---- what was accepted

accepted_sheet : (t out : List ℕ) (n : ℕ) → (program.rebuild t out).1.0 ≡ Accepted n → IsSheet program t (program.rebuild t out).0 (take n (program.rebuild t out).1.1)
unfolding category_given octets_given answer_of after Right
accepted_sheet t out n = go (rebuild_of t (length out)) (rebuilt.right_answer t (length out))
  where
    go : (x : Outcome (ℕ × List ℕ)) → rebuilt.Right t (length out) x → answer_of (octets_given x) ≡ Accepted n → IsSheet program t (category_given x) (take n (after (octets_given x) out))
    go (accepted (cat, b)) (is, fits) e = let l : length b ≡ n = cc in subst (IsSheet program t cat) (sym (ap (λ m. take m (b ++ drop (length b) out)) (sym l) ∙ take-append_seam b (drop (length b) out))) is
    go (refused m k) r e = absurd (Refused≢Accepted e)

not_accepted : (t out : List ℕ) → ((x : ℕ × List ℕ) → rebuild_of t (length out) ≡ accepted x → ⊥) → (m : ℕ) → (program.rebuild t out).1.0 ≢ Accepted m
unfolding octets_given answer_of
not_accepted t out never m = go (rebuild_of t (length out)) never
  where
    go : (x : Outcome (ℕ × List ℕ)) → ((y : ℕ × List ℕ) → x ≡ accepted y → ⊥) → answer_of (octets_given x) ≢ Accepted m
    go (accepted x) n h = n x refl
    go (refused j k) n h = absurd (Refused≢Accepted h)

-- ---- lines, and texts without a line feed

nowhere-feeds : (t : List ℕ) → Nowhere (text "\n") t → feeds t ≡ 0
unfolding feeds
nowhere-feeds [] n = refl
nowhere-feeds (o ∷ t) n = go (eqb o 10) refl (nowhere-feeds t (λ before behind x. n (o ∷ before) behind (ap (o ∷◌) x)))
  where
    go : (b : Bool) → eqb o 10 ≡ b → feeds t ≡ 0 → pick b (suc (feeds t)) (feeds t) ≡ 0
    go true e z = absurd (n [] t (ap (◌∷ t) (eqb-true o 10 e)))
    go false e z = z

lines_feeds_in : (k : ℕ) (lines rest : List ℕ) → T (are_lines k lines) → Nowhere (text "\n") rest → feeds (lines ++ rest) ≡ k
lines_feeds_in k lines rest h n = omega (arith, feeds-append lines rest, lines_feeds lines k h, nowhere-feeds rest n)

-- what stands last in a text stands last in each end of it
last_in : (a : List ℕ) (o : ℕ) (r before : List ℕ) → a ++ (o ∷ r) ≡ before ++ (10 ∷ []) → o ∷ r ≡ drop (length a) before ++ (10 ∷ [])
last_in a o r before e =
    let n : length a + suc (length r) ≡ length before + 1 = sym (length-append a (o ∷ r)) ∙ ap length e ∙ length-append before (10 ∷ []) in
    sym (drop_at a (o ∷ r) (length a) refl) ∙ ap (drop (length a)) e ∙ drop-append-le (length a) before (10 ∷ []) (omega arith)

no_last : (lines : List ℕ) (o : ℕ) (rest : List ℕ) → Nowhere (text "\n") (o ∷ rest) → Printed program (lines ++ (o ∷ rest)) → ⊥
no_last lines o rest n p =
    let e = rebuilt.printed_ends (lines ++ (o ∷ rest)) p in
    n (drop (length lines) e.0) [] (last_in lines o rest e.0 e.1)

unfed : (k : ℕ) (lines : List ℕ) (o : ℕ) (rest out : List ℕ) → T (are_lines k lines) → Nowhere (text "\n") (o ∷ rest) → Agrees program (lines ++ (o ∷ rest)) k → length (lines ++ (o ∷ rest)) ≤ 32_768
    → program.rebuild (lines ++ (o ∷ rest)) out ≡ refused_at 18 (suc k) out
unfed k lines o rest out h n a r =
    let t : List ℕ = lines ++ (o ∷ rest) in
    let e : feeds t ≡ k = lines_feeds_in k lines (o ∷ rest) h n in
    refusal_given t out (rebuilt.stops t (length out) r (no_last lines o rest n) (subst (Agrees program t) (sym e) a) ∙ ap (λ j. refused 18 (suc j)) e)

-- ---- every text

kind : (t : List ℕ) → Kind program t
unfolding Right
kind t = go (rebuild_of t 0) (rebuilt.right_answer t 0)
  where
    of_refusal : {n k : ℕ} → rebuilt.Refusal t 0 n k → Kind program t
    of_refusal (long h) = too_long h
    of_refusal (line_wrong h np k a na) = wrong_line h np k (record { before = a; here = na })
    of_refusal (length_wrong q e) = but_length q e
    of_refusal (no_room cat b s h) = a_sheet cat b s

    go : (x : Outcome (ℕ × List ℕ)) → rebuilt.Right t 0 x → Kind program t
    go (accepted x) h = a_sheet x.0 x.1 h.0
    go (refused n k) h = of_refusal h

-- ---- all of it

pub rebuilding : Rebuilding program
rebuilding = record {
  sheets = λ cat s f o h out r. field_given (sheet_of (cat ∷ s)) out cat (take (len_of s) s) (back cat s f o h (length out) ∙ rw (le-leb (len_of s) (length out) r) refl);
  no_room = λ cat s f o h out r. refusal_given (sheet_of (cat ∷ s)) out (back cat s f o h (length out) ∙ rw (lt-leb (len_of s) (length out) r) refl);
  only_sheets = accepted_sheet;
  of_fault = λ cat s n q o f out. not_accepted (sheet_of (cat ∷ s)) out (rebuilt.refusal_refused cat s n q (fault_refused cat s o f) (length out));
  of_nothing = λ out. not_accepted (sheet_of []) out (rebuilt.nothing_refused (length out));
  long = λ t out h. refusal_given t out (rebuilt.too_long t (length out) h);
  other_length = λ t out q e. refusal_given t out (rebuilt.wrong_length (length out) t q e);
  line = λ t out h np k w. refusal_given t out (rebuilt.wrong_line t (length out) h np k w.before w.here);
  one_line = λ t np j k v w. rebuilt.one_line t np j k v.before v.here w.before w.here;
  every = kind;
  no_feed = unfed;
  stops = λ k lines rest o missing out h n p. refusal_given (lines ++ rest) out (rebuilt.cut_short (lines ++ rest) o missing (length out) p ∙ ap (λ j. refused 18 (suc j)) (lines_feeds_in k lines rest h n));
  goes_on = λ k lines o more out h p r. refusal_given (lines ++ (o ∷ more)) out (rebuilt.goes_on lines o more (length out) r p ∙ ap (λ n. refused 18 (suc n)) (lines_feeds lines k h));
}
