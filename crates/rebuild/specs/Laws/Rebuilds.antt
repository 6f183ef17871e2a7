-- What is printed for the comparison, what is written, and the ways out of `rebuild`.
use Rattle.std.specs.Prelude.{◌≡◌, Bool, true, false, ltb, leb, eqb, drop, Option, Some, None, Result, Ok, Err}
use Rattle.std.specs.Result.{result_unwrap_or}
use Rattle.compare.specs.Lines.{line_of}
use Rattle.std.proofs.Math.Path.{refl, ap, ap₂, subst}
use Rattle.std.proofs.Common.{sym, ◌∙◌, arith}
use mathlib.Core.List.{List, ◌∷◌, ◌++◌}
use Prim.Native.Nat.{ℕ, ◌+◌, ◌≤◌, ◌<◌}
use borrow.Author.Tests.{eq-eqb, ne_eqb, le-leb, ltb-true, ltb-false}
use Rattle.std.specs.Bool.{then_some}
use Rattle.std.proofs.Math.Dec.{T}
use Rattle.std.proofs.Math.ListN.{length, take, length-append, length-take, length-replicate}
use Rattle.std.proofs.Math.Seq.{take-length, take-append_seam}
use Rattle.codec.specs.Pick.{pick}
use Rattle.codec.specs.Codec.{Octets}
use Rattle.codec.specs.Field.{Contents}
use Rattle.codec.specs.Frame.{accepted, refused, write_frame}
use Rattle.codec.specs.Meaning.{len_of}
use Rattle.codec.proofs.Laws.Tests.{holds}
use Rattle.papers.specs.Names.{text}
use Rattle.papers.specs.Papers.{known, LONGEST}
use Rattle.layout.specs.declared.Record.{Record}
use Rattle.layout.specs.declared.Refusal.{Refusal}
use Rattle.layout.specs.Answer.{Reading, Answer, Refused, length_of, Rebuilding, by_number}
use Rattle.layout.specs.Record.{flatten}
use Rattle.scope.specs.Reading.{read_of}
use Rattle.scope.specs.Outputs.{with_room, answer_of, after, Leaves}
use Rattle.scope.specs.Writing.{writable, written, write_of, Wrote}
use Rattle.scope.specs.Sheet.{key_line, decimal, sheet_of}
use Rattle.scope.specs.Rebuilding.{category_given, octets_given}
use Rattle.scope.proofs.Laws.Reading.{read_then_write, kept_made, afresh_octets}
use Rattle.text.specs.declared.Text.{Text}
use Rattle.text.specs.Typing.{Types}
use Rattle.text.specs.Typed.{blank, Typed}
use Rattle.text.specs.Laws.Typing.{types_as, types_behind, typed_front}
use Rattle.text.specs.Laws.Decimals.{decimal_most}
use Rattle.longest.proofs.Laws.Longest.{sheet_longest}
use Rattle.guess.specs.Lines.{behind_feeds}
use Rattle.guess.proofs.Laws.Fits.{without}
use Rattle.guess.specs.Guess.{category_in, length_in, guess_of, behind_len, sheet_with, first_wrong, given_of, rebuild_of}
use Rattle.guess.proofs.Laws.Numbers.{decimal-clean}
use Rattle.guess.proofs.Laws.Whole.{field_in, category_in_lem, guess_okay}
use Rattle.guess.proofs.Laws.Rebuilt.{written_is, written_accepted, written_sheet, wrong_in, too_long, answered, line_length, behind_line, guess_short}
use Rattle.taken.specs.Items.{record_in}
use Rattle.rebuild.specs.Rebuilds.{Rebuilds, given_by}

-- ---- the way through `wrong`: the first two lines, and behind them what the sheet has behind its own

abbrev cat_line : ℕ → List ℕ
cat_line cat = key_line (text "cat") (decimal cat)

abbrev len_line : ℕ → List ℕ
len_line n = key_line (text "len") (decimal n)

module _ (cat n len : ℕ) (r : Contents) where
  exchanged : cat_line cat ++ (len_line len ++ behind_feeds 2 (sheet_with cat n r)) ≡ sheet_with cat len r
  unfolding sheet_with behind_feeds without
  exchanged =
      ap (λ x. cat_line cat ++ (len_line len ++ x))
      (ap (behind_feeds 1) (behind_line (text "cat") (decimal cat) _ tt (decimal-clean cat)) ∙ behind_line (text "len") (decimal n) _ tt (decimal-clean n))

  -- it has no more octets than the digits of a number
  exchanged-length : length (sheet_with cat len r) ≤ length (sheet_with cat n r) + 20
  unfolding sheet_with
  exchanged-length =
      let tail : List ℕ = behind_len cat r in
      let e : (m : ℕ) → length (cat_line cat ++ (len_line m ++ tail)) ≡ length (cat_line cat) + (length (len_line m) + length tail)
      = λ m. length-append (cat_line cat) (len_line m ++ tail) ∙ ap (length (cat_line cat) +◌) (length-append (len_line m) tail) in
      omega (arith, e n, e len, line_length (text "len") (decimal n), line_length (text "len") (decimal len), decimal_most len)

pub wrong_is : (cat len : ℕ) (s t : List ℕ) → Octets (cat ∷ s) → {b m1 m2 m3 w : List ℕ} {second third last : ℕ} → length b ≡ 4_096 → Types (cat_line cat) b 0 m1 second → Types (len_line len) m1 second m2 third
    → w ≡ behind_feeds 2 (sheet_of (cat ∷ s)) → Types w m2 third m3 last → {k : ℕ} → k ≡ first_wrong 1 (take last m3) t
    → (n : ℕ) (r : Contents) → sheet_of (cat ∷ s) ≡ sheet_with cat n r → k ≡ first_wrong 1 (sheet_with cat len r) t
wrong_is cat len s t o {w = w} eb a c ew d ek n r e =
    let short : length (sheet_with cat len r) ≤ 4_096 = omega (arith, exchanged-length cat n len r, ap length (sym e), sheet_longest (cat ∷ s) o) in
    let x : cat_line cat ++ (len_line len ++ w) ≡ sheet_with cat len r = ap (λ u. cat_line cat ++ (len_line len ++ u)) (ew ∙ ap (behind_feeds 2) e) ∙ exchanged cat n len r in
    ek ∙ ap (λ u. first_wrong 1 u t) (typed_front (sheet_with cat len r) short eb (types_as x (types_behind a (types_behind c d)))).1

-- of a text that was blank
pub wrong_typed : (cat len : ℕ) (s t : List ℕ) → Octets (cat ∷ s) → {b m1 m2 m3 : Text} {w x : List ℕ} → b ≡ blank → Typed (cat_line cat) b m1 → Typed (len_line len) m1 m2
    → w ≡ behind_feeds 2 (sheet_of (cat ∷ s)) → Typed w m2 m3 → x ≡ take m3.end m3.octets
    → (n : ℕ) (r : Contents) → sheet_of (cat ∷ s) ≡ sheet_with cat n r → first_wrong 1 x t ≡ first_wrong 1 (sheet_with cat len r) t
unfolding blank
wrong_typed cat len s t o {m1 = m1} eb a c ew d ex =
    let a' = subst (λ (b : Text). Types (cat_line cat) b.octets b.end m1.octets m1.end) eb a in
    wrong_is cat len s t o (length-replicate {A = ℕ} 4_096 0) a' c ew d (ap (λ u. first_wrong 1 u t) ex)

-- ---- the octets that are written

abbrev IsNo : Option ℕ → Type 0
IsNo None = Unit {0}
IsNo (Some x) = ⊥

-- the octets that an answer counts, 0 where it is a refusal
pub octets_in : (a : Result ℕ Refusal) → result_unwrap_or a 0 ≡ length_of (by_number a)
unfolding length_of
octets_in (Ok n) = refl
octets_in (Err r) = refl

-- the line that code gives, where it gives one
pub line_some : (k : ℕ) {j : ℕ} → line_of k ≡ Some j → (j ≡ k) × (j ≡ 0 → ⊥)
line_some k {j} e = go (ltb 0 k) refl e
  where
    go : (b : Bool) → ltb 0 k ≡ b → then_some b k ≡ Some j → (j ≡ k) × (j ≡ 0 → ⊥)
    go true t h = let z : k ≡ j = cc in (sym z, λ y. omega (arith, z, y, ltb-true 0 k t))
    go false t h = absurd (subst IsNo h tt)

pub line_none : (k : ℕ) → line_of k ≡ None → k ≡ 0
line_none k e = go (ltb 0 k) refl e
  where
    go : (b : Bool) → ltb 0 k ≡ b → then_some b k ≡ None → k ≡ 0
    go true t h = absurd (subst IsNo (sym h) tt)
    go false t h = omega (arith, ltb-false 0 k t)

module _ (t : List ℕ) where
  pub guess_category : (record_in t).cat ≡ category_in t
  unfolding record_in flatten
  guess_category = refl

  -- a field reads to the record of the guess, so that it is written
  guess_written : (room : ℕ) → length (field_in t) ≤ room → write_of (record_in t) room ≡ accepted (field_in t)
  unfolding write_of with_room record_in write_frame len_of
  guess_written room h =
      let cat : ℕ = category_in t in
      let k : T (known cat) = category_in_lem t in
      let o = guess_okay t in
      let e : (read_of cat (field_in t)).kept ≡ record_in t = ap (λ (x : Reading). x.kept) (kept_made cat (field_in t) (guess_of t) (holds (known cat) k) (written_is cat k (guess_of t) o)) in
      let w = read_then_write cat (field_in t) (afresh_octets cat (guess_of t) o) (length (field_in t)) (written_accepted cat k (guess_of t) o) in
      let f : written (record_in t) ≡ field_in t = ap written (sym e) ∙ w.1 ∙ take-length (field_in t) in
      rw (ap known guess_category ∙ holds (known cat) k, holds (writable (record_in t)) (subst (λ x. T (writable x)) e w.0), f, le-leb (length (field_in t)) room h) refl

  -- what the writer then answers and leaves in an array
  pub octets_written : {kept : Record} → kept ≡ record_in t → {l m : List ℕ} {a : Answer} → length l ≡ LONGEST → Wrote kept l a m → {n : ℕ} → n ≡ length_of a → (n ≡ length (field_in t)) × (take n m ≡ field_in t) × (n ≤ length m)
  unfolding answer_of after length_of
  octets_written ek {l} {m} {a} el w {n} en =
      let f : write_of (record_in t) (length l) ≡ accepted (field_in t) = guess_written (length l) (omega (arith, el, guess_short t)) in
      let g = subst (λ o. Leaves o l a m) (ap (λ x. write_of x (length l)) ek ∙ f) w in
      let e : n ≡ length (field_in t) = en ∙ ap length_of g.answer in
      let d : take n m ≡ field_in t = ap₂ take e g.output ∙ take-append_seam (field_in t) (drop (length (field_in t)) l) in
      (e, d, omega (arith, e, ap length d, length-take n m))

  -- the field's sheet is that of the guess
  pub octets_sheet : sheet_of (category_in t ∷ field_in t) ≡ sheet_with (category_in t) (length (field_in t)) (guess_of t)
  octets_sheet = written_sheet (category_in t) (category_in_lem t) (guess_of t) (guess_okay t)

  -- so the comparison with that sheet, its length exchanged, tells which line is wrong
  pub wrong_told : {kept : Record} → kept ≡ record_in t → {s : List ℕ} → s ≡ field_in t → {len : ℕ} → len ≡ length_in t → {x : Option ℕ}
      → ((n : ℕ) (r : Contents) → sheet_of (kept.cat ∷ s) ≡ sheet_with kept.cat n r → x ≡ line_of (first_wrong 1 (sheet_with kept.cat len r) t)) → x ≡ line_of (wrong_in t)
  unfolding wrong_in
  wrong_told {kept} ek {s} es {len} el {x} w =
      let ec : kept.cat ≡ category_in t = ap (λ (f : Record). f.cat) ek ∙ guess_category in
      w (length (field_in t)) (guess_of t) (ap₂ (λ y u. sheet_of (y ∷ u)) ec es ∙ octets_sheet ∙ ap (λ y. sheet_with y (length (field_in t)) (guess_of t)) (sym ec))
      ∙ ap₂ (λ y m. line_of (first_wrong 1 (sheet_with y m (guess_of t)) t)) ec el

  -- ---- the ways out of `rebuild`

  module _ (out : List ℕ) where
    refused_by_lem : (n k : ℕ) → rebuild_of t (length out) ≡ refused n k → Rebuilds t out (record { cat = 0; answer = Refused n k }) out
    unfolding category_given octets_given answer_of after
    refused_by_lem n k e = record { category = ap category_given (sym e); leaves = record { answer = ap (λ o. answer_of (octets_given o)) (sym e); output = ap (λ o. after (octets_given o) out) (sym e) } }

    pub rebuild_long : 32_768 < length t → Rebuilds t out (record { cat = 0; answer = Refused 18 0 }) out
    rebuild_long h = refused_by_lem 18 0 (too_long t (length out) h)

    module _ (short : length t ≤ 32_768) where
      module _ {w : ℕ} (ew : w ≡ wrong_in t) where
        pub rebuild_line : (w ≡ 0 → ⊥) → Rebuilds t out (record { cat = 0; answer = Refused 18 w }) out
        unfolding given_of
        rebuild_line h = refused_by_lem 18 w (answered t (length out) short ∙ ap (λ j. given_of j (category_in t) (length_in t) (field_in t) (length out)) (sym ew) ∙ rw (ne_eqb w 0 h) refl)

        module _ (z : w ≡ 0) {len n : ℕ} (el : len ≡ length_in t) (en : n ≡ length (field_in t)) where
          right : given_of (wrong_in t) (category_in t) (length_in t) (field_in t) (length out) ≡ pick (eqb len n) (pick (leb (length (field_in t)) (length out)) (accepted (category_in t, field_in t)) (refused 11 0)) (refused 18 2)
          unfolding given_of
          right =
              ap (λ j. given_of j (category_in t) (length_in t) (field_in t) (length out)) (sym ew ∙ z)
              ∙ ap₂ (λ i j. pick (eqb i j) (pick (leb (length (field_in t)) (length out)) (accepted (category_in t, field_in t)) (refused 11 0)) (refused 18 2)) (sym el) (sym en)

          pub rebuild_length : (len ≡ n → ⊥) → Rebuilds t out (record { cat = 0; answer = Refused 18 2 }) out
          rebuild_length h = refused_by_lem 18 2 (answered t (length out) short ∙ right ∙ rw (ne_eqb len n h) refl)

          pub rebuild_given : len ≡ n → {cat : ℕ} {b out' : List ℕ} {a : Answer} {r : Rebuilding} → cat ≡ category_in t → b ≡ field_in t → Leaves (with_room (length out) b) out a out' → r ≡ given_by cat a → Rebuilds t out r out'
          unfolding with_room category_given octets_given answer_of after given_by
          rebuild_given h {cat} {b} {out'} {a} {r} ec eb g er = go (leb (length (field_in t)) (length out)) refl
            where
              e : rebuild_of t (length out) ≡ pick (leb (length (field_in t)) (length out)) (accepted (category_in t, field_in t)) (refused 11 0)
              e = answered t (length out) short ∙ right ∙ rw (eq-eqb len n h) refl

              go : (x : Bool) → leb (length (field_in t)) (length out) ≡ x → Rebuilds t out r out'
              go x ex = made x (e ∙ ap (λ y. pick y (accepted (category_in t, field_in t)) (refused 11 0)) ex)
                  (subst (λ o. Leaves o out a out') (ap (with_room (length out)) eb ∙ ap (λ y. pick y (accepted (field_in t)) (refused 11 0)) ex) g)
                where
                  made : (x : Bool) → rebuild_of t (length out) ≡ pick x (accepted (category_in t, field_in t)) (refused 11 0) → Leaves (pick x (accepted (field_in t)) (refused 11 0)) out a out' → Rebuilds t out r out'
                  made true f l = record {
                    category = ap (λ (y : Rebuilding). y.cat) (er ∙ ap₂ given_by ec l.answer) ∙ ap category_given (sym f);
                    leaves = record { answer = ap (λ (y : Rebuilding). y.answer) (er ∙ ap (given_by cat) l.answer) ∙ ap (λ o. answer_of (octets_given o)) (sym f); output = l.output ∙ ap (λ o. after (octets_given o) out) (sym f) };
                  }
                  made false f l = record {
                    category = ap (λ (y : Rebuilding). y.cat) (er ∙ ap (given_by cat) l.answer) ∙ ap category_given (sym f);
                    leaves = record { answer = ap (λ (y : Rebuilding). y.answer) (er ∙ ap (given_by cat) l.answer) ∙ ap (λ o. answer_of (octets_given o)) (sym f); output = l.output ∙ ap (λ o. after (octets_given o) out) (sym f) };
                  }
