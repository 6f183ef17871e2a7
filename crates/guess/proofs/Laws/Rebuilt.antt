-- What the answer says (02, Ask 6): sheets of accepted fields come back, what is given prints as the text, and every other text is refused at the line at which no printed sheet
-- could still agree with it, or at line 2 if only the length is wrong.
use Rattle.std.specs.Prelude.{◌≡◌, Bool, ◌&&◌, eqb, leb, get_or, take, drop}
use Rattle.std.proofs.Math.Path.{refl, sym, ap, subst}
use Rattle.std.proofs.Common.{◌∙◌, ltb→lt, length-append, drop_at}
use Rattle.std.proofs.Math.Bool.{true, false}
use mathlib.Core.List.{List, [], ◌∷◌, ◌++◌, append-nil, append_assoc}
use Prim.Native.Nat.{ℕ, zero, suc, ◌+◌, ◌≤◌, ◌<◌}
use native.Mathlib.Omega.{arith}
use borrow.Author.Tests.{eq-eqb, ne_eqb, eqb-true, eqb-false, le-leb, le-ltb, lt-ltb, ltb-true, ltb-false, leb-true, leb-false, lt-leb}
use Rattle.std.proofs.Math.Dec.{T, ltb, leb→le}
use Rattle.std.proofs.Math.ListN.{length}
use Rattle.std.proofs.Math.Seq.{take-length}
use Rattle.codec.specs.Pick.{pick}
use Rattle.codec.specs.Codec.{Octets}
use Rattle.codec.specs.Field.{Contents, body, flags}
use Rattle.codec.specs.Frame.{Outcome, accepted, refused, read_frame, write_frame, okay_frame}
use Rattle.codec.specs.Meaning.{len_of}
use Rattle.codec.proofs.Laws.Tests.{and_in, and_l, and_r, holds}
use Rattle.codec.proofs.Laws.Frame.{refused≢accepted}
use Rattle.codec.proofs.Laws.Longest.{field_size}
use Rattle.papers.specs.Names.{text, names_of}
use Rattle.papers.specs.Papers.{known, paper_of, LONGEST}
use Rattle.papers.proofs.Laws.Papers.{few_octets}
use Rattle.layout.specs.Answer.{number_of, place_of, length_of, Reading, Accepted}
use Rattle.scope.specs.Reading.{field_of, read_of}
use Rattle.scope.specs.Rebuilding.{long, line_wrong, length_wrong, no_room, category_given, octets_given}
use Rattle.scope.specs.Rebuilding as rebuilding
use Rattle.scope.specs.Outputs.{answer_of}
use Rattle.scope.proofs.Laws.Reading.{Read, read_found, read_made, kept_made, read_front, read_okay, afresh_read, afresh_octets}
use Rattle.scope.specs.Sheet.{key_line, decimal, items_text, row_text, refusal_text, field_text, sheet_of}
use Rattle.text.specs.Laws.Decimals.{decimal_most}
use Rattle.longest.specs.Longest.{longest_sheet}
use Rattle.longest.proofs.Laws.Longest.{sheet_longest}
use Rattle.guess.specs.Lines.{behind_feed}
use Rattle.guess.proofs.Laws.Fits.{without, behind_append, feeds, feeds-append}
use Rattle.guess.specs.Guess.{category_in, length_in, guess_of, behind_len, sheet_with, first_wrong, given_of, rebuild_of}
use Rattle.guess.proofs.Laws.Numbers.{line_has, line_behind, decimal-clean}
use Rattle.guess.proofs.Laws.Papers.{by-known}
use Rattle.guess.proofs.Laws.Whole.{Told, told_in, sheet_in, field_in, category_in_lem, length_in_lem, guess_okay, keep_sheet, sheet_told}
use Rattle.guess.proofs.Laws.Wrong.{through, through_shared, shared_same, Same, same_through, wrong_none, wrong_behind, wrong_self, wrong_through, lines_feeds, front_shared}

abbrev pub Printed : List ℕ → Type 0
Printed = rebuilding.Printed read_of

abbrev pub Agrees : List ℕ → ℕ → Type 0
Agrees = rebuilding.Agrees read_of

abbrev pub IsSheet : List ℕ → ℕ → List ℕ → Type 0
IsSheet = rebuilding.IsSheet read_of

abbrev pub Refusal : List ℕ → ℕ → ℕ → ℕ → Type 0
Refusal = rebuilding.Refusal read_of

abbrev pub Right : List ℕ → ℕ → Outcome (ℕ × List ℕ) → Type 0
Right = rebuilding.Right read_of

-- ---- the sheet of an accepted field

module _ {cat : ℕ} {s : List ℕ} {n : ℕ} (q : Read cat s n) where
  sheet_with_lem : sheet_of (cat ∷ s) ≡ sheet_with cat n q.what
  unfolding sheet_of field_text field_of sheet_with behind_len
  sheet_with_lem = rw (q.known_is, q.body_is, q.len_is) refl

  read_known : T (known cat)
  read_known = subst T (sym q.known_is) tt

cancel : (a x y : List ℕ) → a ++ x ≡ a ++ y → x ≡ y
cancel a x y e = sym (drop_at a x (length a) refl) ∙ ap (drop (length a)) e ∙ drop_at a y (length a) refl

module _ {s : List ℕ} (p : Printed s) where
  abbrev found : Read p.cat p.field p.n
  found = read_found p.cat p.field p.n p.accepted_is

  abbrev what : Contents
  what = (found).what

  printed_known : T (known p.cat)
  printed_known = read_known found

  printed_okay : T ((body (paper_of p.cat)).okay what)
  printed_okay = read_okay p.are_all_octets found

  printed_with : s ≡ sheet_with p.cat p.len what
  unfolding sheet_with
  printed_with =
      let a : List ℕ = key_line (text "cat") (decimal p.cat) in
      let b : List ℕ = key_line (text "len") (decimal p.n) in
      let tail : List ℕ = behind_len p.cat what in
      let e : p.others ≡ tail = cancel b p.others tail (cancel a (b ++ p.others) (b ++ tail) (sym p.sheet_is ∙ sheet_with_lem found)) in
      p.text_is ∙ ap (λ x. a ++ (key_line (text "len") (decimal p.len) ++ x)) e

  printed_told : (x : List ℕ) → told_in (s ++ x) ≡ (p.cat, p.len, what)
  printed_told x = ap (λ y. told_in (y ++ x)) printed_with ∙ sheet_told p.cat printed_known p.len p.least p.most what printed_okay x

-- ---- contents that can be written make a printed sheet

module _ (cat : ℕ) (k : T (known cat)) (r : Contents) (o : T ((body (paper_of cat)).okay r)) where
  abbrev octets : List ℕ
  octets = write_frame (body (paper_of cat)) r

  pub written_is : read_frame (body (paper_of cat)) octets ≡ accepted r
  written_is = subst (λ x. read_frame (body (paper_of cat)) x ≡ accepted r) (append-nil octets) (afresh_read cat r o [])

  written_read : Read cat octets (length octets)
  unfolding write_frame len_of
  written_read = read_made cat octets r (holds (known cat) k) written_is

  pub written_accepted : (read_of cat octets).answer ≡ Accepted (length octets)
  unfolding write_frame len_of
  written_accepted = ap (λ (x : Reading). x.answer) (kept_made cat octets r (holds (known cat) k) written_is)

  pub written_sheet : sheet_of (cat ∷ octets) ≡ sheet_with cat (length octets) r
  unfolding written_read
  written_sheet = sheet_with_lem written_read

  made_printed : (len : ℕ) → 2 ≤ len → len ≤ 255 → (s : List ℕ) → s ≡ sheet_with cat len r → Printed s
  unfolding sheet_with
  made_printed len a b s e = record {
    cat = cat;
    field = octets;
    are_all_octets = afresh_octets cat r o;
    n = length octets;
    accepted_is = written_accepted;
    len = len;
    least = a;
    most = b;
    others = behind_len cat r;
    sheet_is = written_sheet;
    text_is = e;
  }

guess_printed : (t : List ℕ) → Printed (sheet_in t)
guess_printed t = made_printed (category_in t) (category_in_lem t) (guess_of t) (guess_okay t) (length_in t) (length_in_lem t).0 (length_in_lem t).1 (sheet_in t) refl

-- ---- the guess agrees as long as any printed sheet does

guess_agrees : (t : List ℕ) (k : ℕ) → Agrees t k → Same k (sheet_in t) t
guess_agrees t k a =
    let p = a.printed in
    keep_sheet p.cat (printed_known p) p.len p.least p.most (what p) (printed_okay p) k t (λ m x. ⊥) (λ m x. ⊥)
    (subst (λ x. Same k x t) (printed_with p) (shared_same k a.sheet t a.shared)) (λ e m x u. u)

through_agrees : (t : List ℕ) (k : ℕ) → T (through k (sheet_in t) t) → Agrees t k
through_agrees t k h = record { sheet = sheet_in t; printed = guess_printed t; shared = through_shared (sheet_in t) t k h }

-- the line at which it is found wrong
unfoldable pub wrong_in : List ℕ → ℕ
wrong_in t = first_wrong 1 (sheet_in t) t

module _ (t : List ℕ) where
  printed_right : Printed t → wrong_in t ≡ 0
  unfolding wrong_in
  printed_right p =
      let e : told_in t ≡ (p.cat, p.len, what p) = ap told_in (sym (append-nil t)) ∙ printed_told p [] in
      let f : sheet_in t ≡ t = ap (λ (x : Told). sheet_with x.0 x.1 x.2) e ∙ sym (printed_with p) in
      ap (λ x. first_wrong 1 x t) f ∙ wrong_self t 1

  right_printed : wrong_in t ≡ 0 → Printed t
  unfolding wrong_in
  right_printed e = subst Printed (wrong_none (sheet_in t) t 1 (omega arith) e) (guess_printed t)

  module _ (n : wrong_in t ≡ 0 → ⊥) (k : ℕ) where
    agrees_before : Agrees t k → k < wrong_in t
    unfolding wrong_in
    agrees_before a =
        let h : 1 + k ≤ first_wrong 1 (sheet_in t) t = leb→le (1 + k) (first_wrong 1 (sheet_in t) t) (subst T (wrong_through (sheet_in t) t 1 k n) (same_through k (sheet_in t) t (guess_agrees t k a))) in
        omega arith

    pub before_agrees : k < wrong_in t → Agrees t k
    unfolding wrong_in
    before_agrees h = through_agrees t k (subst T (sym (wrong_through (sheet_in t) t 1 k n ∙ le-leb (1 + k) (first_wrong 1 (sheet_in t) t) (omega arith))) tt)

-- ---- the answers

module _ (t : List ℕ) (room : ℕ) where
  -- "Text beyond 32,768 octets is refused at line 0"
  pub too_long : 32_768 < length t → rebuild_of t room ≡ refused 18 0
  unfolding rebuild_of
  too_long h = rw (lt-ltb 32_768 (length t) h) refl

  module _ (short : length t ≤ 32_768) where
    pub answered : rebuild_of t room ≡ given_of (wrong_in t) (category_in t) (length_in t) (field_in t) room
    unfolding rebuild_of wrong_in
    answered = rw (le-ltb 32_768 (length t) short) refl

    -- "18 with the number of the first line, from 1, at which, the value of `len` set aside, no printed sheet could still agree with the lines so far"
    pub wrong_line : (Printed t → ⊥) → (k : ℕ) → Agrees t k → (Agrees t (suc k) → ⊥) → rebuild_of t room ≡ refused 18 (suc k)
    unfolding given_of
    wrong_line np k a na =
        let n : wrong_in t ≡ 0 → ⊥ = λ e. np (right_printed t e) in
        let h : k < wrong_in t = agrees_before t n k a in
        let e : wrong_in t ≡ suc k = least k h (λ g. na (before_agrees t n (suc k) g)) in
        answered ∙ rw (ne_eqb (wrong_in t) 0 n) (ap (refused 18) e)
      where
        least : (k : ℕ) → k < wrong_in t → (suc k < wrong_in t → ⊥) → wrong_in t ≡ suc k
        least k h g = go (ltb (suc k) (wrong_in t)) refl
          where
            go : (b : Bool) → ltb (suc k) (wrong_in t) ≡ b → wrong_in t ≡ suc k
            go true e = absurd (g (ltb-true (suc k) (wrong_in t) e))
            go false e = omega (arith, h, ltb-false (suc k) (wrong_in t) e)

-- a printed text: its category and its field's octets up to LEN, if the value of `len` is LEN
printed_answer : (t : List ℕ) (room : ℕ) → length t ≤ 32_768 → (p : Printed t)
    → rebuild_of t room ≡ pick (eqb p.len p.n) (pick (leb p.n room) (accepted (p.cat, take p.n p.field)) (refused 11 0)) (refused 18 2)
unfolding given_of
printed_answer t room short p =
    let e : told_in t ≡ (p.cat, p.len, what p) = ap told_in (sym (append-nil t)) ∙ printed_told p [] in
    let f = read_front p.are_all_octets (found p) in
    let w : write_frame (body (paper_of p.cat)) (what p) ≡ take p.n p.field = sym f.front ∙ ap (λ n. take n p.field) (sym (found p).len_is) in
    let n : length (take p.n p.field) ≡ p.n = ap length (sym w) ∙ f.len_is ∙ sym (found p).len_is in
    answered t room short
    ∙ ap (λ j. given_of j (category_in t) (length_in t) (field_in t) room) (printed_right t p)
    ∙ ap (λ (x : Told). given_of 0 x.0 x.1 (write_frame (body (paper_of x.0)) x.2) room) e
    ∙ ap (λ b. given_of 0 p.cat p.len b room) w
    ∙ ap (λ j. pick (eqb p.len j) (pick (leb j room) (accepted (p.cat, take p.n p.field)) (refused 11 0)) (refused 18 2)) n

-- a printed text is short
known_octet : (cat : ℕ) → T (known cat) → T (ltb cat 256)
known_octet cat k = by-known (λ c. T (ltb c 256)) tt tt tt cat k

pub line_length : (k v : List ℕ) → length (key_line k v) ≡ length k + (length v + 2)
unfolding key_line
line_length k v = length-append k (61 ∷ (v ++ (10 ∷ []))) ∙ ap (λ n. length k + suc n) (length-append v (10 ∷ [])) ∙ omega arith

printed_short : (t : List ℕ) → Printed t → length t ≤ 32_768
printed_short t p =
    let a : List ℕ = key_line (text "cat") (decimal p.cat) in
    let h : length (sheet_of (p.cat ∷ p.field)) ≤ longest_sheet = sheet_longest (p.cat ∷ p.field) (and_in (ltb p.cat 256) _ (known_octet p.cat (printed_known p)) p.are_all_octets) in
    let e : length (sheet_of (p.cat ∷ p.field)) ≡ length a + (length (key_line (text "len") (decimal p.n)) + length p.others)
    = ap length p.sheet_is ∙ length-append a _ ∙ ap (length a +◌) (length-append (key_line (text "len") (decimal p.n)) p.others) in
    let f : length t ≡ length a + (length (key_line (text "len") (decimal p.len)) + length p.others)
    = ap length p.text_is ∙ length-append a _ ∙ ap (length a +◌) (length-append (key_line (text "len") (decimal p.len)) p.others) in
    omega (arith, h, e, f, line_length (text "len") (decimal p.len), decimal_most p.len)

frame_bounds : (cat : ℕ) (r : Contents) → T (okay_frame (body (paper_of cat)) r) → (2 ≤ length (write_frame (body (paper_of cat)) r)) × (length (write_frame (body (paper_of cat)) r) ≤ 255)
unfolding okay_frame write_frame
frame_bounds cat r k =
    let n : ℕ = length ((body (paper_of cat)).write r) in
    let h : T (leb 1 n && leb n 254) = and_r ((body (paper_of cat)).okay r) _ k in
    (omega (arith, leb→le 1 n (and_l (leb 1 n) _ h)), omega (arith, leb→le n 254 (and_r (leb 1 n) _ h)))

module _ (room : ℕ) where
  -- "Accept exactly the texts that our program prints for an accepted field, and give its category and octets": the sheets come back, "then 11"
  pub sheet_back : (cat : ℕ) (s : List ℕ) → Octets s → (n : ℕ) → (read_of cat s).answer ≡ Accepted n
      → rebuild_of (sheet_of (cat ∷ s)) room ≡ pick (leb n room) (accepted (cat, take n s)) (refused 11 0)
  unfolding sheet_with
  sheet_back cat s o n e =
      let q = read_found cat s n e in
      let r : Contents = q.what in
      let f = read_front o q in
      let l : length (write_frame (body (paper_of cat)) r) ≡ n = f.len_is ∙ sym q.len_is in
      let b = frame_bounds cat r f.okay in
      let p : Printed (sheet_of (cat ∷ s)) = record {
        cat = cat;
        field = s;
        are_all_octets = o;
        n = n;
        accepted_is = e;
        len = n;
        least = omega (arith, l, b.0);
        most = omega (arith, l, b.1);
        others = behind_len cat r;
        sheet_is = sheet_with_lem q;
        text_is = sheet_with_lem q;
      } in
      printed_answer (sheet_of (cat ∷ s)) room (printed_short (sheet_of (cat ∷ s)) p) p ∙ rw (eq-eqb n n refl) refl

  -- "line 2 if only the length is wrong"
  pub wrong_length : (t : List ℕ) (p : Printed t) → (p.len ≡ p.n → ⊥) → rebuild_of t room ≡ refused 18 2
  wrong_length t p n = printed_answer t room (printed_short t p) p ∙ rw (ne_eqb p.len p.n n) refl

-- ---- every answer keeps the promise, and there is no other that does

pub right_answer : (t : List ℕ) (room : ℕ) → Right t room (rebuild_of t room)
unfolding rebuild_of given_of wrong_in rebuilding.Right made_printed
right_answer t room = go (ltb 32_768 (length t)) refl (eqb (wrong_in t) 0) refl (eqb (length_in t) (length b)) refl (leb (length b) room) refl
  where
    cat : ℕ
    cat = category_in t

    b : List ℕ
    b = field_in t

    sheet : length_in t ≡ length b → sheet_in t ≡ t → IsSheet t cat b
    sheet e f = record {
      are_all_octets = afresh_octets cat (guess_of t) (guess_okay t);
      accepted_is = written_accepted cat (category_in_lem t) (guess_of t) (guess_okay t);
      sheet_is = written_sheet cat (category_in_lem t) (guess_of t) (guess_okay t) ∙ ap (λ n. sheet_with cat n (guess_of t)) (sym e) ∙ f;
    }

    first : (w : ℕ) → wrong_in t ≡ w → (w ≡ 0 → ⊥) → length t ≤ 32_768 → Refusal t room 18 w
    first zero e n h = absurd (n refl)
    first (suc k) e n h =
        let m : wrong_in t ≡ 0 → ⊥ = λ z. n (sym e ∙ z) in
        line_wrong h (λ p. m (printed_right t p)) k (before_agrees t m k (omega arith)) (λ a. let l : suc k < wrong_in t = agrees_before t m (suc k) a in omega arith)

    go : (x : Bool) → ltb 32_768 (length t) ≡ x → (y : Bool) → eqb (wrong_in t) 0 ≡ y → (z : Bool) → eqb (length_in t) (length b) ≡ z → (v : Bool) → leb (length b) room ≡ v
        → Right t room (pick x (refused 18 0) (pick y (pick z (pick v (accepted (cat, b)) (refused 11 0)) (refused 18 2)) (refused 18 (wrong_in t))))
    go true ex y ey z ez v ev = long (ltb-true 32_768 (length t) ex)
    go false ex true ey true ez true ev =
        (sheet (eqb-true (length_in t) (length b) ez) (wrong_none (sheet_in t) t 1 (omega arith) (eqb-true (wrong_in t) 0 ey)), leb-true (length b) room ev)
    go false ex true ey true ez false ev =
        no_room cat b (sheet (eqb-true (length_in t) (length b) ez) (wrong_none (sheet_in t) t 1 (omega arith) (eqb-true (wrong_in t) 0 ey))) (leb-false (length b) room ev)
    go false ex true ey false ez v ev =
        length_wrong (made_printed cat (category_in_lem t) (guess_of t) (guess_okay t) (length_in t) (length_in_lem t).0 (length_in_lem t).1 t (sym (wrong_none (sheet_in t) t 1 (omega arith) (eqb-true (wrong_in t) 0 ey))))
        (eqb-false (length_in t) (length b) ez)
    go false ex false ey z ez v ev = first (wrong_in t) refl (eqb-false (wrong_in t) 0 ey) (ltb-false 32_768 (length t) ex)

sheet_answer_lem : (t : List ℕ) (room cat : ℕ) (b : List ℕ) → IsSheet t cat b → rebuild_of t room ≡ pick (leb (length b) room) (accepted (cat, b)) (refused 11 0)
sheet_answer_lem t room cat b s =
    ap (λ x. rebuild_of x room) (sym s.sheet_is) ∙ sheet_back room cat b s.are_all_octets (length b) s.accepted_is
    ∙ ap (λ x. pick (leb (length b) room) (accepted (cat, x)) (refused 11 0)) (take-length b)

refusal_answer : (t : List ℕ) (room n k : ℕ) → Refusal t room n k → rebuild_of t room ≡ refused n k
refusal_answer t room n k (long h) = too_long t room h
refusal_answer t room n k (line_wrong h p j a na) = wrong_line t room h p j a na
refusal_answer t room n k (length_wrong p e) = wrong_length room t p e
refusal_answer t room n k (no_room cat b s h) = sheet_answer_lem t room cat b s ∙ rw (lt-leb (length b) room h) refl

pub one_answer : (t : List ℕ) (room : ℕ) (x : Outcome (ℕ × List ℕ)) → Right t room x → x ≡ rebuild_of t room
unfolding rebuilding.Right
one_answer t room (accepted x) h = sym (sheet_answer_lem t room x.0 x.1 h.0 ∙ rw (le-leb (length x.1) room h.1) refl)
one_answer t room (refused n k) h = sym (refusal_answer t room n k h)

-- ---- texts that stop early, and texts that go on

longer : (t : List ℕ) (o : ℕ) (r : List ℕ) → t ++ (o ∷ r) ≡ t → ⊥
longer t o r e = let n : length t + suc (length r) ≡ length t = sym (length-append t (o ∷ r)) ∙ ap length e in absurd (omega arith)

-- no printed sheet goes on as another
none_goes_on : (t : List ℕ) (o : ℕ) (r : List ℕ) → Printed (t ++ (o ∷ r)) → Printed t → ⊥
none_goes_on t o r p q =
    let u : List ℕ = t ++ (o ∷ r) in
    let e : ◌≡◌ {A = Told} (p.cat, p.len, what p) (q.cat, q.len, what q) = sym (printed_told p []) ∙ ap told_in (append-nil u) ∙ printed_told q (o ∷ r) in
    longer t o r (printed_with p ∙ ap (λ (x : Told). sheet_with x.0 x.1 x.2) e ∙ sym (printed_with q))

-- a text has no more whole lines than line feeds
none_more : (t : List ℕ) → Agrees t (suc (feeds t)) → ⊥
none_more t a =
    let s = a.shared in
    let e : feeds t ≡ feeds s.front + feeds s.behind = ap feeds s.other_is ∙ feeds-append s.front s.behind in
    let f : feeds s.front ≡ suc (feeds t) = lines_feeds s.front (suc (feeds t)) s.lines_are in
    absurd (omega arith)

-- "the line after the last if the text merely stops early"
pub stops : (t : List ℕ) (room : ℕ) → length t ≤ 32_768 → (Printed t → ⊥) → Agrees t (feeds t) → rebuild_of t room ≡ refused 18 (suc (feeds t))
stops t room short np a = wrong_line t room short np (feeds t) a (none_more t)

-- as the front of a printed text does
pub cut_short : (t : List ℕ) (o : ℕ) (r : List ℕ) (room : ℕ) → Printed (t ++ (o ∷ r)) → rebuild_of t room ≡ refused 18 (suc (feeds t))
cut_short t o r room p =
    stops t room (omega (arith, printed_short (t ++ (o ∷ r)) p, length-append t (o ∷ r))) (none_goes_on t o r p)
    (record { sheet = t ++ (o ∷ r); printed = p; shared = through_shared (t ++ (o ∷ r)) t (feeds t) (front_shared t (o ∷ r)) })

-- a printed text ends with a line feed
pub printed_ends : (t : List ℕ) → Printed t → (before : List ℕ) × (t ≡ before ++ (10 ∷ []))
unfolding sheet_with behind_len key_line
printed_ends t p =
    let r : Contents = what p in
    let a : List ℕ = key_line (text "cat") (decimal p.cat) in
    let b : List ℕ = key_line (text "len") (decimal p.len) in
    let c : List ℕ = key_line (text "items") (items_text [] (flags r.0) (names_of p.cat)) in
    let d : List ℕ = row_text (flags r.0) (paper_of p.cat) (names_of p.cat) r.1 in
    let e : List ℕ = text "end=ok" in
    let f : List ℕ = 10 ∷ [] in (
      a ++ (b ++ (c ++ (d ++ e))),
      printed_with p
          ∙ ap (λ x. a ++ (b ++ (c ++ x))) (sym (append_assoc d e f)) ∙ ap (λ x. a ++ (b ++ x)) (sym (append_assoc c (d ++ e) f))
          ∙ ap (a ++◌) (sym (append_assoc b (c ++ (d ++ e)) f)) ∙ sym (append_assoc a (b ++ (c ++ (d ++ e))) f),
    )

-- text behind `end=ok`
pub goes_on : (t : List ℕ) (o : ℕ) (r : List ℕ) (room : ℕ) → length (t ++ (o ∷ r)) ≤ 32_768 → Printed t → rebuild_of (t ++ (o ∷ r)) room ≡ refused 18 (suc (feeds t))
unfolding given_of wrong_in
goes_on t o r room short p =
    let u : List ℕ = t ++ (o ∷ r) in
    let f : sheet_in u ≡ t = ap (λ (x : Told). sheet_with x.0 x.1 x.2) (printed_told p (o ∷ r)) ∙ sym (printed_with p) in
    let s : 1 + feeds t ≡ suc (feeds t) = omega arith in
    let e : wrong_in u ≡ suc (feeds t) = ap (λ x. first_wrong 1 x u) f ∙ wrong_behind t o r 1 ∙ s in
    answered u room short ∙ ap (λ w. given_of w (category_in u) (length_in u) (field_in u) room) e ∙ rw (ne_eqb (suc (feeds t)) 0 (λ z. omega arith)) refl

-- ---- there is one such line

pub one_line : (t : List ℕ) → (Printed t → ⊥) → (j k : ℕ) → Agrees t j → (Agrees t (suc j) → ⊥) → Agrees t k → (Agrees t (suc k) → ⊥) → j ≡ k
one_line t np j k a na b nb =
    let n : wrong_in t ≡ 0 → ⊥ = λ e. np (right_printed t e) in
    let h : j < wrong_in t = agrees_before t n j a in
    let g : k < wrong_in t = agrees_before t n k b in
    go (ltb (suc j) (wrong_in t)) refl (ltb (suc k) (wrong_in t)) refl n h g
  where
    go : (x : Bool) → ltb (suc j) (wrong_in t) ≡ x → (y : Bool) → ltb (suc k) (wrong_in t) ≡ y → (wrong_in t ≡ 0 → ⊥) → j < wrong_in t → k < wrong_in t → j ≡ k
    go true e y f n h g = absurd (na (before_agrees t n (suc j) (ltb-true (suc j) (wrong_in t) e)))
    go false e true f n h g = absurd (nb (before_agrees t n (suc k) (ltb-true (suc k) (wrong_in t) f)))
    go false e false f n h g = omega (arith, h, g, ltb-false (suc j) (wrong_in t) e, ltb-false (suc k) (wrong_in t) f)

-- ---- "A sheet of a refusal isn't accepted"

pub behind_line : (k v r : List ℕ) → T (without 10 k) → T (without 10 v) → behind_feed (key_line k v ++ r) ≡ r
behind_line k v r nk nv = behind_append r (key_line k v) (line_has k v) ∙ ap (◌++ r) (line_behind k v nk nv)

-- a text whose second line is no `len`, whatever category its first line says
no_length : (v w r t : List ℕ) → T (without 10 v) → t ≡ key_line (text "cat") v ++ (key_line (text "refused") w ++ r) → (room : ℕ) (x : ℕ × List ℕ) → rebuild_of t room ≡ accepted x → ⊥
unfolding rebuilding.Right sheet_with without key_line
no_length v w r t nv et room x h =
    let g : IsSheet t x.0 x.1 = (subst (Right t room) h (right_answer t room)).0 in
    let q = read_found x.0 x.1 (length x.1) g.accepted_is in
    let a : sheet_with x.0 (length x.1) q.what ≡ key_line (text "cat") v ++ (key_line (text "refused") w ++ r) = sym (sheet_with_lem q) ∙ g.sheet_is ∙ et in
    let b : key_line (text "len") (decimal (length x.1)) ++ behind_len x.0 q.what ≡ key_line (text "refused") w ++ r
    = sym (behind_line (text "cat") (decimal x.0) _ tt (decimal-clean x.0)) ∙ ap behind_feed a ∙ behind_line (text "cat") v _ tt nv in
    let c : ◌≡◌ {A = ℕ} 108 114 = ap (λ z. get_or z 0 0) b in
    absurd (omega arith)

pub refusal_refused : (cat : ℕ) (s : List ℕ) (n p : ℕ) → field_of cat s ≡ refused n p → (room : ℕ) (x : ℕ × List ℕ) → rebuild_of (sheet_of (cat ∷ s)) room ≡ accepted x → ⊥
unfolding sheet_of field_text refusal_text
refusal_refused cat s n p e = no_length (decimal cat) (decimal n) (key_line (text "at") (decimal p)) (sheet_of (cat ∷ s)) (decimal-clean cat) (rw e refl)

-- and that of an input of no octets
pub nothing_refused : (room : ℕ) (x : ℕ × List ℕ) → rebuild_of (sheet_of []) room ≡ accepted x → ⊥
unfolding sheet_of refusal_text without
nothing_refused = no_length (text "none") (decimal 2) (key_line (text "at") (decimal 0)) (sheet_of []) tt refl

-- ---- how far a line's number and a field's length go

wrong_most : (s t : List ℕ) (j : ℕ) → first_wrong j s t ≤ j + length s
unfolding first_wrong
wrong_most [] [] j = omega arith
wrong_most [] (y ∷ t) j = omega arith
wrong_most (x ∷ s) [] j = omega arith
wrong_most (x ∷ s) (y ∷ t) j = go (eqb x y) (eqb x 10) (wrong_most s t (suc j)) (wrong_most s t j)
  where
    go : (b c : Bool) → first_wrong (suc j) s t ≤ suc j + length s → first_wrong j s t ≤ j + length s → pick b (first_wrong (pick c (suc j) j) s t) j ≤ j + suc (length s)
    go true true f g = omega arith
    go true false f g = omega arith
    go false c f g = omega arith

pub guess_short : (t : List ℕ) → length (field_in t) ≤ LONGEST
unfolding write_frame
guess_short t = omega (arith, field_size (paper_of (category_in t)) (guess_of t), few_octets (category_in t))

-- ---- room for the longest field is room enough

pub roomy : (t : List ℕ) (room : ℕ) → LONGEST ≤ room → (k : ℕ) → rebuild_of t room ≡ refused 11 k → ⊥
unfolding rebuild_of given_of number_of answer_of octets_given
roomy t room h k =
    rw (le-leb (length (field_in t)) room (omega (arith, h, guess_short t))) (go (ltb 32_768 (length t)) (eqb (first_wrong 1 (sheet_in t) t) 0) (eqb (length_in t) (length (field_in t))))
  where
    other : (n j : ℕ) → (n ≡ 11 → ⊥) → ◌≡◌ {A = Outcome (ℕ × List ℕ)} (refused n j) (refused 11 k) → ⊥
    other n j z e = z (ap (λ (o : Outcome (ℕ × List ℕ)). number_of (answer_of (octets_given o))) e)

    go : (x y z : Bool) → ◌≡◌ {A = Outcome (ℕ × List ℕ)} (pick x (refused 18 0) (pick y (pick z (accepted (category_in t, field_in t)) (refused 18 2)) (refused 18 (first_wrong 1 (sheet_in t) t)))) (refused 11 k) → ⊥
    go true y z = other 18 0 (λ e. omega arith)
    go false true true = λ e. refused≢accepted (sym e)
    go false true false = other 18 2 (λ e. omega arith)
    go false false z = other 18 (first_wrong 1 (sheet_in t) t) (λ e. omega arith)

-- a category is an octet, a line's number at most one more than a text has octets, and a field no longer than the longest
pub record Few (o : Outcome (ℕ × List ℕ)) : Type 0 where
  pub category : category_given o < 256
  pub place : place_of (answer_of (octets_given o)) ≤ 32_769
  pub octets : length_of (answer_of (octets_given o)) ≤ LONGEST

refused_few : (n k : ℕ) → k ≤ 32_769 → Few (refused n k)
unfolding category_given octets_given answer_of place_of length_of
refused_few n k h = record { category = omega arith; place = h; octets = omega arith }

accepted_few : (cat : ℕ) (b : List ℕ) → cat < 256 → length b ≤ LONGEST → Few (accepted (cat, b))
unfolding category_given octets_given answer_of place_of length_of
accepted_few cat b c h = record { category = c; place = omega arith; octets = h }

pub rebuilt_few : (t : List ℕ) (room : ℕ) → Few (rebuild_of t room)
unfolding rebuild_of given_of
rebuilt_few t room = go (ltb 32_768 (length t)) (eqb w 0) (eqb (length_in t) (length b)) (leb (length b) room)
  where
    cat : ℕ
    cat = category_in t

    b : List ℕ
    b = field_in t

    w : ℕ
    w = first_wrong 1 (sheet_in t) t

    go : (x y z v : Bool) → Few (pick x (refused 18 0) (pick y (pick z (pick v (accepted (cat, b)) (refused 11 0)) (refused 18 2)) (refused 18 w)))
    go true y z v = refused_few 18 0 (omega arith)
    go false true true true = accepted_few cat b (ltb→lt cat 256 (known_octet cat (category_in_lem t))) (guess_short t)
    go false true true false = refused_few 11 0 (omega arith)
    go false true false v = refused_few 18 2 (omega arith)
    go false false z v = refused_few 18 w (omega (arith, wrong_most (sheet_in t) t 1, printed_short (sheet_in t) (guess_printed t)))
