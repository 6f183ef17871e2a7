-- The whole sheet, from the record that was read.
use Rattle.std.specs.Prelude.{◌≡◌, Bool, true, false, T, eqb, pos, take, drop, replicate}
use Rattle.std.proofs.Math.Path.{refl, ap, ap₂}
use Rattle.std.proofs.Common.{sym, ◌∙◌, subst, arith, eqb-true, length-take}
use mathlib.Core.List.{List, [], ◌∷◌, ◌++◌}
use Prim.Native.Nat.{ℕ, ◌-◌, ◌≤◌}
use Rattle.std.proofs.Math.ListN.{length, length-append, length-replicate}
use Rattle.codec.specs.Pick.{pick}
use Rattle.codec.specs.Codec.{Octets}
use Rattle.codec.specs.Field.{flags, Contents, body}
use Rattle.codec.specs.Frame.{Outcome, accepted, refused}
use Rattle.codec.specs.Meaning.{len_of}
use Rattle.codec.proofs.Laws.Field.{row_okay}
use Rattle.papers.specs.Cat048.{cat048}
use Rattle.papers.specs.Cat021.{cat021}
use Rattle.papers.specs.Cat007.{cat007}
use Rattle.papers.specs.Names.{text, names048, names021, names007, names_of}
use Rattle.papers.specs.Papers.{known, paper_of, items_of, SLOTS, all_slots}
use Rattle.papers.proofs.Laws.Papers.{few_slots}
use Rattle.layout.specs.declared.Record.{Record}
use Rattle.layout.specs.Answer.{Reading, Accepted, Refused}
use Rattle.layout.specs.Record.{regroup, flatten, unflatten, all_numbers}
use Rattle.layout.specs.Laws.Record.{unflatten-flatten, length_numbers}
use Rattle.scope.specs.Reading.{field_of, shown, read_of}
use Rattle.scope.specs.Sheet.{decimal, key_line, row_text, items_text, refusal_text, field_text, sheet_of}
use Rattle.layout.specs.Laws.Answer.{Accepted≢Refused}
use Rattle.scope.proofs.Laws.Reading.{Read, read_found, read_okay}
use Rattle.spots.specs.Spots.{spot_at, spots, spots_from, spot_of, items_from, held_from}
use Rattle.spots.specs.Laws.Spots.{spots_right}
use Rattle.text.specs.Typing.{Types}
use Rattle.text.specs.Typed.{blank, Typed}
use Rattle.text.specs.Laws.Typing.{types_as, types_behind, typed_front}
use Rattle.text.specs.Laws.Typed.{stands}
use Rattle.text.specs.declared.Text.{Text}
use Rattle.longest.proofs.Laws.Longest.{sheet_longest}
use Rattle.sheet.specs.Items.{named, named_at}
use Rattle.sheet.specs.Rows.{names_from, comma_of}
use Rattle.sheet.specs.Whole.{record_text}

-- ---- the names of a category

same_names : (cat c : ℕ) → cat ≡ c → names_from (spot_of c) (items_of c) ≡ names_of c → names_from (spot_of cat) (items_of cat) ≡ names_of cat
same_names cat c e h = subst (λ x. names_from (spot_of x) (items_of x) ≡ names_of x) (sym e) h

pub names_right : (cat : ℕ) → known cat ≡ true → names_from (spot_of cat) (items_of cat) ≡ names_of cat
unfolding known names_from spot_of spot_at spots spots_from named_at named names_of names048 names021 names007 paper_of cat048 cat021 cat007
names_right cat h = go (eqb cat 48) refl (eqb cat 21) refl (eqb cat 7) refl
  where
    go : (x : Bool) → eqb cat 48 ≡ x → (y : Bool) → eqb cat 21 ≡ y → (z : Bool) → eqb cat 7 ≡ z → names_from (spot_of cat) (items_of cat) ≡ names_of cat
    go true ex y ey z ez = same_names cat 48 (eqb-true cat 48 ex) refl
    go false ex true ey z ez = same_names cat 21 (eqb-true cat 21 ey) refl
    go false ex false ey true ez = same_names cat 7 (eqb-true cat 7 ez) refl
    go false ex false ey false ez =
        let f : pick (eqb cat 48) true (pick (eqb cat 21) true (eqb cat 7)) ≡ false = rw (ex, ey, ez) refl in
        let w : true ≡ false = sym h ∙ f in
        let q : ◌≡◌ {A = ℕ} 0 1 = cc in absurd (omega arith)

-- ---- the way out of `accepted`: k is the category's first spot, n its items

module _ (f : Record) (len : ℕ) (h : known f.cat ≡ true) {k n : ℕ} (ek : k ≡ spot_of f.cat) (en : n ≡ items_of f.cat) where
  names_are : names_from k n ≡ names_of f.cat
  names_are = ap₂ names_from ek en ∙ names_right f.cat h

  items_are : items_from k n ≡ paper_of f.cat
  items_are = ap₂ items_from ek en ∙ (spots_right f.cat h).items_are

  begins : (spot_at k).1 ≡ 0
  begins = ap (λ j. (spot_at j).1) ek ∙ (spots_right f.cat h).begins

  row_is : row_text (flags f.items) (items_from k n) (names_from k n) (held_from k n 0 f.parts f.numbers)
      ≡ row_text (flags f.items) (paper_of f.cat) (names_of f.cat) (regroup (paper_of f.cat) f.parts f.numbers)
  unfolding held_from
  row_is =
      ap (λ j. row_text (flags f.items) (items_from k n) (names_from k n) (regroup (items_from k n) f.parts (drop j f.numbers))) begins
      ∙ ap₂ (λ x y. row_text (flags f.items) x y (regroup x f.parts f.numbers)) items_are names_are

  pub record_typed : {l m q u v w x : List ℕ} {at a b c d e g : ℕ} → Types (key_line (text "len") (decimal len)) l at m a → Types (text "items=") m a q b
      → Types (items_text (comma_of true) (flags f.items) (names_from k n)) q b u c → Types (10 ∷ []) u c v d
      → Types (row_text (flags f.items) (items_from k n) (names_from k n) (held_from k n 0 f.parts f.numbers)) v d w e → Types (text "end=ok" ++ (10 ∷ [])) w e x g
      → Types (record_text f len) l at x g
  unfolding record_text key_line comma_of
  record_typed {l = l} p1 p2 p3 p4 p5 p6 =
      let names : List ℕ = items_text [] (flags f.items) (names_of f.cat) in
      types_behind p1
      (types_behind (types_behind p2 (types_behind (types_as (ap (items_text [] (flags f.items)) names_are) p3) p4)) (types_behind (types_as row_is p5) p6))

-- ---- the sheet of what was read

module _ (cat : ℕ) (s : List ℕ) (o : Octets s) {r : Reading} (er : r ≡ read_of cat s) where
  module _ (n : ℕ) (ea : r.answer ≡ Accepted n) where
    found : Read cat s n
    found = read_found cat s n (ap (λ (x : Reading). x.answer) (sym er) ∙ ea)

    kept_is : r.kept ≡ flatten cat (paper_of cat) found.what
    kept_is = ap (λ (x : Reading). x.kept) er ∙ found.kept_is

    okay : T ((body (paper_of cat)).okay found.what)
    okay = read_okay o found

    field_is : field_of cat s ≡ accepted found.what
    unfolding field_of
    field_is = rw (found.known_is, found.body_is) refl

    -- `accepted` may be called
    pub read_asks : (known r.kept.cat ≡ true) × (length r.kept.numbers ≡ SLOTS)
    unfolding flatten
    read_asks =
        let ln : length (all_numbers found.what.1) ≡ all_slots (paper_of cat) = length_numbers (flags found.what.0) (paper_of cat) found.what.1 (row_okay (paper_of cat) found.what okay) in
        let few : all_slots (paper_of cat) ≤ SLOTS = few_slots cat in (
          ap (λ (x : Record). known x.cat) kept_is ∙ found.known_is,
          ap (λ (x : Record). length x.numbers) kept_is ∙ omega (arith, length-append (all_numbers found.what.1) (replicate (SLOTS - all_slots (paper_of cat)) (pos 0)), length-replicate (SLOTS - all_slots (paper_of cat)) (pos 0)),
        )

    pub sheet_accepted : {l m q : List ℕ} {at next last : ℕ} → Types (key_line (text "cat") (decimal cat)) l at m next → Types (record_text r.kept n) m next q last → Types (sheet_of (cat ∷ s)) l at q last
    unfolding sheet_of field_text record_text flatten unflatten field_of
    sheet_accepted a b =
        let text_of : Contents → List ℕ = λ c.
        key_line (text "len") (decimal (len_of s))
        ++ (key_line (text "items") (items_text [] (flags c.0) (names_of cat)) ++ (row_text (flags c.0) (paper_of cat) (names_of cat) c.1 ++ key_line (text "end") (text "ok"))) in
        types_behind a
        (types_as (ap₂ record_text kept_is found.len_is ∙ ap text_of (unflatten-flatten cat (paper_of cat) found.what okay) ∙ ap (field_text cat s) (sym field_is)) b)

  pub sheet_refused : (n p : ℕ) → r.answer ≡ Refused n p → {l m q : List ℕ} {at next last : ℕ} → Types (key_line (text "cat") (decimal cat)) l at m next → Types (refusal_text n p) m next q last → Types (sheet_of (cat ∷ s)) l at q last
  unfolding sheet_of field_text read_of shown
  sheet_refused n p ea a b = types_behind a (types_as (ap (field_text cat s) (sym (go (field_of cat s) (ap (λ (x : Reading). x.answer) (sym er) ∙ ea)))) b)
    where
      go : (x : Outcome Contents) → (shown cat s x).answer ≡ Refused n p → x ≡ refused n p
      go (accepted c) h = Accepted≢Refused h
      go (refused m q) h = cc

-- ---- the ways out of `typed` and `sheet`

pub refusal_typed : (n p : ℕ) {l m q : List ℕ} {at next last : ℕ} → Types (key_line (text "refused") (decimal n)) l at m next → Types (key_line (text "at") (decimal p)) m next q last → Types (refusal_text n p) l at q last
unfolding refusal_text
refusal_typed n p a b = types_behind a b

pub sheet_empty : (t : List ℕ) → length t ≡ 0 → {l m q : List ℕ} {at next last : ℕ} → Types (text "cat=none" ++ (10 ∷ [])) l at m next → Types (refusal_text 2 0) m next q last → Types (sheet_of t) l at q last
unfolding sheet_of key_line
sheet_empty [] e a b = types_behind a b
sheet_empty (x ∷ t) e a b = absurd (omega arith)

-- the buffer holds it, and it stands in front
pub record Standing (xs m : List ℕ) (end : ℕ) : Type 0 where
  pub text_is : take end m ≡ xs
  pub within : end ≤ length m
  pub whole : end ≡ length (take end m)

pub sheet_stands : (s : List ℕ) → Octets s → {l m : List ℕ} {end : ℕ} → length l ≡ 4_096 → Types (sheet_of s) l 0 m end → Standing (sheet_of s) m end
sheet_stands s o {l} {m} {end} k a =
    let f = typed_front (sheet_of s) (omega (arith, sheet_longest s o)) k a in
    let e : end ≡ length (take end m) = f.0 ∙ ap length (sym f.1) in
    record { text_is = f.1; within = omega (arith, e, length-take end m); whole = e }

-- a text holds it
pub sheet_held : (s : List ℕ) → Octets s → {t t' : Text} → t ≡ blank → Typed (sheet_of s) t t' → {x : List ℕ} → x ≡ take t'.end t'.octets → x ≡ sheet_of s
sheet_held s o e a ex = stands (sheet_of s) (omega (arith, sheet_longest s o)) e a ex
