-- "octets after the first LEN are never looked at" (01, 'The field'), by no operation and in no field, accepted or refused: two strings that begin alike, with LEN and all that it counts, have one answer.
use Rattle.std.specs.Prelude.{◌≡◌, ℕ, ◌+◌, ◌≤◌, length, take, drop}
use Rattle.std.proofs.Math.Path.{refl, ap}
use Rattle.std.proofs.Common.{sym, ap₂, ◌∙◌, subst, le_trans, arith, length-drop}
use mathlib.Core.List.{List, [], ◌∷◌, ◌++◌}
use Rattle.std.proofs.lemmas.List.{take-append-le, drop-append-le}
use Rattle.codec.specs.Codec.{Octets}
use Rattle.codec.specs.Pick.{pick}
use Rattle.codec.specs.Field.{flags, Contents, body}
use Rattle.codec.specs.Frame.{Outcome, accepted, refused}
use Rattle.codec.specs.Meaning.{len_of}
use Rattle.codec.specs.Change.{Change}
use Rattle.codec.proofs.Laws.Behind.{Whole, len_front, behind_read}
use Rattle.papers.specs.Names.{text, names_of}
use Rattle.papers.specs.Papers.{known, paper_of}
use Rattle.layout.specs.Answer.{View, Shown, Hidden, Accepted}
use Rattle.layout.specs.declared.Which.TheVariants.{Neither}
use Rattle.layout.specs.Record.{flatten}
use Rattle.scope.specs.Reading.{field_of, shown, read_of}
use Rattle.scope.specs.Views.{view_in, view_of, part_of, choose_in, choose_of}
use Rattle.scope.specs.Desk.{edit_in, edit_of}
use Rattle.scope.specs.Sheet.{decimal, key_line, row_text, items_text, field_text, sheet_of}
use Rattle.scope.proofs.Laws.Views.{view_inside}

module _ (cat : ℕ) (t x y : List ℕ) (w : Whole t) where
  len_behind : len_of (t ++ x) ≡ len_of (t ++ y)
  len_behind = len_front t x w ∙ sym (len_front t y w)

  field_behind : field_of cat (t ++ x) ≡ field_of cat (t ++ y)
  unfolding field_of
  field_behind = ap (λ o. pick (known cat) o (refused 1 0)) (behind_read (body (paper_of cat)) t x y w)

  pub read_behind : read_of cat (t ++ x) ≡ read_of cat (t ++ y)
  unfolding read_of shown
  read_behind = ap (shown cat (t ++ x)) field_behind ∙ go (field_of cat (t ++ y))
    where
      go : (o : Outcome Contents) → shown cat (t ++ x) o ≡ shown cat (t ++ y) o
      go (accepted r) = λ i. record { answer = Accepted (len_behind i); kept = flatten cat (paper_of cat) r }
      go (refused n p) = refl

  pub view_behind : (item : ℕ) → view_of cat (t ++ x) item ≡ view_of cat (t ++ y) item
  unfolding view_of
  view_behind item = ap (view_in (paper_of cat) item) field_behind

  pub edit_behind : (list item : ℕ) (ch : Change) (room : ℕ) → edit_of cat (t ++ x) list item ch room ≡ edit_of cat (t ++ y) list item ch room
  unfolding edit_of
  edit_behind list item ch room = ap (edit_in (paper_of cat) list item ch room) field_behind

  pub sheet_behind : sheet_of (cat ∷ (t ++ x)) ≡ sheet_of (cat ∷ (t ++ y))
  unfolding sheet_of field_text
  sheet_behind = ap (key_line (text "cat") (decimal cat) ++◌) (ap (field_text cat (t ++ x)) field_behind ∙ go (field_of cat (t ++ y)))
    where
      go : (o : Outcome Contents) → field_text cat (t ++ x) o ≡ field_text cat (t ++ y) o
      go (accepted r) =
          ap (λ n. key_line (text "len") (decimal n)
          ++ (key_line (text "items") (items_text [] (flags r.0) (names_of cat)) ++ (row_text (flags r.0) (paper_of cat) (names_of cat) r.1 ++ key_line (text "end") (text "ok")))) len_behind
      go (refused n p) = refl

-- the part that is shown lies before LEN
front_part : (t x : List ℕ) (a n : ℕ) → a + n ≤ length t → take n (drop a (t ++ x)) ≡ take n (drop a t)
front_part t x a n h =
    ap (take n) (drop-append-le a t x (omega arith)) ∙ take-append-le n (drop a t) x (omega (arith, length-drop a t))

pub part_behind : (cat : ℕ) (t x y : List ℕ) → Whole t → Octets (t ++ x) → (item : ℕ) → part_of (t ++ x) (view_of cat (t ++ x) item) ≡ part_of (t ++ y) (view_of cat (t ++ y) item)
unfolding part_of
part_behind cat t x y w o item = go (view_of cat (t ++ x) item) refl ∙ ap (part_of (t ++ y)) (view_behind cat t x y w item)
  where
    go : (v : View) → view_of cat (t ++ x) item ≡ v → part_of (t ++ x) v ≡ part_of (t ++ y) v
    go (Shown a n) e =
        let h : a + n ≤ length t = le_trans (subst (a + n ≤◌) (len_front t x w) (view_inside cat (t ++ x) o item a n e).1) w.all in
        front_part t x a n h ∙ sym (front_part t y a n h)
    go (Hidden e p) q = refl

pub choose_behind : (cat : ℕ) (t x y u p q : List ℕ) → Whole t → Whole u → (item : ℕ) → choose_of cat (t ++ x) (u ++ p) item ≡ choose_of cat (t ++ y) (u ++ q) item
unfolding choose_of
choose_behind cat t x y u p q w z item =
    ap₂ (λ a b. pick (known cat) (choose_in (paper_of cat) item a b) (record { which = Neither; view = Hidden 1 0 }))
    (behind_read (body (paper_of cat)) t x y w) (behind_read (body (paper_of cat)) u p q z)
