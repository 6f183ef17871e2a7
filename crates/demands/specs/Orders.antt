-- Two edits of a field, one after the other (02, Ask 8): of `edit_of`, for any lists and any room.
use Rattle.std.specs.Prelude.{◌≡◌, refl, ◌≢◌, Bool, ◌&&◌, List, [], ◌∷◌, ℕ, suc, ◌-◌, T, leb, length, get_or, set}
use Rattle.std.proofs.Common.{sym, ap, ap₂, ◌∙◌, subst, le_refl, set-set}
use Rattle.std.proofs.lemmas.List.{set_comm}
use Rattle.codec.specs.Codec.{Octets}
use Rattle.codec.specs.Item.{Item}
use Rattle.codec.specs.Field.{flags, Contents, body, texts_of}
use Rattle.codec.specs.Frame.{Outcome, accepted, read_frame, write_frame}
use Rattle.codec.specs.Meaning.{len_of}
use Rattle.codec.specs.Change.{Change, remove, put, set_item, blank_at, alone, put_in, change}
use Rattle.codec.proofs.Laws.Tests.{holds}
use Rattle.codec.proofs.Laws.Field.{same_write}
use Rattle.codec.proofs.Laws.Change.{Splice, new_octets, new_flag, put_in_lem}
use Rattle.papers.specs.Papers.{paper_of}
use Rattle.scope.specs.Outputs.{with_room}
use Rattle.scope.specs.Desk.{edit_of}
use Rattle.scope.proofs.Laws.Reading.{Read, one_reading}
use Rattle.scope.proofs.Laws.Edits.{Edit, edit_found, edit_splice, read_edited, edited_octets, places_differ}
use Rattle.demands.specs.Members.{Save}
use Rattle.demands.specs.Edited.{room_enough, edit_gives}

-- ---- two places of a list set, in either order; one place set twice

module _ {A : Type 0} (from : List A) (i j : ℕ) (x y : A) {one both other : List A} (one_is : one ≡ set from i x) (both_is : both ≡ set one j y) (other_is : other ≡ set from j y) where
  swapped : i ≢ j → {last : List A} → last ≡ set other i x → last ≡ both
  swapped n e = e ∙ ap (λ l. set l i x) other_is ∙ sym (set_comm from i j x y n) ∙ ap (λ l. set l j y) (sym one_is) ∙ sym both_is

  overwritten : i ≡ j → other ≡ both
  overwritten e = other_is ∙ sym (set-set from j x y) ∙ ap (λ k. set (set from k x) j y) (sym e) ∙ ap (λ l. set l j y) (sym one_is) ∙ sym both_is

-- ---- and so two items of some contents: their flags and their texts

same_frame : (its : List Item) (r q : Contents) → T ((body its).okay r) → T ((body its).okay q) → flags r.0 ≡ flags q.0 → texts_of its r ≡ texts_of its q → write_frame (body its) r ≡ write_frame (body its) q
unfolding write_frame
same_frame its r q h k f t = ap (λ x. suc (length x) ∷ x) (same_write its r q h k f t)

module _ {its : List Item} {i j m n : ℕ} {t u : List ℕ} {r a b c : Contents} (A : Splice its i m t r a) (B : Splice its j n u a b) (C : Splice its j n u r c) where
  set-turned : i ≢ j → {g : Contents} → Splice its i m t c g → write_frame (body its) g ≡ write_frame (body its) b
  set-turned x {g} G =
      same_frame its g b G.okay B.okay (swapped (flags r.0) i j m n A.flags_are B.flags_are C.flags_are x G.flags_are)
      (swapped (texts_of its r) i j t u A.texts_are B.texts_are C.texts_are x G.texts_are)

  set-again : i ≡ j → write_frame (body its) c ≡ write_frame (body its) b
  set-again e =
      same_frame its c b C.okay B.okay (overwritten (flags r.0) i j m n A.flags_are B.flags_are C.flags_are e)
      (overwritten (texts_of its r) i j t u A.texts_are B.texts_are C.texts_are e)

-- ---- a change that is right in some contents is right in any

change_right : (its : List Item) (i : ℕ) (ch : Change) (r q : Contents) → change its i ch r ≡ accepted q → (t : Contents) → (u : Contents) × (change its i ch t ≡ accepted u)
unfolding change put_in
change_right its i remove r q e t = (set_item i 0 (blank_at its i) t, refl)
change_right its i (put x) r q e t =
    let ok : Bool = leb 1 (length x) && leb (length x) 253 in
    let u = put_in_lem i r q ok (read_frame (body its) (alone i x)) e in
    (set_item i 1 (get_or u.1.0.1 i (0, [])) t, ap₂ (put_in i t) (holds ok u.0) u.1.1)

-- ---- an edit

abbrev pub save_of : ℕ → List ℕ → Save → ℕ → Outcome (List ℕ)
save_of cat s e room = edit_of cat s e.list e.item e.change room

-- e was accepted for the field s, and gave b
abbrev pub Made : ℕ → List ℕ → Save → ℕ → List ℕ → Type 0
Made cat s e room b = Edit cat s e.list e.item e.change room b

pub save_found : (cat : ℕ) (s : List ℕ) (e : Save) (room : ℕ) {b : List ℕ} → save_of cat s e room ≡ accepted b → Made cat s e room b
save_found cat s e room {b} h = edit_found cat s e.list e.item e.change room b h

-- an edit that was accepted for one field is right for every other of the category: in some room it is accepted
pub right_anywhere : {cat : ℕ} {s b : List ℕ} {room : ℕ} (e : Save) → Made cat s e room b → {t : List ℕ} → Read cat t (len_of t) → (c : List ℕ) × Made cat t e (length c) c
right_anywhere {cat} e m r =
    let u = change_right (paper_of cat) (e.item - 1) e.change m.read.what m.new m.change_is r.what in
    let c : List ℕ = write_frame (body (paper_of cat)) u.0 in
    (c, record { read = r; is_an_item = m.is_an_item; on_list = m.on_list; new = u.0; change_is = u.1; octets_are = refl; has_room = le_refl (length c) })

-- ---- two edits

-- from r to q an edit set one flag and one text
abbrev Sets : ℕ → Save → Contents → Contents → Type 0
Sets cat e r q = Splice (paper_of cat) (e.item - 1) (new_flag e.change) (new_octets e.change) r q

-- the second did so in what the first made
next_sets : {cat : ℕ} {s a b : List ℕ} {room more : ℕ} (os : Octets s) (d e : Save) (D : Made cat s d room a) (E : Made cat a e more b) → Sets cat e D.new E.new
next_sets {cat} os d e D E =
    subst (λ r. Sets cat e r E.new) (one_reading E.read (read_edited os d.octets D)) (edit_splice (edited_octets os d.octets D) e.octets E)

-- d and then e, and e alone
module _ {cat : ℕ} {s a b c : List ℕ} {room more own : ℕ} (os : Octets s) (d e : Save) (D : Made cat s d room a) (E : Made cat a e more b) (C : Made cat s e own c) where
  first : Sets cat d D.read.what D.new
  first = edit_splice os d.octets D

  only : Sets cat e D.read.what C.new
  only = subst (λ r. Sets cat e r C.new) (one_reading C.read D.read) (edit_splice os e.octets C)

  later-made : d.item ≡ e.item → c ≡ b
  later-made h = C.octets_are ∙ set-again first (next_sets os d e D E) only (ap (◌- 1) h) ∙ sym E.octets_are

  either-made : d.item ≢ e.item → {g : List ℕ} {back : ℕ} → Made cat c d back g → g ≡ b
  either-made n G =
      let x : d.item - 1 ≢ e.item - 1 = places_differ (edited_octets os d.octets D) e.octets E d.item D.is_an_item n in
      G.octets_are ∙ set-turned first (next_sets os d e D E) only x (next_sets os e d C G) ∙ sym E.octets_are

-- ---- in 02's words, for any lists and any room

module _ (cat : ℕ) (s : List ℕ) (os : Octets s) (d e : Save) (room more : ℕ) {a b : List ℕ} (ea : save_of cat s d room ≡ accepted a) (eb : save_of cat a e more ≡ accepted b) where
  abbrev D : Made cat s d room a
  D = save_found cat s d room ea

  abbrev E : Made cat a e more b
  E = save_found cat a e more eb

  -- the later edit of the first field
  abbrev later : (c : List ℕ) × Made cat s e (length c) c
  later = right_anywhere e E D.read

  -- "edits of two different items that are accepted in both orders give the same field"
  pub either_order : d.item ≢ e.item → (k l : ℕ) {c g : List ℕ} → save_of cat s e k ≡ accepted c → save_of cat c d l ≡ accepted g → b ≡ g
  either_order n k l {c} ec eg = sym (either-made os d e D E (save_found cat s e k ec) n (save_found cat c d l eg))

  -- "For the same item the later one alone counts, provided that both are accepted"
  pub later_alone : d.item ≡ e.item → (r : ℕ) → save_of cat s e r ≡ with_room r b
  later_alone h r = edit_gives later.1 r ∙ ap (with_room r) (later-made os d e D E later.1 h)

  -- so it is accepted with the room that it had
  pub later_accepted : d.item ≡ e.item → save_of cat s e more ≡ accepted b
  later_accepted h = later_alone h more ∙ room_enough E.has_room

  -- two different items: the other order lacks nothing but room, and ends with the same field
  pub other_order : d.item ≢ e.item → (c : List ℕ) × ((r : ℕ) → save_of cat s e r ≡ with_room r c) × ((r : ℕ) → save_of cat c d r ≡ with_room r b)
  other_order n =
      let back = right_anywhere d D (read_edited os e.octets later.1) in
      (later.0, edit_gives later.1, λ r. edit_gives back.1 r ∙ ap (with_room r) (either-made os d e D E later.1 n back.1))
