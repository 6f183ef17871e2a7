-- What crosses is exact: a record is got back from its array, an array that is written is the array of a record, and every word tells its answer.
use Rattle.std.specs.Prelude.{◌≡◌, Bool, List, [], ◌∷◌, ◌++◌, map, ℕ, ◌<◌, ltb, eqb, ℤ, negsuc, length, get_or, take, drop}
use Rattle.std.proofs.Math.Path.{refl, subst}
use Rattle.std.proofs.Common.{sym, ap, ap₂, ◌∙◌, arith, lt-ltb, eq-eqb, eqb-true, ltb→lt, take-append-drop, take_at}
use Rattle.std.proofs.Math.Bool.{true, false}
use Rattle.std.proofs.Math.Dec.{T}
use Rattle.std.proofs.Math.IntN.{pos}
use Rattle.std.proofs.lemmas.List.{length-map}
use Rattle.std.proofs.Math.Seq.{drop_at}
use Rattle.codec.specs.Pick.{pick}
use Rattle.codec.specs.Codec.{Octets}
use Rattle.codec.specs.Frame.{Outcome, accepted, refused}
use Rattle.codec.specs.Change.{Change}
use Rattle.codec.proofs.Laws.Change.{new_octets}
use Rattle.codec.proofs.Laws.Tests.{and_l, and_r, and_in, holds}
use Rattle.papers.specs.Papers.{known}
use Rattle.layout.specs.declared.Record.{Record}
use Rattle.layout.specs.Answer.{Answer, number_of, place_of, length_of, view_number, view_place, view_length, which_number}
use Rattle.layout.specs.declared.Which.{Which}
use Rattle.layout.specs.declared.Which.TheVariants.{Neither, Base, Correction}
use Rattle.scope.specs.Reading.{read_of}
use Rattle.scope.specs.Writing.{writable, written, write_of}
use Rattle.scope.specs.Outputs.{with_room, answer_of}
use Rattle.scope.specs.Views.{view_of, choose_of}
use Rattle.scope.specs.Desk.{edit_of}
use Rattle.scope.specs.Rebuilding.{category_given, octets_given}
use Rattle.guess.specs.Guess.{rebuild_of}
use Rattle.guess.proofs.Laws.Rebuilt.{rebuilt_few}
use Rattle.interface.specs.Packed.{beside_word, answer_word, side_word, view_word, choice_word, rebuilt_word}
use Rattle.interface.specs.Arrays.{PLACES, array_of, fill_answer, is_octet, are_octets, octet_of, of_array, write_array}
use Rattle.interface.proofs.Laws.Packed.{Tells, word_tells}
use Rattle.interface.proofs.Laws.Fits.{FitAnswer, read_fits, fill_fits, write_fits, view_fits, choose_fits, edit_fits}
use Rattle.interface.proofs.Laws.Arrays.{array_places}
use Rattle.papers.specs.Papers.{SLOTS}

refused≢accepted : {A X : Type 0} {x : A} {n p : ℕ} → refused n p ≡ accepted x → X
refused≢accepted h = let z : ◌≡◌ {A = ℕ} 0 1 = cc in absurd (omega arith)

-- ---- octets and numbers

octet_pos : (n : ℕ) → n < 256 → octet_of (pos n) ≡ n
unfolding octet_of
octet_pos n h = rw (lt-ltb n 256 h) refl

octets_pos : (xs : List ℕ) → Octets xs → map octet_of (map pos xs) ≡ xs
octets_pos [] o = refl
octets_pos (x ∷ xs) o = ap₂ ◌∷◌ (octet_pos x (ltb→lt x 256 (and_l (ltb x 256) _ o))) (octets_pos xs (and_r (ltb x 256) _ o))

pos_octet : (z : ℤ) → T (is_octet z) → pos (octet_of z) ≡ z
unfolding is_octet octet_of
pos_octet (pos n) t = rw (holds (ltb n 256) t) refl
pos_octet (negsuc n) t = absurd t

pos_octets : (zs : List ℤ) → T (are_octets zs) → map pos (map octet_of zs) ≡ zs
unfolding are_octets
pos_octets [] t = refl
pos_octets (z ∷ zs) t = ap₂ ◌∷◌ (pos_octet z (and_l (is_octet z) _ t)) (pos_octets zs (and_r (is_octet z) _ t))

are_all_octets : (xs : List ℕ) → Octets xs → T (are_octets (map pos xs))
unfolding are_octets is_octet
are_all_octets [] o = tt
are_all_octets (x ∷ xs) o = and_in (ltb x 256) _ (and_l (ltb x 256) _ o) (are_all_octets xs (and_r (ltb x 256) _ o))

-- ---- a record of octets, and its array

pub record Sized (f : Record) : Type 0 where
  pub cat_octet : f.cat < 256
  pub items_octet : f.items < 256
  pub parts_octets : Octets f.parts
  pub parts_many : length f.parts ≡ 8
  pub numbers_many : length f.numbers ≡ SLOTS

module _ (f : Record) (s : Sized f) where
  parts_there_lem : take 8 (map pos f.parts ++ f.numbers) ≡ map pos f.parts
  parts_there_lem = take_at (map pos f.parts) f.numbers 8 (length-map f.parts pos ∙ s.parts_many)

  pub record_array : of_array (array_of f) ≡ f
  unfolding of_array array_of
  record_array = λ t. record {
    cat = octet_pos f.cat s.cat_octet t;
    items = octet_pos f.items s.items_octet t;
    parts = (ap (map octet_of) parts_there_lem ∙ octets_pos f.parts s.parts_octets) t;
    numbers = drop_at (map pos f.parts) f.numbers 8 (length-map f.parts pos ∙ s.parts_many) t;
  }

  octets_there : are_octets (take 9 (drop 1 (array_of f))) ≡ true
  unfolding array_of are_octets is_octet
  octets_there =
      let t : T (are_octets (map pos f.parts)) = are_all_octets f.parts s.parts_octets in
      rw (lt-ltb f.items 256 s.items_octet) (ap are_octets parts_there_lem ∙ holds (are_octets (map pos f.parts)) t)

  array_picked : (room : ℕ) (r : Record) → of_array (array_of f) ≡ r → write_array (array_of f) room ≡ pick (known r.cat) (write_of r room) (refused 1 0)
  unfolding write_array
  array_picked room r e =
      subst (λ x. write_array (array_of f) room ≡ pick (known x.cat) (write_of x room) (refused 1 0)) e
      (rw (eq-eqb (length (array_of f)) PLACES (array_places f s.parts_many s.numbers_many), octets_there) refl)

  -- the array of a record is answered and written as the record is
  pub array_writes : (room : ℕ) → write_array (array_of f) room ≡ write_of f room
  unfolding write_of with_room
  array_writes room = array_picked room f record_array ∙ go (known f.cat) (pick (writable f) (with_room room (written f)) (refused 10 0))
    where
      go : (b : Bool) (o : Outcome (List ℕ)) → pick b (pick b o (refused 1 0)) (refused 1 0) ≡ pick b o (refused 1 0)
      go true o = refl
      go false o = refl

-- ---- an array that is written

known_octet : (z : ℤ) → known (octet_of z) ≡ true → T (is_octet z)
unfolding octet_of is_octet known
known_octet (pos n) k = go (ltb n 256) k
  where
    go : (b : Bool) → known (pick b n 0) ≡ true → T b
    go true h = tt
    go false h = let e : ◌≡◌ {A = ℕ} 0 1 = cc in absurd (omega arith)
known_octet (negsuc n) k = let e : ◌≡◌ {A = ℕ} 0 1 = cc in absurd (omega arith)

array_record : (a : List ℤ) → length a ≡ PLACES → T (is_octet (get_or a 0 (pos 0))) → T (are_octets (take 9 (drop 1 a))) → array_of (of_array a) ≡ a
unfolding array_of of_array are_octets
array_record [] l x t = absurd (omega arith)
array_record (z ∷ []) l x t = absurd (omega arith)
array_record (z ∷ y ∷ a) l x t =
    ap₂ (λ i j. i ∷ j) (pos_octet z x)
    (ap₂ (λ i j. i ∷ j) (pos_octet y (and_l (is_octet y) _ t))
    (ap (◌++ drop 8 a) (pos_octets (take 8 a) (and_r (is_octet y) _ t)) ∙ take-append-drop 8 a))

-- no array is written but that of a record that is: no two arrays are written alike
pub array_written : (a : List ℤ) (room : ℕ) (b : List ℕ) → write_array a room ≡ accepted b → (array_of (of_array a) ≡ a) × (write_of (of_array a) room ≡ accepted b)
unfolding write_array of_array
array_written a room b e = go (eqb (length a) PLACES) refl (known (octet_of (get_or a 0 (pos 0)))) refl (are_octets (take 9 (drop 1 a))) refl e
  where
    go : (x : Bool) → eqb (length a) PLACES ≡ x → (y : Bool) → known (octet_of (get_or a 0 (pos 0))) ≡ y → (z : Bool) → are_octets (take 9 (drop 1 a)) ≡ z
        → pick x (pick y (pick z (write_of (of_array a) room) (refused 10 0)) (refused 1 0)) (refused 10 0) ≡ accepted b → (array_of (of_array a) ≡ a) × (write_of (of_array a) room ≡ accepted b)
    go true ex true ey true ez h = (array_record a (eqb-true (length a) PLACES ex) (known_octet (get_or a 0 (pos 0)) ey) (subst T (sym ez) tt), h)
    go true ex true ey false ez h = refused≢accepted h
    go true ex false ey z ez h = refused≢accepted h
    go false ex y ey z ez h = refused≢accepted h

-- ---- the words

module _ (a : Answer) (f : FitAnswer a) where
  answer_tells : Tells (answer_word a) (number_of a) 0 (place_of a) (length_of a)
  unfolding answer_word
  answer_tells = word_tells (number_of a) 0 (place_of a) (length_of a) (omega arith) f

pub read_tells : (cat : ℕ) (s : List ℕ) → Octets s → (room : ℕ) → (let a = fill_answer room (read_of cat s).answer in Tells (answer_word a) (number_of a) 0 (place_of a) (length_of a))
read_tells cat s o room = answer_tells (fill_answer room (read_of cat s).answer) (fill_fits room (read_of cat s).answer (read_fits cat s o))

pub write_tells : (z : List ℤ) (room : ℕ) → (let a = answer_of (write_array z room) in Tells (answer_word a) (number_of a) 0 (place_of a) (length_of a))
write_tells z room = answer_tells (answer_of (write_array z room)) (write_fits z room)

pub edit_tells : (cat : ℕ) (s : List ℕ) (list item : ℕ) (ch : Change) (room : ℕ) → Octets s → Octets (new_octets ch)
    → (let a = answer_of (edit_of cat s list item ch room) in Tells (answer_word a) (number_of a) 0 (place_of a) (length_of a))
edit_tells cat s list item ch room os on = answer_tells (answer_of (edit_of cat s list item ch room)) (edit_fits cat s list item ch room os on)

pub view_tells : (cat : ℕ) (s : List ℕ) → Octets s → (item : ℕ) → (let v = view_of cat s item in Tells (view_word v) (view_number v) 0 (view_place v) (view_length v))
unfolding view_word side_word
view_tells cat s o item = let v = view_of cat s item in word_tells (view_number v) 0 (view_place v) (view_length v) (omega arith) (view_fits cat s o item)

which_small : (w : Which) → which_number w < 65_536
unfolding which_number
which_small Neither = omega arith
which_small Base = omega arith
which_small Correction = omega arith

pub choose_tells : (cat : ℕ) (b c : List ℕ) → Octets b → Octets c → (item : ℕ)
    → (let x = choose_of cat b c item in Tells (choice_word x) (view_number x.view) (which_number x.which) (view_place x.view) (view_length x.view))
unfolding choice_word side_word
choose_tells cat b c ob oc item =
    let x = choose_of cat b c item in
    word_tells (view_number x.view) (which_number x.which) (view_place x.view) (view_length x.view) (which_small x.which) (choose_fits cat b c ob oc item)

pub rebuild_tells : (t : List ℕ) (room : ℕ)
    → (let o = rebuild_of t room in let a = answer_of (octets_given o) in Tells (rebuilt_word o) (number_of a) (category_given o) (place_of a) (length_of a))
unfolding rebuilt_word beside_word
rebuild_tells t room =
    let o = rebuild_of t room in
    let a = answer_of (octets_given o) in
    let f = rebuilt_few t room in
    word_tells (number_of a) (category_given o) (place_of a) (length_of a) (omega (arith, f.category)) (omega (arith, f.place), omega (arith, f.octets))
