-- The choice between two fields, by the views of both.
use Rattle.std.specs.Prelude.{◌≡◌, Bool, List, [], ℕ, ◌+◌, ◌≤◌, length, take}
use Rattle.std.proofs.Math.Path.{refl, sym, ap, ap₂}
use Rattle.std.proofs.Common.{◌∙◌, arith}
use Rattle.std.proofs.Math.Bool.{true, false}
use Rattle.std.proofs.Math.Seq.{take-nil, drop-nil}
use Rattle.codec.specs.Pick.{pick}
use Rattle.codec.specs.Codec.{Octets}
use Rattle.codec.specs.Item.{Item}
use Rattle.codec.specs.Field.{Contents, body}
use Rattle.codec.specs.Frame.{Outcome, accepted, refused, read_frame}
use Rattle.papers.specs.Papers.{known, paper_of}
use Rattle.layout.specs.Answer.{Accepted, Refused, View, Shown, Hidden, Choice, Surveyed}
use Rattle.layout.specs.declared.Which.{Which}
use Rattle.layout.specs.declared.Which.TheVariants.{Neither, Base, Correction}
use Rattle.scope.specs.Reading.{field_of}
use Rattle.scope.specs.Views.{is_item, present, standing, view_in, view_of, part_of, choose_in, choose_of, side_of, chosen_of}
use Rattle.layout.specs.Laws.Answer.{Accepted≢Refused, Refused≢Accepted}
use Rattle.scope.specs.Survey.{surveyed, survey_of}
use Rattle.views.specs.Laws.Surveyed.{view_within}
use Rattle.views.specs.Choosing.{chosen_view}

pub chosen_correction : (b c : View) {a m : ℕ} → c ≡ Shown a m → record { which = Correction; view = c } ≡ chosen_view b c
unfolding chosen_view
chosen_correction b c e = rw e refl

pub chosen_base : (b c : View) {a m e p : ℕ} → c ≡ Hidden e p → b ≡ Shown a m → record { which = Base; view = b } ≡ chosen_view b c
unfolding chosen_view
chosen_base b c h k = rw (h, k) refl

pub chosen_neither : (b c : View) {n q e p : ℕ} → c ≡ Hidden e p → b ≡ Hidden n q → record { which = Neither; view = b } ≡ chosen_view b c
unfolding chosen_view
chosen_neither b c h k = rw (h, k) refl

-- ---- the choice of two accepted fields is between their views

-- by whether there is such an item, whether the correction has it, whether the base has it
abbrev among : View → View → Bool → Bool → Bool → Choice
among b c x y z =
    pick x (pick y (record { which = Correction; view = c }) (pick z (record { which = Base; view = b }) (record { which = Neither; view = Hidden 15 0 }))) (record { which = Neither; view = Hidden 12 0 })

chosen_in : (its : List Item) (item : ℕ) (r q : Contents) → chosen_view (view_in its item (accepted r)) (view_in its item (accepted q)) ≡ choose_in its item (accepted r) (accepted q)
unfolding chosen_view view_in choose_in standing
chosen_in its item r q = go (is_item its item) (present q item) (present r item)
  where
    go : (x y z : Bool) → chosen_view (pick x (pick z (standing its r item) (Hidden 15 0)) (Hidden 12 0)) (pick x (pick y (standing its q item) (Hidden 15 0)) (Hidden 12 0))
        ≡ among (standing its r item) (standing its q item) x y z
    go true true z = refl
    go true false true = refl
    go true false false = refl
    go false y z = refl

-- ---- the ways out of `choose_answer`

module _ (cat : ℕ) (b c : List ℕ) (item : ℕ) where
  pub choose_unknown : known cat ≡ false → record { which = Neither; view = Hidden 1 0 } ≡ choose_of cat b c item
  unfolding choose_of
  choose_unknown k = rw k refl

  module _ (k : known cat ≡ true) {x : Surveyed} (ex : x ≡ survey_of cat b) where
    choose_known : choose_in (paper_of cat) item (field_of cat b) (field_of cat c) ≡ choose_of cat b c item
    unfolding choose_of field_of
    choose_known = rw k refl

    pub choose_base : {n p : ℕ} → x.answer ≡ Refused n p → record { which = Base; view = Hidden n p } ≡ choose_of cat b c item
    unfolding survey_of surveyed choose_in
    choose_base {n} {p} h = go (field_of cat b) (sym (ap (λ (v : Surveyed). v.answer) ex) ∙ h) ∙ choose_known
      where
        go : (o : Outcome Contents) → (surveyed cat b o).answer ≡ Refused n p → record { which = Base; view = Hidden n p } ≡ choose_in (paper_of cat) item o (field_of cat c)
        go (accepted r) g = Accepted≢Refused g
        go (refused m q) g = let en : n ≡ m = cc in let ep : p ≡ q = cc in ap₂ (λ i j. record { which = Base; view = Hidden i j }) en ep

    module _ {l : ℕ} (ax : x.answer ≡ Accepted l) {y : Surveyed} (ey : y ≡ survey_of cat c) where
      pub choose_correction : {n p : ℕ} → y.answer ≡ Refused n p → record { which = Correction; view = Hidden n p } ≡ choose_of cat b c item
      unfolding survey_of surveyed choose_in
      choose_correction {n} {p} h =
          go (field_of cat b) (field_of cat c) (sym (ap (λ (v : Surveyed). v.answer) ex) ∙ ax) (sym (ap (λ (v : Surveyed). v.answer) ey) ∙ h) ∙ choose_known
        where
          go : (o u : Outcome Contents) → (surveyed cat b o).answer ≡ Accepted l → (surveyed cat c u).answer ≡ Refused n p → record { which = Correction; view = Hidden n p } ≡ choose_in (paper_of cat) item o u
          go (refused m q) u f g = Refused≢Accepted f
          go (accepted r) (accepted q) f g = Accepted≢Refused g
          go (accepted r) (refused m q) f g = let en : n ≡ m = cc in let ep : p ≡ q = cc in ap₂ (λ i j. record { which = Correction; view = Hidden i j }) en ep

      pub choose_both : {n : ℕ} → y.answer ≡ Accepted n → chosen_view (view_of cat b item) (view_of cat c item) ≡ choose_of cat b c item
      unfolding survey_of surveyed view_of
      choose_both {n} h =
          go (field_of cat b) (field_of cat c) (sym (ap (λ (v : Surveyed). v.answer) ex) ∙ ax) (sym (ap (λ (v : Surveyed). v.answer) ey) ∙ h) ∙ choose_known
        where
          go : (o u : Outcome Contents) → (surveyed cat b o).answer ≡ Accepted l → (surveyed cat c u).answer ≡ Accepted n → chosen_view (view_in (paper_of cat) item o) (view_in (paper_of cat) item u) ≡ choose_in (paper_of cat) item o u
          go (refused m q) u f g = Refused≢Accepted f
          go (accepted r) (refused m q) f g = Refused≢Accepted g
          go (accepted r) (accepted q) f g = chosen_in (paper_of cat) item r q

-- ---- the view of a choice is that of the field it names

in_base : (its : List Item) (item : ℕ) (o u : Outcome Contents) → (choose_in its item o u).which ≡ Base → (choose_in its item o u).view ≡ view_in its item o
unfolding choose_in view_in
in_base its item (refused n p) u e = refl
in_base its item (accepted r) (refused n p) e = let z : ◌≡◌ {A = ℕ} 0 1 = cc in absurd (omega arith)
in_base its item (accepted r) (accepted q) e = go (is_item its item) (present q item) (present r item) e
  where
    go : (x y z : Bool) → (among (standing its r item) (standing its q item) x y z).which ≡ Base → (among (standing its r item) (standing its q item) x y z).view ≡ pick x (pick z (standing its r item) (Hidden 15 0)) (Hidden 12 0)
    go true true z h = let w : ◌≡◌ {A = ℕ} 0 1 = cc in absurd (omega arith)
    go true false true h = refl
    go true false false h = refl
    go false y z h = refl

in_correction : (its : List Item) (item : ℕ) (o u : Outcome Contents) → (choose_in its item o u).which ≡ Correction → (choose_in its item o u).view ≡ view_in its item u
unfolding choose_in view_in
in_correction its item (refused n p) u e = let z : ◌≡◌ {A = ℕ} 0 1 = cc in absurd (omega arith)
in_correction its item (accepted r) (refused n p) e = refl
in_correction its item (accepted r) (accepted q) e = go (is_item its item) (present q item) (present r item) e
  where
    go : (x y z : Bool) → (among (standing its r item) (standing its q item) x y z).which ≡ Correction → (among (standing its r item) (standing its q item) x y z).view ≡ pick x (pick y (standing its q item) (Hidden 15 0)) (Hidden 12 0)
    go true true z h = refl
    go true false true h = let w : ◌≡◌ {A = ℕ} 0 1 = cc in absurd (omega arith)
    go true false false h = refl
    go false y z h = refl

part_of_none : (v : View) → [] ≡ part_of [] v
unfolding part_of
part_of_none (Shown a m) = sym (ap (take m) (drop-nil a) ∙ take-nil m)
part_of_none (Hidden e p) = refl

-- ---- the ways out of `choose`

module _ (cat : ℕ) (b c : List ℕ) (item : ℕ) {x : Choice} (ex : x ≡ choose_of cat b c item) where
  side_base : x.which ≡ Base → x.view ≡ view_of cat b item
  unfolding choose_of view_of view_in field_of
  side_base h = ap (λ (y : Choice). y.view) ex ∙ go (known cat) (sym (ap (λ (y : Choice). y.which) ex) ∙ h)
    where
      go : (k : Bool) → (pick k (choose_in (paper_of cat) item (read_frame (body (paper_of cat)) b) (read_frame (body (paper_of cat)) c)) (record { which = Neither; view = Hidden 1 0 })).which ≡ Base
          → (pick k (choose_in (paper_of cat) item (read_frame (body (paper_of cat)) b) (read_frame (body (paper_of cat)) c)) (record { which = Neither; view = Hidden 1 0 })).view ≡ view_in (paper_of cat) item (pick k (read_frame (body (paper_of cat)) b) (refused 1 0))
      go true g = in_base (paper_of cat) item (read_frame (body (paper_of cat)) b) (read_frame (body (paper_of cat)) c) g
      go false g = refl

  side_correction : x.which ≡ Correction → x.view ≡ view_of cat c item
  unfolding choose_of view_of view_in field_of
  side_correction h = ap (λ (y : Choice). y.view) ex ∙ go (known cat) (sym (ap (λ (y : Choice). y.which) ex) ∙ h)
    where
      go : (k : Bool) → (pick k (choose_in (paper_of cat) item (read_frame (body (paper_of cat)) b) (read_frame (body (paper_of cat)) c)) (record { which = Neither; view = Hidden 1 0 })).which ≡ Correction
          → (pick k (choose_in (paper_of cat) item (read_frame (body (paper_of cat)) b) (read_frame (body (paper_of cat)) c)) (record { which = Neither; view = Hidden 1 0 })).view ≡ view_in (paper_of cat) item (pick k (read_frame (body (paper_of cat)) c) (refused 1 0))
      go true g = in_correction (paper_of cat) item (read_frame (body (paper_of cat)) b) (read_frame (body (paper_of cat)) c) g
      go false g = refl

  pub base_within : Octets b → x.which ≡ Base → (a m : ℕ) → x.view ≡ Shown a m → a + m ≤ length b
  base_within o h a m e = view_within cat b o item a m (sym (side_base h) ∙ e)

  pub correction_within : Octets c → x.which ≡ Correction → (a m : ℕ) → x.view ≡ Shown a m → a + m ≤ length c
  correction_within o h a m e = view_within cat c o item a m (sym (side_correction h) ∙ e)

  pub part_side : {w : Which} → x.which ≡ w → part_of (side_of b c w) x.view ≡ chosen_of b c (choose_of cat b c item)
  unfolding chosen_of
  part_side h = sym (ap (λ w. part_of (side_of b c w) x.view) h) ∙ ap (chosen_of b c) ex

  pub part_neither : x.which ≡ Neither → [] ≡ chosen_of b c (choose_of cat b c item)
  unfolding side_of
  part_neither h = part_of_none x.view ∙ part_side h

  pub part_base : x.which ≡ Base → part_of b x.view ≡ chosen_of b c (choose_of cat b c item)
  unfolding side_of
  part_base h = part_side h

  pub part_correction : x.which ≡ Correction → part_of c x.view ≡ chosen_of b c (choose_of cat b c item)
  unfolding side_of
  part_correction h = part_side h
