-- The taking of a field that was accepted: each item of its row stands where the survey found it, and the slots are filled from the left.
use Rattle.std.proofs.Math.Path.{◌≡◌, refl, sym, ap, ap₂, subst}
use Rattle.std.proofs.Common.{◌∙◌, subst₂, arith, ltb→lt, length-append, take-suc, take_all, length-take-le}
use Rattle.std.specs.Prelude.{Ok, Err, Option, Bool, true, false, List, [], ◌∷◌, ◌++◌, ℕ, suc, ◌+◌, ◌-◌, ◌≤◌, ◌<◌, ltb, ℤ, pos, take}
use borrow.Author.Tests.{ne_eqb, eqb-true}
use Rattle.std.proofs.Math.Dec.{T, eqb}
use Rattle.std.proofs.Math.ListN.{length, get_or, replicate, length-replicate, get_or-append}
use Rattle.std.proofs.Math.Seq.{sets}
use Rattle.codec.specs.Codec.{Octets, Res, got, bad}
use Rattle.codec.specs.Line.{Held}
use Rattle.codec.specs.Item.{slots}
use Rattle.codec.specs.Field.{flags, Contents}
use Rattle.codec.specs.Frame.{Outcome, accepted, refused}
use Rattle.codec.specs.Meaning.{len_of}
use Rattle.codec.proofs.Laws.Long.{LongBy, many}
use Rattle.codec.proofs.Laws.Sets.{sets_append, set_front}
use Rattle.papers.specs.Papers.{known, paper_of, items_of, SLOTS, all_slots}
use Rattle.papers.proofs.Laws.Papers.{paper_048, paper_021, paper_007, numbers_048, numbers_021, numbers_007, few_slots}
use Rattle.layout.specs.declared.Refusal.{Refusal}
use Rattle.layout.specs.declared.Survey.{Survey}
use Rattle.layout.specs.Answer.{Answer, Accepted, Refused, Reading, Surveyed, by_number, survey_by_number}
use Rattle.layout.specs.Record.{all_parts, all_numbers, flatten}
use Rattle.scope.specs.Reading.{field_of, no_record, shown, read_of, into_answer, kept_by, ReadsInto}
use Rattle.scope.specs.Survey.{surveyed, survey_of}
use Rattle.spots.specs.Spots.{spot_of, item_on}
use Rattle.spots.specs.Laws.Spots.{spots_right}
use Rattle.reader.specs.Slots.{Ready}
use Rattle.reader.specs.Rows.{place_run, Found, row_from}
use Rattle.reader.specs.Fields.{walk_of}
use Rattle.reader.specs.Taking.{is_got, start_of, is_there, place, ItemTaken, RowFits, RowTaken}
use Rattle.reader.specs.Laws.Steps.{ready_after}
use Rattle.reader.specs.Laws.Rows.{place_many, all_numbers_one, all_parts_one}
use Rattle.reader.specs.Laws.Whole.{ready_zeros, Sized, RowSized, row_sized, Walked, walked, found_sized, field_found, field_fell}
use Rattle.reader.specs.Laws.Surveys.{places_are}

-- ---- the row so far: i items were taken, whose numbers end at slot b and whose parts are ps

pub record Row (k n : ℕ) (ds xs starts : List ℕ) (l : List ℤ) (i b : ℕ) (m : List ℤ) (ps : List ℕ) : Type 0 where
  pub f : Found
  pub same : (g : Found) (e : ℕ) → row_from k n ds xs 2 ≡ got g e → f ≡ g
  pub items : Sized k n ds xs 2 f
  pub starts_are : starts ≡ (2 ∷ f.1) ++ replicate (8 - n) 0
  pub full : length m ≡ SLOTS
  pub long : length m ≡ length l
  pub base : b ≡ 0 + length (all_numbers (take i f.0))
  pub parts : ps ≡ all_parts (take i f.0)
  pub kept : Ready l 0 → m ≡ sets l 0 (all_numbers (take i f.0))

pub none_taken : {k n : ℕ} {ds xs starts : List ℕ} (l : List ℤ) → (length l ≡ SLOTS) × RowFits k n ds xs starts → Row k n ds xs starts l 0 0 l []
unfolding all_numbers all_parts
none_taken {k} {n} {ds} {xs} {starts} l h = go (row_from k n ds xs 2) refl h.1.there (row_sized k n ds xs 2)
  where
    go : (x : Res Found) → row_from k n ds xs 2 ≡ x → T (is_got x) → RowSized k n ds xs 2 x → Row k n ds xs starts l 0 0 l []
    go (bad e p) ex t s = absurd t
    go (got f e) ex t s = record { f = f; same = λ g q eg. (let z : got f e ≡ got g q = sym ex ∙ eg in cc); items = s; starts_are = h.1.starts_are f e ex; full = h.0; long = refl; base = refl; parts = refl; kept = λ z. refl }

module _ {k n : ℕ} {ds xs starts : List ℕ} {l : List ℤ} {i b : ℕ} {m : List ℤ} {ps : List ℕ} (s : Row k n ds xs starts l i b m ps) where
  -- the next item stands at its place
  module _ (g : T (ltb i n)) {t : Bool} (et : t ≡ eqb (get_or ds i 0) 1) {at : ℕ} (ea : at ≡ get_or starts i 0) where
    row_item : place_run (k + i) t xs at ≡ got (get_or s.f.0 i (0, [])) (get_or s.f.1 i 0)
    row_item =
        let h : i < n = ltb→lt i n g in
        let q : i < length (2 ∷ s.f.1) = omega (arith, s.items.places) in
        let w : at ≡ get_or (2 ∷ s.f.1) i 0 = ea ∙ ap (λ ss. get_or ss i 0) s.starts_are ∙ get_or-append (2 ∷ s.f.1) (replicate (8 - n) 0) 0 i q in
        ap₂ (λ j d. place_run (k + i) d xs j) w et ∙ s.items.each i h

    pub is_there_lem : T (is_got (place_run (k + i) t xs at))
    is_there_lem = subst (λ x. T (is_got x)) (sym row_item) tt

    pub one_taken : {r : ℕ} {m1 : List ℤ} → ItemTaken m b (place_run (k + i) t xs at) r m1 → Row k n ds xs starts l (suc i) (b + slots (item_on (k + i))) m1 (ps ++ (r ∷ []))
    one_taken {r} {m1} w =
        let h : i < n = ltb→lt i n g in
        let v : Held = get_or s.f.0 i (0, []) in
        let us : List Held = take i s.f.0 in
        let e : take (suc i) s.f.0 ≡ us ++ (v ∷ []) = take-suc s.f.0 i (0, []) (omega (arith, s.items.all)) in
        let lv : length v.1 ≡ slots (item_on (k + i)) = subst (LongBy many (slots (item_on (k + i)))) row_item (place_many (k + i) t xs at) in
        let en : all_numbers (take (suc i) s.f.0) ≡ all_numbers us ++ v.1 = ap all_numbers e ∙ all_numbers_one us v in record {
          f = s.f;
          same = s.same;
          items = s.items;
          starts_are = s.starts_are;
          full = w.taken.long ∙ s.full;
          long = w.taken.long ∙ s.long;
          base = omega (arith, ap length en, length-append (all_numbers us) v.1, s.base, lv);
          parts = ap₂ (λ x y. x ++ (y ∷ [])) s.parts (w.parts v _ row_item) ∙ sym (ap all_parts e ∙ all_parts_one us v);
          kept = λ z.
              w.taken.kept (ready_after z (all_numbers us) (s.kept z) s.base) v _ row_item
              ∙ ap₂ (λ x j. sets x j v.1) (s.kept z) s.base ∙ sym (sets_append l 0 (all_numbers us) v.1) ∙ ap (sets l 0) (sym en);
        }

  -- by where it begins: where it is not there the place says nothing
  module _ (g : T (ltb i n)) {start : Option ℕ} (e : start ≡ start_of (eqb (get_or ds i 0) 1) (get_or starts i 0)) where
    pub next_asks : T (is_got (place_run (k + i) (is_there start) xs (place start)))
    unfolding place_run
    next_asks = rw e (go (eqb (get_or ds i 0) 1) (is_there_lem g refl refl))
      where
        go : (t : Bool) → T (is_got (place_run (k + i) t xs (get_or starts i 0))) → T (is_got (place_run (k + i) (is_there (start_of t (get_or starts i 0))) xs (place (start_of t (get_or starts i 0)))))
        go true h = h
        go false h = tt

    pub next_taken : {r : ℕ} {m1 : List ℤ} → ItemTaken m b (place_run (k + i) (is_there start) xs (place start)) r m1 → Row k n ds xs starts l (suc i) (b + slots (item_on (k + i))) m1 (ps ++ (r ∷ []))
    unfolding place_run
    next_taken {r} {m1} w = one_taken g refl refl (go (eqb (get_or ds i 0) 1) (rw e at w))
      where
        go : (t : Bool) → ItemTaken m b (place_run (k + i) (is_there (start_of t (get_or starts i 0))) xs (place (start_of t (get_or starts i 0)))) r m1 → ItemTaken m b (place_run (k + i) t xs (get_or starts i 0)) r m1
        go true w = w
        go false w = record {
          taken = record { long = w.taken.long; kept = λ z v n ex. w.taken.kept z v 0 (let q : v ≡ (0, replicate (slots (item_on (k + i))) (pos 0)) = cc in rw q refl) };
          parts = λ v n ex. w.parts v 0 (let q : v ≡ (0, replicate (slots (item_on (k + i))) (pos 0)) = cc in rw q refl);
        }

  -- the last item was taken
  pub all_taken : i ≡ n → RowTaken l n (row_from k n ds xs 2) (ps ++ replicate (8 - n) 0) m
  all_taken h =
      let all : take i s.f.0 ≡ s.f.0 = take_all i s.f.0 (omega (arith, s.items.all)) in record {
        long = s.long;
        parts = λ g e eg. ap (◌++ replicate (8 - n) 0) (s.parts ∙ ap all_parts (all ∙ ap (λ x. x.0) (s.same g e eg)));
        kept = λ z g e eg. s.kept z ∙ ap (λ vs. sets l 0 (all_numbers vs)) (all ∙ ap (λ x. x.0) (s.same g e eg));
      }

-- ---- the row of each category

module _ (cat : ℕ) {k n : ℕ} (e : (spot_of cat ≡ k) × (items_of cat ≡ n)) where
  pub fits_of : {ds xs starts : List ℕ} → RowFits (spot_of cat) (items_of cat) ds xs starts → RowFits k n ds xs starts
  fits_of {ds} {xs} {starts} h = subst₂ (λ j i. RowFits j i ds xs starts) e.0 e.1 h

  pub taken_of : (ds xs : List ℕ) {l m : List ℤ} {r : List ℕ} → RowTaken l n (row_from k n ds xs 2) r m → RowTaken l (items_of cat) (row_from (spot_of cat) (items_of cat) ds xs 2) r m
  taken_of ds xs {l} {m} {r} w = subst₂ (λ j i. RowTaken l i (row_from j i ds xs 2) r m) (sym e.0) (sym e.1) w

module _ (cat : ℕ) where
  pub place_048 : cat ≡ 48 → (spot_of cat ≡ 0) × (items_of cat ≡ 5)
  unfolding spot_of
  place_048 e = (rw e refl, ap length (paper_048 cat e).0 ∙ numbers_048.0)

  pub place_021 : cat ≡ 21 → (spot_of cat ≡ 5) × (items_of cat ≡ 8)
  unfolding spot_of
  place_021 e = (rw e refl, ap length (paper_021 cat e).0 ∙ numbers_021.0)

  pub place_007 : known cat ≡ true → (cat ≡ 48 → ⊥) → (cat ≡ 21 → ⊥) → (spot_of cat ≡ 13) × (items_of cat ≡ 5)
  unfolding spot_of known
  place_007 h x y =
      let q : known cat ≡ eqb cat 7 = rw (ne_eqb cat 48 x, ne_eqb cat 21 y) refl in
      let e : cat ≡ 7 = eqb-true cat 7 (sym q ∙ h) in
      (rw e refl, ap length (paper_007 cat e).0 ∙ numbers_007.0)

-- ---- a field that is read, by its answer

pub record Accepts (cat : ℕ) (s : List ℕ) (n : ℕ) : Type 0 where
  pub f : Found
  pub walk : Walked cat s f
  pub len : n ≡ len_of s
  pub holds : field_of cat s ≡ accepted (get_or s 1 0, f.0)
  pub reads : read_of cat s ≡ record { answer = Accepted n; kept = flatten cat (paper_of cat) (get_or s 1 0, f.0) }

module _ (cat : ℕ) (s : List ℕ) where
  accepts : {n : ℕ} → (read_of cat s).answer ≡ Accepted n → Accepts cat s n
  unfolding read_of shown
  accepts {n} ea = go (walk_of cat s) refl
    where
      go : (w : Outcome Found) → walk_of cat s ≡ w → Accepts cat s n
      go (refused q p) e = let z : Accepted n ≡ Refused q p = sym ea ∙ ap (λ y. (shown cat s y).answer) (field_fell cat s e) in let o : ◌≡◌ {A = ℕ} 0 1 = cc in absurd (omega arith)
      go (accepted f) e =
          let h : field_of cat s ≡ accepted (get_or s 1 0, f.0) = field_found cat s f e in
          let z : Accepted (len_of s) ≡ Accepted n = sym (ap (λ y. (shown cat s y).answer) h) ∙ ea in
          record { f = f; walk = walked cat s f e; len = cc; holds = h; reads = ap (shown cat s) h ∙ ap (λ y. record { answer = y; kept = flatten cat (paper_of cat) (get_or s 1 0, f.0) }) z }

  refuses : {q p : ℕ} → (read_of cat s).answer ≡ Refused q p → read_of cat s ≡ record { answer = Refused q p; kept = no_record }
  unfolding read_of shown
  refuses {q} {p} ea = go (field_of cat s) ea
    where
      go : (y : Outcome Contents) → (shown cat s y).answer ≡ Refused q p → shown cat s y ≡ record { answer = Refused q p; kept = no_record }
      go (accepted r) h = let o : ◌≡◌ {A = ℕ} 0 1 = cc in absurd (omega arith)
      go (refused i j) h = ap (λ y. record { answer = y; kept = no_record }) h

  -- it is what the survey answers
  same_answer : {x : Surveyed} → x ≡ survey_of cat s → (read_of cat s).answer ≡ x.answer
  unfolding read_of shown survey_of surveyed
  same_answer ex = go (field_of cat s) ∙ sym (ap (λ y. y.answer) ex)
    where
      go : (y : Outcome Contents) → (shown cat s y).answer ≡ (surveyed cat s y).answer
      go (accepted r) = refl
      go (refused q p) = refl

  pub accepted_by : {x : Surveyed} → x ≡ survey_of cat s → {n : ℕ} → x.answer ≡ Accepted n → Accepts cat s n
  accepted_by ex ea = accepts (same_answer ex ∙ ea)

  -- of a survey as code gives it
  pub accepted_ok : {v : Survey} → survey_by_number (Ok v) ≡ survey_of cat s → Accepts cat s v.len
  accepted_ok ex = accepted_by ex refl

-- ---- the ways out of `read_into`

pub into_refused : (cat : ℕ) (s : List ℕ) {x : Surveyed} → x ≡ survey_of cat s → {q p : ℕ} → x.answer ≡ Refused q p → {ps : List ℕ} {l : List ℤ} → ReadsInto (read_of cat s) ps l x.answer ps l
unfolding into_answer kept_by
into_refused cat s ex {q} {p} ea = let r : (read_of cat s).answer ≡ Refused q p = same_answer cat s ex ∙ ea in record { answer = rw r ea; parts = rw r refl; numbers = rw r refl }

pub into_err : (cat : ℕ) (s : List ℕ) (e : Refusal) → survey_by_number (Err e) ≡ survey_of cat s → {ps : List ℕ} {l : List ℤ} → ReadsInto (read_of cat s) ps l (by_number (Err e)) ps l
into_err cat s e ex = into_refused cat s ex refl

module _ {cat : ℕ} {s : List ℕ} {n : ℕ} (k : Accepts cat s n) where
  pub into_none : {ps : List ℕ} {l : List ℤ} → (length l ≡ SLOTS → ⊥) → ReadsInto (read_of cat s) ps l (Refused 11 0) ps l
  unfolding into_answer kept_by
  into_none {l = l} z = let w = ne_eqb (length l) SLOTS z in let r = k.reads in record { answer = rw (r, w) refl; parts = rw (r, w) refl; numbers = rw (r, w) refl }

  pub room : n ≡ length (take n s)
  room = sym (length-take-le n s (subst (◌≤ length s) (sym k.len) k.walk.whole))

  module _ {x : Surveyed} (ex : x ≡ survey_of cat s) (l : List ℤ) {m : List ℤ} (em : m ≡ replicate (length l) (pos 0)) (el : length l ≡ SLOTS) where
    row_is : row_from (spot_of cat) (items_of cat) (flags x.items) (take n s) 2 ≡ got k.f (length (take (len_of s) s))
    unfolding survey_of surveyed
    row_is = ap₂ (λ i j. row_from (spot_of cat) (items_of cat) (flags i) (take j s) 2) (ap (λ y. y.items) ex ∙ ap (λ y. (surveyed cat s y).items) k.holds) k.len ∙ k.walk.row_is

    pub row-asks : Octets s → (known cat ≡ true) × (length m ≡ SLOTS) × RowFits (spot_of cat) (items_of cat) (flags x.items) (take n s) x.starts
    unfolding survey_of surveyed
    row-asks o = (
      k.walk.known_is,
      ap length em ∙ length-replicate (length l) (pos 0) ∙ el,
      record {
        there = subst (λ y. T (is_got y)) (sym row_is) tt;
        starts_are = λ g e eg.
            let q : got k.f (length (take (len_of s) s)) ≡ got g e = sym row_is ∙ eg in
            let z : k.f ≡ g = cc in
            ap (λ y. y.starts) ex ∙ ap (λ y. (surveyed cat s y).starts) k.holds ∙ ap (◌++ replicate (8 - items_of cat) 0) (sym (places_are cat s o k.f k.walk) ∙ ap (λ (y : Found). 2 ∷ y.1) z);
      },
    )

    pub into_all : {ps qs : List ℕ} {z : List ℤ} → RowTaken m (items_of cat) (row_from (spot_of cat) (items_of cat) (flags x.items) (take n s) 2) qs z → ReadsInto (read_of cat s) ps l (Accepted n) qs z
    unfolding into_answer kept_by flatten
    into_all {z = z} t =
        let zn : length (all_numbers k.f.0) ≡ all_slots (paper_of cat) = (found_sized cat s k.f k.walk).numbers ∙ ap all_slots (spots_right cat k.walk.known_is).items_are in
        let ez : m ≡ replicate SLOTS (pos 0) = em ∙ ap (λ j. replicate j (pos 0)) el in
        let eq : z ≡ all_numbers k.f.0 ++ replicate (SLOTS - all_slots (paper_of cat)) (pos 0)
        = t.kept (subst (λ y. Ready y 0) (sym ez) ready_zeros) k.f _ row_is ∙ ap (λ y. sets y 0 (all_numbers k.f.0)) ez ∙ set_front (pos 0) SLOTS (all_numbers k.f.0) (all_slots (paper_of cat)) zn (few_slots cat) in
        let r = k.reads in record { answer = rw (r, el) refl; parts = rw (r, el) (t.parts k.f _ row_is); numbers = rw (r, el) eq }

-- ---- the ways out of `read`

module _ (cat : ℕ) (s : List ℕ) {a : Answer} {qs : List ℕ} {m : List ℤ} (w : ReadsInto (read_of cat s) (replicate 8 0) (replicate SLOTS (pos 0)) a qs m) where
  own_answer : (read_of cat s).answer ≡ a
  unfolding into_answer
  own_answer = go (read_of cat s).answer ∙ sym w.answer
    where
      go : (y : Answer) → y ≡ into_answer SLOTS y
      go (Accepted n) = refl
      go (Refused q p) = refl

  pub read_refused : {q p : ℕ} → a ≡ Refused q p → ◌≡◌ {A = Reading} (record { answer = a; kept = record { cat = 0; items = 0; parts = replicate 8 0; numbers = replicate SLOTS (pos 0) } }) (read_of cat s)
  unfolding no_record
  read_refused ea = rw ea (sym (refuses cat s (own_answer ∙ ea)))

  module _ {n : ℕ} (ea : a ≡ Accepted n) where
    pub two_there : 2 ≤ length s
    two_there = (accepts cat s (own_answer ∙ ea)).walk.two

    pub read_accepted : ◌≡◌ {A = Reading} (record { answer = a; kept = record { cat = cat; items = get_or s 1 0; parts = qs; numbers = m } }) (read_of cat s)
    unfolding into_answer kept_by flatten
    read_accepted =
        let k : Accepts cat s n = accepts cat s (own_answer ∙ ea) in
        let r = k.reads in
        let ep : qs ≡ (flatten cat (paper_of cat) (get_or s 1 0, k.f.0)).parts = rw r at w.parts in
        let eq : m ≡ (flatten cat (paper_of cat) (get_or s 1 0, k.f.0)).numbers = rw r at w.numbers in
        (λ i. record { answer = ea i; kept = record { cat = cat; items = get_or s 1 0; parts = ep i; numbers = eq i } }) ∙ sym r
