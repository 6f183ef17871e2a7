-- What `survey` answers: where each item begins, behind the last item where the field ends.
use Rattle.std.specs.Prelude.{◌≡◌, refl, Bool, List, [], ◌∷◌, ◌++◌, ℕ, zero, suc, ◌+◌, ◌-◌, ◌≤◌, ◌<◌, T, eqb, length, get_or, take, drop, replicate}
use Rattle.std.proofs.Common.{sym, ap, ◌∙◌, subst, not-suc-le-zero, le_of_suc-le-suc, arith, length-take-le}
use Rattle.codec.specs.Codec.{Octets, Res, got, bad, shift, Was, opt}
use Rattle.codec.specs.Line.{Held}
use Rattle.codec.specs.Item.{Item, slots, nothing, item, good_item}
use Rattle.codec.specs.Field.{uncons, first_flag, next_flags, place, flags, Contents, good_items, texts, texts_of, before}
use Rattle.codec.specs.Frame.{Outcome, accepted, refused}
use Rattle.codec.specs.Meaning.{len_of}
use Rattle.codec.proofs.Laws.Tests.{and_l, and_r}
use Rattle.codec.proofs.Laws.Codec.{octets_drop, octets_take, lawful_opt}
use Rattle.codec.proofs.Laws.Item.{only-nothing, lawful_item}
use Rattle.codec.proofs.Laws.Field.{length-texts}
use Rattle.codec.proofs.Laws.View.{before_next}
use Rattle.papers.specs.Papers.{paper_of, items_of}
use Rattle.papers.proofs.Laws.Papers.{good_paper}
use Rattle.layout.specs.Answer.{Accepted}
use Rattle.scope.specs.Survey.{starts_from, surveyed, survey_of}
use Rattle.spots.specs.Spots.{spot_of, item_on, items_from}
use Rattle.spots.specs.Laws.Spots.{spots_right}
use Rattle.reader.specs.Rows.{place_run, Found, found, go_on, row_from}
use Rattle.reader.specs.Fields.{walk_of}
use Rattle.reader.specs.Places.{surveyed_by}
use Rattle.reader.specs.Laws.Whole.{Walked, walked, field_found, field_fell}

-- ---- where the texts begin

starts_at : (at : ℕ) (ts : List (List ℕ)) (zs : List ℕ) (i : ℕ) → i ≤ length ts → get_or (starts_from at ts ++ zs) i 0 ≡ at + before ts i
unfolding starts_from before
starts_at at [] zs zero h = omega arith
starts_at at [] zs (suc i) h = absurd (not-suc-le-zero h)
starts_at at (t ∷ ts) zs zero h = omega arith
starts_at at (t ∷ ts) zs (suc i) h = let ih : get_or (starts_from (at + length t) ts ++ zs) i 0 ≡ at + length t + before ts i = starts_at (at + length t) ts zs i (le_of_suc-le-suc h) in ih ∙ (omega arith)

-- an item of a field: where it begins, and its length
module _ (cat : ℕ) (r : Contents) (zs : List ℕ) where
  many : length (texts_of (paper_of cat) r) ≡ items_of cat
  unfolding texts_of
  many = length-texts (flags r.0) (paper_of cat) r.1

  pub begins : (i : ℕ) → i < items_of cat → get_or (starts_from 2 (texts_of (paper_of cat) r) ++ zs) i 0 ≡ 2 + before (texts_of (paper_of cat) r) i
  begins i h = let m = many in starts_at 2 (texts_of (paper_of cat) r) zs i (omega (arith, m))

  pub ends : (i : ℕ) → i < items_of cat → get_or (starts_from 2 (texts_of (paper_of cat) r) ++ zs) (suc i) 0 ≡ 2 + before (texts_of (paper_of cat) r) i + length (get_or (texts_of (paper_of cat) r) i [])
  ends i h =
      let m = many in
      let n : before (texts_of (paper_of cat) r) (suc i) ≡ before (texts_of (paper_of cat) r) i + length (get_or (texts_of (paper_of cat) r) i []) = before_next (texts_of (paper_of cat) r) i (omega (arith, m)) in
      starts_at 2 (texts_of (paper_of cat) r) zs (suc i) (omega (arith, m)) ∙ (omega (arith, n))

-- ---- the places that a row finds are where its texts end

place_end : (k : ℕ) (t : Bool) → T (good_item (item_on k)) → (xs : List ℕ) → Octets xs → (at : ℕ) (v : Held) (m : ℕ) → place_run k t xs at ≡ got v m
    → at + length ((opt (nothing (slots (item_on k))) t (item (item_on k))).write v) ≡ m
unfolding place_run
place_end k t g xs o at v m e = go ((opt (nothing (slots (item_on k))) t (item (item_on k))).read (drop at xs)) refl e
  where
    go : (x : Res Held) → (opt (nothing (slots (item_on k))) t (item (item_on k))).read (drop at xs) ≡ x → shift at x ≡ got v m → at + length ((opt (nothing (slots (item_on k))) t (item (item_on k))).write v) ≡ m
    go (bad q p) ex h = let z : ◌≡◌ {A = ℕ} 0 1 = cc in absurd (omega arith)
    go (got u n) ex h =
        let eu : u ≡ v = cc in
        let em : at + n ≡ m = cc in
        let w : Was (opt (nothing (slots (item_on k))) t (item (item_on k))) (drop at xs) u n = (lawful_opt (only-nothing (slots (item_on k))) t (lawful_item (item_on k) g)).back (drop at xs) (octets_drop at xs o) u n ex in
        ap (λ x. at + length ((opt (nothing (slots (item_on k))) t (item (item_on k))).write x)) (sym eu) ∙ ap (at +◌) (ap length (sym w.took) ∙ length-take-le n (drop at xs) w.within) ∙ em

abbrev RowStarts : ℕ → List ℕ → List Item → Res Found → Type 0
RowStarts at ds its (got f e) = ◌≡◌ {A = List ℕ} (at ∷ f.1) (starts_from at (texts ds its f.0))
RowStarts at ds its (bad e p) = Unit {0}

row_starts : (k n : ℕ) → T (good_items (items_from k n)) → (ds xs : List ℕ) → Octets xs → (at : ℕ) → RowStarts at ds (items_from k n) (row_from k n ds xs at)
unfolding row_from items_from starts_from texts good_items uncons
row_starts k zero g ds xs o at = refl
row_starts k (suc n) g ds xs o at =
    by (λ m. row_starts (k + 1) n (and_r (good_item (item_on k)) _ g) (next_flags ds) xs o m) (place_run k (eqb (first_flag ds) 1) xs at) (place_end k (eqb (first_flag ds) 1) (and_l (good_item (item_on k)) _ g) xs o at)
  where
    next : (v : Held) (m : ℕ) → at + length ((place (first_flag ds) (item_on k)).write v) ≡ m → (x : Res Found) → RowStarts m (next_flags ds) (items_from (k + 1) n) x → RowStarts at ds (item_on k ∷ items_from (k + 1) n) (found v m x)
    next v m l (bad e p) s = tt
    next v m l (got f e) s = ap (at ∷◌) (s ∙ ap (λ j. starts_from j (texts (next_flags ds) (items_from (k + 1) n) f.0)) (sym l))

    by : ((m : ℕ) → RowStarts m (next_flags ds) (items_from (k + 1) n) (row_from (k + 1) n (next_flags ds) xs m))
        → (y : Res Held) → ((v : Held) (m : ℕ) → y ≡ got v m → at + length ((place (first_flag ds) (item_on k)).write v) ≡ m)
        → RowStarts at ds (item_on k ∷ items_from (k + 1) n) (go_on y (λ m. row_from (k + 1) n (next_flags ds) xs m))
    by ih (bad e p) l = tt
    by ih (got v m) l = next v m (l v m refl) (row_from (k + 1) n (next_flags ds) xs m) (ih m)

-- of a field that is accepted
pub places_are : (cat : ℕ) (s : List ℕ) → Octets s → (f : Found) → Walked cat s f → 2 ∷ f.1 ≡ starts_from 2 (texts_of (paper_of cat) (get_or s 1 0, f.0))
unfolding texts_of
places_are cat s o f k =
    let ei : items_from (spot_of cat) (items_of cat) ≡ paper_of cat = (spots_right cat k.known_is).items_are in
    subst (RowStarts 2 (flags (get_or s 1 0)) (items_from (spot_of cat) (items_of cat))) k.row_is
    (row_starts (spot_of cat) (items_of cat) (subst (λ x. T (good_items x)) (sym ei) (good_paper cat)) (flags (get_or s 1 0)) (take (len_of s) s) (octets_take (len_of s) s o) 2)
    ∙ ap (λ its. starts_from 2 (texts (flags (get_or s 1 0)) its f.0)) ei

-- ---- the survey by what the walk finds

pub survey_by : (cat : ℕ) (s : List ℕ) → Octets s → {o : Outcome Found} → walk_of cat s ≡ o → surveyed_by (items_of cat) (len_of s) (get_or s 1 0) o ≡ survey_of cat s
unfolding survey_of surveyed
survey_by cat s oct {o} e = go o e
  where
    go : (o : Outcome Found) → walk_of cat s ≡ o → surveyed_by (items_of cat) (len_of s) (get_or s 1 0) o ≡ survey_of cat s
    go (refused q r) e = rw (field_fell cat s e) refl
    go (accepted f) e = (λ i. record { answer = Accepted (len_of s); items = get_or s 1 0; starts = places_are cat s oct f (walked cat s f e) i ++ replicate (8 - items_of cat) 0 }) ∙ sym (ap (surveyed cat s) (field_found cat s f e))
