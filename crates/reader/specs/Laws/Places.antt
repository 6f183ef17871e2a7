-- A row of items by their places: it is the row of the codec, and the code's steps are its places.
use Rattle.std.specs.Prelude.{◌≡◌, Bool, List, [], ◌∷◌, ◌++◌, ℕ, zero, suc, ◌+◌, ◌-◌, ◌*◌, ◌≤◌, ◌<◌, pos, Result, Ok, Err, IsErrAnd}
use Rattle.std.proofs.Math.Path.{refl, ap}
use Rattle.std.proofs.Common.{sym, ◌∙◌, append_assoc, append-nil}
use Rattle.std.proofs.Math.Bool.{true, false}
use native.Mathlib.Omega.{arith}
use borrow.Author.Tests.{ne_eqb, eqb-true}
use Rattle.std.proofs.Math.Dec.{eqb}
use Rattle.std.proofs.Math.ListN.{length, replicate}
use Rattle.std.proofs.lemmas.Result.{err_from_is_err_and}
use Rattle.codec.specs.Codec.{Res, got, bad, map_res, shift, opt}
use Rattle.codec.specs.Line.{Held}
use Rattle.codec.specs.Item.{slots, nothing, item}
use Rattle.codec.specs.Field.{first_flag, next_flags, flags}
use Rattle.papers.specs.Papers.{known, items_of}
use Rattle.papers.specs.Cat048.{cat048}
use Rattle.papers.specs.Cat021.{cat021}
use Rattle.papers.specs.Cat007.{cat007}
use Rattle.papers.proofs.Laws.Papers.{paper_048, paper_021, paper_007}
use Rattle.spots.specs.Spots.{spot_at, spot_of, item_on}
use Rattle.reader.specs.declared.lines.Stop.{Stop}
use Rattle.reader.specs.declared.places.Places.{Places}
use Rattle.reader.specs.Items.{item_run}
use Rattle.reader.specs.Rows.{place_run, Found, found, go_on, row_from}
use Rattle.reader.specs.Seen.{Ends, Went, step_number}
use Rattle.reader.specs.Places.{behind_all, add_place, places_on, places_from, RowSeen}
use Rattle.reader.specs.Laws.Seen.{ends_got, ends_bad, ended, ends_same, err_big}

stays_bad : (k n : ℕ) (ds xs : List ℕ) (e p : ℕ) → places_on k n ds xs (bad e p) ≡ bad e p
unfolding places_on
stays_bad k zero ds xs e p = refl
stays_bad k (suc n) ds xs e p = stays_bad (k + 1) n (next_flags ds) xs e p

on_is : (k n : ℕ) (ds xs ps : List ℕ) (at : ℕ) → places_on k n ds xs (got ps at) ≡ map_res (λ (f : Found). ps ++ f.1) (row_from k n ds xs at)
unfolding places_on row_from
on_is k zero ds xs ps at = ap (λ x. got x at) (sym (append-nil ps))
on_is k (suc n) ds xs ps at = go (λ qs m. on_is (k + 1) n (next_flags ds) xs qs m) (place_run k (eqb (first_flag ds) 1) xs at)
  where
    next : (v : Held) (m : ℕ) (x : Res Found) → map_res (λ (f : Found). (ps ++ (m ∷ [])) ++ f.1) x ≡ map_res (λ (f : Found). ps ++ f.1) (found v m x)
    next v m (got f e) = ap (λ y. got y e) (append_assoc ps (m ∷ []) f.1)
    next v m (bad e p) = refl

    go : ((qs : List ℕ) (m : ℕ) → places_on (k + 1) n (next_flags ds) xs (got qs m) ≡ map_res (λ (f : Found). qs ++ f.1) (row_from (k + 1) n (next_flags ds) xs m))
        → (y : Res Held) → places_on (k + 1) n (next_flags ds) xs (behind_all ps y) ≡ map_res (λ (f : Found). ps ++ f.1) (go_on y (λ m. row_from (k + 1) n (next_flags ds) xs m))
    go ih (got v m) = ih (ps ++ (m ∷ [])) m ∙ next v m (row_from (k + 1) n (next_flags ds) xs m)
    go ih (bad e p) = stays_bad (k + 1) n (next_flags ds) xs e p

pub places_are : (k n : ℕ) (ds xs : List ℕ) → places_from k n ds xs ≡ map_res (λ (f : Found). 2 ∷ f.1) (row_from k n ds xs 2)
unfolding places_from
places_are k n ds xs = on_is k n ds xs (2 ∷ []) 2

-- one item by its number, as the dispatch has it
pub item_ends : (k K : ℕ) → k ≡ K → (xs : List ℕ) {x : Res Held} → x ≡ item_run K xs 0 → {r : ℕ} → Ends x r → Ends (item_run k xs 0) r
item_ends k K e xs q s = ends_same s (q ∙ ap (λ j. item_run j xs 0) (sym e))

-- a refusal that `?` hands on ends the row
pub row_stop : (k n : ℕ) (ds xs : List ℕ) {x : Res (List ℕ)} {m : ℕ} {r : Result Places Stop} (e : Stop) → IsErrAnd r (λ y. y ≡ e) → Ends x (step_number (Err e)) → RowSeen (places_on k n ds xs x) m r
row_stop k n ds xs {x} {r = r} e h s = let p = err_from_is_err_and r h in rw (p.1, p.2) (record {
  step = ended s
      (λ _ _ g. absurd (omega (arith, g, err_big e)))
      (λ q p ex er f. ends_bad q p (ap (places_on k n ds xs) ex ∙ stays_bad k n ds xs q p) er f);
  places = λ p q. let z : ◌≡◌ {A = Result Places Stop} (Err e) (Ok p) = q in let y : ◌≡◌ {A = ℕ} 0 1 = cc in absurd (omega arith);
})

-- ---- so far the steps were so, and the last of them a

pub record Kept (x : Res (List ℕ)) (so : List ℕ) (a : ℕ) : Type 0 where
  pub ends : Ends x a
  pub all : (ps : List ℕ) (m : ℕ) → x ≡ got ps m → ps ≡ so

pub kept_none : Kept (got (2 ∷ []) 2) (2 ∷ []) 2
kept_none = record {
  ends = ends_got (2 ∷ []) 2 refl refl (omega arith);
  all = λ ps m e. let z : ◌≡◌ {A = List ℕ} (2 ∷ []) ps = cc in sym z;
}

-- a reading does not go back
pub place_grows : (k : ℕ) (t : Bool) (xs : List ℕ) (at : ℕ) (v : Held) (m : ℕ) → place_run k t xs at ≡ got v m → at ≤ m
unfolding place_run
place_grows k t xs at v m e = go ((opt (nothing (slots (item_on k))) t (item (item_on k))).read _) e
  where
    go : (y : Res Held) → shift at y ≡ got v m → at ≤ m
    go (got u n) h = let z : at + n ≡ m = cc in omega (arith, z)
    go (bad q p) h = let z : ◌≡◌ {A = ℕ} 0 1 = cc in absurd (omega arith)

module _ (k : ℕ) (t : Bool) (xs : List ℕ) {x : Res (List ℕ)} {so : List ℕ} {a r : ℕ} (s : Kept x so a) (w : Went t (item_run (spot_at k).0 xs a) a r) where
  -- what stands at the spot
  placed : a < 65_536 → Ends (place_run k t xs a) r
  unfolding place_run item_run
  placed h = go t refl
    where
      go : (u : Bool) → t ≡ u → Ends (place_run k u xs a) r
      go true e = w.there h e
      go false e = let z : a + 0 ≡ a = omega arith in ends_got (0, replicate (slots (item_on k)) (pos 0)) a (ap (got (0, replicate (slots (item_on k)) (pos 0))) z) (w.absent h e) h

  pub kept_on : Kept (add_place k t xs x) (so ++ (r ∷ [])) r
  kept_on = ended s.ends goes stops
    where
      stops : (e p : ℕ) → x ≡ bad e p → a ≡ e * 65_536 + p → (5 ≤ e) × (e ≤ 8) × (p < 65_536) → Kept (add_place k t xs x) (so ++ (r ∷ [])) r
      stops e p ex er f =
          let z : add_place k t xs x ≡ bad e p = ap (add_place k t xs) ex in
          record { ends = ends_bad e p z (w.stops (omega (arith, er, f.0)) ∙ er) f; all = λ ps m g. let q : ◌≡◌ {A = Res (List ℕ)} (bad e p) (got ps m) = sym z ∙ g in let y : ◌≡◌ {A = ℕ} 0 1 = cc in absurd (omega arith) }

      goes : (ps : List ℕ) → x ≡ got ps a → a < 65_536 → Kept (add_place k t xs x) (so ++ (r ∷ [])) r
      goes ps ex h = ended (placed h) there fell
        where
          at_once : add_place k t xs x ≡ behind_all ps (place_run k t xs a)
          at_once = ap (add_place k t xs) ex

          fell : (e p : ℕ) → place_run k t xs a ≡ bad e p → r ≡ e * 65_536 + p → (5 ≤ e) × (e ≤ 8) × (p < 65_536) → Kept (add_place k t xs x) (so ++ (r ∷ [])) r
          fell e p ey er f =
              let z : add_place k t xs x ≡ bad e p = at_once ∙ ap (behind_all ps) ey in
              record { ends = ends_bad e p z er f; all = λ qs m g. let q : ◌≡◌ {A = Res (List ℕ)} (bad e p) (got qs m) = sym z ∙ g in let y : ◌≡◌ {A = ℕ} 0 1 = cc in absurd (omega arith) }

          there : (v : Held) → place_run k t xs a ≡ got v r → r < 65_536 → Kept (add_place k t xs x) (so ++ (r ∷ [])) r
          there v ey g =
              let z : add_place k t xs x ≡ got (ps ++ (r ∷ [])) r = at_once ∙ ap (behind_all ps) ey in
              record {
                ends = ends_got (ps ++ (r ∷ [])) r z refl g;
                all = λ qs m e.
                    let q : got (ps ++ (r ∷ [])) r ≡ got qs m = sym z ∙ e in
                    let eq : ps ++ (r ∷ []) ≡ qs = cc in
                    sym eq ∙ ap (◌++ (r ∷ [])) (s.all ps a ex);
              }

-- the row at its end
pub kept_row : (n : ℕ) {x : Res (List ℕ)} {so : List ℕ} {r : Places} → Kept x so r.0 → r.1 ≡ so ++ replicate (8 - n) 0 → RowSeen x n (Ok r)
kept_row n {x} {so} {r} s er = record {
  step = s.ends;
  places = λ p q ps m e.
      let z : ◌≡◌ {A = Result Places Stop} (Ok r) (Ok p) = q in let y : r ≡ p = cc in
      ap (λ (w : Places). w.1) (sym y) ∙ er ∙ ap (◌++ replicate (8 - n) 0) (sym (s.all ps m e));
}

-- ---- the row of each category

module _ (cat ind : ℕ) (xs : List ℕ) {r : Result Places Stop} where
  pub row_048 : cat ≡ 48 → RowSeen (places_from 0 5 (flags ind) xs) 5 r → RowSeen (places_from (spot_of cat) (items_of cat) (flags ind) xs) (items_of cat) r
  unfolding spot_of cat048
  row_048 e s =
      let en : items_of cat ≡ 5 = ap length (paper_048 cat e).0 in
      let ek : spot_of cat ≡ 0 = rw e refl in
      rw (en, ek) s

  pub row_021 : cat ≡ 21 → RowSeen (places_from 5 8 (flags ind) xs) 8 r → RowSeen (places_from (spot_of cat) (items_of cat) (flags ind) xs) (items_of cat) r
  unfolding spot_of cat021
  row_021 e s =
      let en : items_of cat ≡ 8 = ap length (paper_021 cat e).0 in
      let ek : spot_of cat ≡ 5 = rw e refl in
      rw (en, ek) s

  pub row_007 : known cat ≡ true → (cat ≡ 48 → ⊥) → (cat ≡ 21 → ⊥) → RowSeen (places_from 13 5 (flags ind) xs) 5 r → RowSeen (places_from (spot_of cat) (items_of cat) (flags ind) xs) (items_of cat) r
  unfolding spot_of known cat007
  row_007 h x y s =
      let q : known cat ≡ eqb cat 7 = rw (ne_eqb cat 48 x, ne_eqb cat 21 y) refl in
      let e : cat ≡ 7 = eqb-true cat 7 (sym q ∙ h) in
      let en : items_of cat ≡ 5 = ap length (paper_007 cat e).0 in
      let ek : spot_of cat ≡ 13 = rw e refl in
      rw (en, ek) s
