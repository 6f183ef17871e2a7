-- The row as the survey of a field: nothing may be left behind its items.
use Rattle.std.specs.Prelude.{◌≡◌, Bool, true, false, List, ◌∷◌, ◌++◌, ℕ, ◌-◌, ◌<◌, eqb, replicate, Ok, Err}
use Rattle.std.proofs.Math.Path.{refl, ap}
use Rattle.std.proofs.Common.{sym, ap₂, ◌∙◌, subst, arith, eqb-true}
use Rattle.codec.specs.Pick.{pick}
use Rattle.codec.specs.Codec.{Res, got, bad, map_res}
use Rattle.codec.specs.Frame.{accepted, refused}
use Rattle.layout.specs.Answer.{Accepted, reason_number}
use Rattle.reader.specs.declared.lines.Stop.{Stop}
use Rattle.reader.specs.declared.places.Places.{Places}
use Rattle.reader.specs.Rows.{Found, row_from}
use Rattle.reader.specs.Fields.{ends}
use Rattle.reader.specs.Seen.{Ends, step_number}
use Rattle.reader.specs.Places.{places_from, RowSeen, unplaced_of, surveyed_by, closed_of}
use Rattle.reader.specs.Laws.Seen.{err_big}
use Rattle.reader.specs.Laws.Places.{places_are}

module _ (k n : ℕ) (ds xs : List ℕ) (ind len : ℕ) where
  as_code : (x : Res Found) → row_from k n ds xs 2 ≡ x → places_from k n ds xs ≡ map_res (λ (f : Found). 2 ∷ f.1) x
  as_code x ex = places_are k n ds xs ∙ ap (map_res (λ (f : Found). 2 ∷ f.1)) ex

  pub closed_is : {r : Places} → r.0 < 65_536 → RowSeen (places_from k n ds xs) n (Ok r) → closed_of r ind len ≡ surveyed_by n len ind (ends len (row_from k n ds xs 2))
  unfolding closed_of ends
  closed_is {r} small w = go (row_from k n ds xs 2) refl
    where
      go : (x : Res Found) → row_from k n ds xs 2 ≡ x → closed_of r ind len ≡ surveyed_by n len ind (ends len (row_from k n ds xs 2))
      go (bad e p) ex =
          let s : Ends (bad e p) r.0 = subst (λ x. Ends x r.0) (as_code (bad e p) ex) w.step in
          absurd (omega (arith, s.is, s.fits.0, small))
      go (got f e) ex =
          let q : places_from k n ds xs ≡ got (2 ∷ f.1) e = as_code (got f e) ex in
          let s : Ends (got (2 ∷ f.1) e) r.0 = subst (λ x. Ends x r.0) q w.step in
          rw (ex, sym s.is) (last (eqb r.0 len) refl q)
        where
          last : (b : Bool) → eqb r.0 len ≡ b → places_from k n ds xs ≡ got (2 ∷ f.1) e
              → pick b (record { answer = Accepted r.0; items = ind; starts = r.1 }) (unplaced_of 9 r.0) ≡ surveyed_by n len ind (pick b (accepted f) (refused 9 r.0))
          last false eb q = refl
          last true eb q =
              let y : r.0 ≡ len = eqb-true r.0 len eb in
              let t : r.1 ≡ (2 ∷ f.1) ++ replicate (8 - n) 0 = w.places r refl (2 ∷ f.1) e q in
              (λ i. record { answer = Accepted (y i); items = ind; starts = t i })

  pub stopped_is : {e : Stop} → e.at < 65_536 → RowSeen (places_from k n ds xs) n (Err e) → unplaced_of (reason_number e.reason) e.at ≡ surveyed_by n len ind (ends len (row_from k n ds xs 2))
  unfolding ends
  stopped_is {e} small w = go (row_from k n ds xs 2) refl
    where
      go : (x : Res Found) → row_from k n ds xs 2 ≡ x → unplaced_of (reason_number e.reason) e.at ≡ surveyed_by n len ind (ends len (row_from k n ds xs 2))
      go (bad q p) ex =
          let s : Ends (bad q p) (step_number (Err e)) = subst (λ x. Ends x (step_number (Err e))) (as_code (bad q p) ex) w.step in
          rw ex (ap₂ unplaced_of (omega (arith, s.is, s.fits.2, small)) (omega (arith, s.is, s.fits.2, small)))
      go (got f m) ex =
          let s : Ends (got (2 ∷ f.1) m) (step_number (Err e)) = subst (λ x. Ends x (step_number (Err e))) (as_code (got f m) ex) w.step in
          absurd (omega (arith, s.is, s.fits, err_big e))
