-- What lies behind a field that was accepted, and both round trips of the definitions: "Writing what was read gives the same octets; reading what was written gives the same record".
use Rattle.std.specs.Prelude.{◌≡◌, Bool, true, false, replicate}
use Rattle.std.proofs.Math.Path.{refl, sym, ap, subst}
use Rattle.std.proofs.Common.{ap₂, ◌∙◌, le_trans, arith, take-append-drop}
use mathlib.Core.List.{List, ◌∷◌, ◌++◌}
use Prim.Native.Nat.{ℕ, suc, ◌-◌, ◌≤◌}
use Rattle.std.proofs.Math.Dec.{T, eqb→eq}
use Rattle.std.proofs.Math.ListN.{length, get_or, take, drop, length-append, length-replicate}
use Rattle.codec.specs.Pick.{pick}
use Rattle.codec.specs.Codec.{Octets}
use Rattle.codec.specs.Item.{Item}
use Rattle.codec.specs.Field.{Contents, body, flags, flat, texts_of}
use Rattle.codec.specs.Frame.{Outcome, accepted, refused, read_frame, write_frame, okay_frame}
use Rattle.codec.specs.Meaning.{len_of}
use Rattle.codec.proofs.Laws.Tests.{and_l, and_r, holds}
use Rattle.codec.proofs.Laws.Field.{lawful_body, row_okay, body_write}
use Rattle.codec.proofs.Laws.Frame.{Front, refused≢accepted, map_outcome, frame-via, read_again, accepted_front, frame_octets}
use Rattle.codec.proofs.Laws.Longest.{okay_alone}
use Rattle.papers.specs.Papers.{known, paper_of}
use Rattle.papers.proofs.Laws.Papers.{good_paper, few_items, few_octets}
use Rattle.layout.specs.declared.Record.{Record}
use Rattle.layout.specs.Answer.{Reading, Accepted, Refused}
use Rattle.layout.specs.Record.{all_parts, flatten, unflatten, fits_paper, contents}
use Rattle.layout.specs.Laws.Answer.{Accepted≢Refused, Refused≢Accepted}
use Rattle.layout.specs.Laws.Record.{length_parts, lawful_contents}
use Rattle.scope.specs.Reading.{field_of, shown, read_of}
use Rattle.scope.specs.Survey.{surveyed, survey_of}
use Rattle.scope.specs.Writing.{writable, written}

-- ---- what lies behind a field that was accepted

pub record Read (cat : ℕ) (s : List ℕ) (n : ℕ) : Type 0 where
  pub what : Contents
  pub known_is : known cat ≡ true
  pub body_is : read_frame (body (paper_of cat)) s ≡ accepted what
  pub kept_is : (read_of cat s).kept ≡ flatten cat (paper_of cat) what
  pub len_is : n ≡ len_of s

pub kept_made : (cat : ℕ) (s : List ℕ) (r : Contents) → known cat ≡ true → read_frame (body (paper_of cat)) s ≡ accepted r
    → read_of cat s ≡ record { answer = Accepted (len_of s); kept = flatten cat (paper_of cat) r }
unfolding read_of shown field_of
kept_made cat s r k e = rw (k, e) refl

abbrev pub read_made : (cat : ℕ) (s : List ℕ) (r : Contents) → known cat ≡ true → read_frame (body (paper_of cat)) s ≡ accepted r → Read cat s (len_of s)
read_made cat s r k e = record { what = r; known_is = k; body_is = e; kept_is = ap (λ (x : Reading). x.kept) (kept_made cat s r k e); len_is = refl }

-- a field is read one way
pub one_reading : {cat : ℕ} {s : List ℕ} {n m : ℕ} (p : Read cat s n) (q : Read cat s m) → p.what ≡ q.what
one_reading {cat} {s} p q =
    let e : accepted p.what ≡ accepted q.what = sym p.body_is ∙ q.body_is in cc

-- ---- and of the field behind LEN

pub read_front : {cat : ℕ} {s : List ℕ} {n : ℕ} → Octets s → (r : Read cat s n) → Front (body (paper_of cat)) s r.what
read_front {cat} {s} o r = accepted_front (lawful_body (paper_of cat) (good_paper cat)) s o r.what r.body_is

pub read_okay : {cat : ℕ} {s : List ℕ} {n : ℕ} → Octets s → (r : Read cat s n) → T ((body (paper_of cat)).okay r.what)
unfolding okay_frame
read_okay {cat} o r = and_l ((body (paper_of cat)).okay r.what) _ (read_front o r).okay

-- what is written afresh is a field, whatever follows
module _ (cat : ℕ) (q : Contents) (k : T ((body (paper_of cat)).okay q)) where
  afresh_okay : T (okay_frame (body (paper_of cat)) q)
  afresh_okay = okay_alone (paper_of cat) (le_trans (few_octets cat) (omega arith)) q k

  pub afresh_read : (rest : List ℕ) → read_frame (body (paper_of cat)) (write_frame (body (paper_of cat)) q ++ rest) ≡ accepted q
  afresh_read rest = read_again (lawful_body (paper_of cat) (good_paper cat)) q afresh_okay rest

  pub afresh_octets : Octets (write_frame (body (paper_of cat)) q)
  afresh_octets = frame_octets (lawful_body (paper_of cat) (good_paper cat)) q afresh_okay

pub read_found : (cat : ℕ) (s : List ℕ) (n : ℕ) → (read_of cat s).answer ≡ Accepted n → Read cat s n
unfolding read_of shown field_of
read_found cat s n e = go (known cat) refl (read_frame (body (paper_of cat)) s) refl e
  where
    go : (b : Bool) → known cat ≡ b → (o : Outcome Contents) → read_frame (body (paper_of cat)) s ≡ o → (shown cat s (pick b o (refused 1 0))).answer ≡ Accepted n → Read cat s n
    go true eb (accepted r) eo h = record {
      what = r;
      known_is = eb;
      body_is = eo;
      kept_is = ap₂ (λ b o. (shown cat s (pick b o (refused 1 0))).kept) eb eo;
      len_is = cc;
    }
    go true eb (refused m p) eo h = Refused≢Accepted h
    go false eb o eo h = Refused≢Accepted h

-- ---- a survey answers as a reading does, and a refusal is the field's

pub survey_answer : (cat : ℕ) (s : List ℕ) → (survey_of cat s).answer ≡ (read_of cat s).answer
unfolding survey_of surveyed read_of shown
survey_answer cat s = go (field_of cat s)
  where
    go : (o : Outcome Contents) → (surveyed cat s o).answer ≡ (shown cat s o).answer
    go (accepted r) = refl
    go (refused n p) = refl

pub read_refused : (cat : ℕ) (s : List ℕ) {n p : ℕ} → (read_of cat s).answer ≡ Refused n p → field_of cat s ≡ refused n p
unfolding read_of shown
read_refused cat s {n} {p} e = go (field_of cat s) e
  where
    go : (o : Outcome Contents) → (shown cat s o).answer ≡ Refused n p → o ≡ refused n p
    go (accepted r) h = Accepted≢Refused h
    go (refused m q) h = cc

-- ---- the same field read to a record

module _ (cat : ℕ) (s : List ℕ) where
  pub as_record : (r : Contents) → read_frame (body (paper_of cat)) s ≡ accepted r → read_frame (contents cat) s ≡ accepted (flatten cat (paper_of cat) r)
  unfolding contents
  as_record r e =
      frame-via (flatten cat (paper_of cat)) (unflatten (paper_of cat)) (fits_paper cat (paper_of cat)) (body (paper_of cat)) s ∙ rw e refl

  -- a record that some field of the category reads to has the category
  pub same_category : (f : Record) → T (okay_frame (contents cat) f) → f.cat ≡ cat
  unfolding okay_frame contents fits_paper
  same_category f k = eqb→eq f.cat cat (search (and_l, and_r))

-- ---- "Writing what was read gives the same octets", and what was read can be written

module _ (cat : ℕ) (s : List ℕ) (o : Octets s) (n : ℕ) (e : (read_of cat s).answer ≡ Accepted n) where
  pub read_then_write : T (writable (read_of cat s).kept) × (written (read_of cat s).kept ≡ take n s)
  unfolding writable written
  read_then_write =
      let r = read_found cat s n e in
      let w = accepted_front (lawful_contents cat) s o (flatten cat (paper_of cat) r.what) (as_record cat s r.what r.body_is) in
      let c : (flatten cat (paper_of cat) r.what).cat ≡ cat = same_category cat s (flatten cat (paper_of cat) r.what) w.okay in
      subst (λ f. T (okay_frame (contents f.cat) f) × (write_frame (contents f.cat) f ≡ take n s)) (sym r.kept_is)
      (subst (λ d. T (okay_frame (contents d) (flatten cat (paper_of cat) r.what)) × (write_frame (contents d) (flatten cat (paper_of cat) r.what) ≡ take n s)) (sym c)
      (w.okay, sym w.front ∙ ap (λ m. take m s) (sym r.len_is)))

  pub read_category : (read_of cat s).kept.cat ≡ cat
  unfolding flatten
  read_category = ap (λ (f : Record). f.cat) (read_found cat s n e).kept_is

  -- LEN and the indicator are there, and the record's items are the indicator
  pub read_items : (2 ≤ length s) × ((read_of cat s).kept.items ≡ get_or s 1 0)
  unfolding flatten write_frame
  read_items =
      let r = read_found cat s n e in
      let xs : List ℕ = flat (texts_of (paper_of cat) r.what) in
      let front : take (len_of s) s ≡ suc (suc (length xs)) ∷ r.what.0 ∷ xs = (read_front o r).front ∙ ap (λ b. suc (length b) ∷ b) (body_write (paper_of cat) r.what) in
      let is : s ≡ suc (suc (length xs)) ∷ r.what.0 ∷ (xs ++ drop (len_of s) s) = sym (take-append-drop (len_of s) s) ∙ ap (◌++ drop (len_of s) s) front in
      (omega (arith, ap length is), ap (λ (f : Record). f.items) r.kept_is ∙ sym (ap (λ x. get_or x 1 0) is))

  pub read_parts : length (read_of cat s).kept.parts ≡ 8
  unfolding flatten
  read_parts =
      let r = read_found cat s n e in
      let its : List Item = paper_of cat in
      let ps : List ℕ = all_parts r.what.1 in
      let lp : length ps ≡ length its = length_parts (flags r.what.0) its r.what.1 (row_okay its r.what (read_okay o r)) in
      ap (λ (f : Record). length f.parts) r.kept_is ∙ omega (arith, length-append ps (replicate (8 - length its) 0), length-replicate {A = ℕ} (8 - length its) 0, few_items cat)

-- ---- "reading what was written gives the same record", whatever follows

as_contents : (cat : ℕ) (s : List ℕ) (f : Record) → known cat ≡ true → read_frame (contents cat) s ≡ accepted f → read_of cat s ≡ record { answer = Accepted (len_of s); kept = f }
unfolding contents read_of shown field_of
as_contents cat s f k e =
    go (read_frame (body (paper_of cat)) s) refl
    (sym (frame-via (flatten cat (paper_of cat)) (unflatten (paper_of cat)) (fits_paper cat (paper_of cat)) (body (paper_of cat)) s) ∙ e)
  where
    go : (x : Outcome Contents) → read_frame (body (paper_of cat)) s ≡ x → map_outcome (flatten cat (paper_of cat)) x ≡ accepted f
        → read_of cat s ≡ record { answer = Accepted (len_of s); kept = f }
    go (accepted r) ex h = let ef : flatten cat (paper_of cat) r ≡ f = cc in rw (k, ex) (ap (λ (g : Record). record { answer = Accepted (len_of s); kept = g }) ef)
    go (refused m p) ex h = refused≢accepted h

pub write_then_read : (f : Record) → T (known f.cat) → T (writable f) → (rest : List ℕ)
    → read_of f.cat (written f ++ rest) ≡ record { answer = Accepted (length (written f)); kept = f }
unfolding writable written write_frame len_of
write_then_read f k w rest =
    as_contents f.cat (written f ++ rest) f (holds (known f.cat) k) (read_again (lawful_contents f.cat) f w rest)
