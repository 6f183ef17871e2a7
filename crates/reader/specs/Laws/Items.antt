-- Subfields and items: each subfield is read behind what was read before it.
use Rattle.std.specs.Prelude.{◌≡◌, ℕ, zero, suc, ◌+◌, ◌≤◌, ◌<◌, T, ltb, ℤ, pos, length, get_or, drop}
use Rattle.std.proofs.Math.Path.{refl, ap}
use Rattle.std.proofs.Common.{sym, ap₂, ◌∙◌, subst, ltb→lt}
use mathlib.Core.List.{List, [], ◌∷◌, ◌++◌, append_assoc, append-nil}
use native.Mathlib.Omega.{arith}
use Rattle.std.proofs.Math.ListN.{length-append, get_or-append}
use Rattle.codec.specs.Codec.{Res, got, bad, map_res, opt}
use Rattle.codec.specs.Line.{Line, Held, count, line}
use Rattle.codec.specs.Item.{chained, slots_of, nothing, beside, chain, is_one, flagged, subfields, item}
use Rattle.codec.proofs.Laws.Tests.{and_l, and_r}
use Rattle.codec.proofs.Laws.Long.{LongBy, many, long_shift, long_line, long_opt, long_chain}
use Rattle.lengths.specs.Lines.{line_at}
use Rattle.lengths.specs.Laws.Lines.{past_lines}
use Rattle.shapes.specs.Shapes.{NO_LINE, lines_from, flags_under, item_of}
use Rattle.shapes.specs.Laws.Shapes.{past_item}
use Rattle.reader.specs.Steps.{run, line_run}
use Rattle.reader.specs.Laws.Steps.{run-map, beside_bad, beside_got}
use Rattle.reader.specs.Items.{extend, more, item_run}

unfoldable pub more_all : List Line → List ℕ → Res Held → Res Held
more_all [] xs x = x
more_all (l ∷ ls) xs x = more_all ls xs (more l xs x)

-- ---- the codec of subfields reads so

more_bad : (ls : List Line) (xs : List ℕ) (e p : ℕ) → more_all ls xs (bad e p) ≡ bad e p
unfolding more_all more
more_bad [] xs e p = refl
more_bad (l ∷ ls) xs e p = more_bad ls xs e p

regroup : (v w : Held) (y : Res Held)
    → extend v (map_res (λ (a : (ℕ × ℕ) × List ℤ). (0, a.1)) (map_res (λ (b : Held). ((w.0, b.0), w.1 ++ b.1)) y)) ≡ extend (v.0, v.1 ++ w.1) y
regroup v w (got b n) = ap (λ x. got (v.0, x) n) (sym (append_assoc v.1 w.1 b.1))
regroup v w (bad e p) = refl

module _ (xs : List ℕ) (zs : List ℤ) where
  abbrev sub_run : Line → ℕ → Res Held
  sub_run l n = run (opt (nothing (count l.pieces)) (flagged zs l) (line l)).read xs n

  -- the numbers so far begin with the chain's
  unfoldable pub Begins : List ℤ → Type 0
  Begins v = (length zs ≤ length v) × ((i : ℕ) → i < length zs → get_or v i (pos 0) ≡ get_or zs i (pos 0))

  pub begins_more : (v w : List ℤ) → Begins v → Begins (v ++ w)
  unfolding Begins
  begins_more v w h = (rw length-append (omega (arith, h.0)), λ i k. get_or-append v w (pos 0) i (omega (arith, h.0)) ∙ h.1 i k)

  pub begins_itself : Begins zs
  unfolding Begins
  begins_itself = (omega arith, λ i h. refl)

  pub fold_subfields : (ls : List Line) (v : Held) (n : ℕ) → T (flags_under (length zs) ls) → Begins v.1 → extend v (run (subfields zs ls).read xs n) ≡ more_all ls xs (got v n)
  unfolding subfields more_all more flags_under Begins
  fold_subfields [] v n f h = let z : n + 0 ≡ n = omega arith in (λ i. got (v.0, append-nil v.1 i) (z i))
  fold_subfields (l ∷ ls) v n f h =
      let u : flagged v.1 l ≡ flagged zs l = ap is_one (h.1 l.flag (ltb→lt l.flag (length zs) (and_l (ltb l.flag (length zs)) _ f))) in
      ap (extend v) (run-map (λ (a : (ℕ × ℕ) × List ℤ). (0, a.1)) (beside (count l.pieces) (opt (nothing (count l.pieces)) (flagged zs l) (line l)) (λ _. subfields zs ls)).read xs n)
      ∙ go (λ w m. fold_subfields ls (v.0, v.1 ++ w) m (and_r (ltb l.flag (length zs)) _ f) (begins_more v.1 w h)) (sub_run l n) refl
      ∙ ap (λ b. more_all ls xs (extend v (run (opt (nothing (count l.pieces)) b (line l)).read xs n))) (sym u)
    where
      go : ((w : List ℤ) (m : ℕ) → extend (v.0, v.1 ++ w) (run (subfields zs ls).read xs m) ≡ more_all ls xs (got (v.0, v.1 ++ w) m)) → (y : Res Held) → sub_run l n ≡ y
          → extend v (map_res (λ (a : (ℕ × ℕ) × List ℤ). (0, a.1)) (run (beside (count l.pieces) (opt (nothing (count l.pieces)) (flagged zs l) (line l)) (λ _. subfields zs ls)).read xs n))
          ≡ more_all ls xs (extend v (sub_run l n))
      go ih (bad e p) ey = rw (beside_bad (count l.pieces) (opt (nothing (count l.pieces)) (flagged zs l) (line l)) (λ _. subfields zs ls) xs n ey, ey) (sym (more_bad ls xs e p))
      go ih (got w m) ey =
          ap (λ x. extend v (map_res (λ (a : (ℕ × ℕ) × List ℤ). (0, a.1)) x))
          (beside_got (count l.pieces) (opt (nothing (count l.pieces)) (flagged zs l) (line l)) (λ _. subfields zs ls) xs n ey)
          ∙ regroup v w (run (subfields zs ls).read xs m)
          ∙ ih w.1 m
          ∙ ap (λ y. more_all ls xs (extend v y)) (sym ey)

-- ---- so an item is its chain and then its subfields, one behind the other

pub chain-many : (p : Line) (qs : List Line) (xs : List ℕ) (at : ℕ) → LongBy many (slots_of (p ∷ qs)) (run (chain p qs).read xs at)
chain-many p qs xs at = long_shift many (slots_of (p ∷ qs)) at ((chain p qs).read (drop at xs)) ((long_chain p qs).long (drop at xs))

keeps : (v : Held) (y : Res Held) → map_res (λ (a : (ℕ × ℕ) × List ℤ). (a.0.0, a.1)) (map_res (λ (b : Held). ((v.0, b.0), v.1 ++ b.1)) y) ≡ extend v y
keeps v (got b n) = refl
keeps v (bad e p) = refl

pub item_run_lem : (p : Line) (qs ss : List Line) (xs : List ℕ) (at : ℕ) → T (flags_under (slots_of (p ∷ qs)) ss)
    → run (item (chained p qs ss)).read xs at ≡ more_all ss xs (run (chain p qs).read xs at)
unfolding item
item_run_lem p qs ss xs at f =
    run-map (λ (a : (ℕ × ℕ) × List ℤ). (a.0.0, a.1)) (beside (slots_of (p ∷ qs)) (chain p qs) (λ a. subfields a.1 ss)).read xs at
    ∙ go (run (chain p qs).read xs at) refl (chain-many p qs xs at)
  where
    go : (x : Res Held) → run (chain p qs).read xs at ≡ x → LongBy many (slots_of (p ∷ qs)) x
        → map_res (λ (a : (ℕ × ℕ) × List ℤ). (a.0.0, a.1)) (run (beside (slots_of (p ∷ qs)) (chain p qs) (λ a. subfields a.1 ss)).read xs at)
        ≡ more_all ss xs (run (chain p qs).read xs at)
    go (bad e a) ex t = rw (beside_bad (slots_of (p ∷ qs)) (chain p qs) (λ a. subfields a.1 ss) xs at ex, ex) (sym (more_bad ss xs e a))
    go (got v n) ex t =
        ap (map_res (λ (a : (ℕ × ℕ) × List ℤ). (a.0.0, a.1))) (beside_got (slots_of (p ∷ qs)) (chain p qs) (λ a. subfields a.1 ss) xs at ex)
        ∙ keeps v (run (subfields v.1 ss).read xs n)
        ∙ fold_subfields xs v.1 ss v n (subst (λ k. T (flags_under k ss)) (sym t) f) (begins_itself xs v.1)
        ∙ ap (more_all ss xs) (sym ex)

-- ---- one subfield more

pub more_many : (l : Line) (xs : List ℕ) (k : ℕ) (x : Res Held) → LongBy many k x → LongBy many (k + count l.pieces) (more l xs x)
unfolding more
more_many l xs k (bad e p) h = tt
more_many l xs k (got v n) h =
    go (run (opt (nothing (count l.pieces)) (flagged v.1 l) (line l)).read xs n)
    (long_shift many (count l.pieces) n ((opt (nothing (count l.pieces)) (flagged v.1 l) (line l)).read (drop n xs)) ((long_opt (count l.pieces) (flagged v.1 l) (line l) (long_line l)).long (drop n xs)))
  where
    go : (y : Res Held) → LongBy many (count l.pieces) y → LongBy many (k + count l.pieces) (extend v y)
    go (got w m) t = length-append v.1 w.1 ∙ ap₂ ◌+◌ h t
    go (bad e p) t = tt

-- the subfields of n lines from line b on
unfoldable pub more_from : ℕ → ℕ → List ℕ → Res Held → Res Held
more_from b zero xs x = x
more_from b (suc n) xs x = more_from (b + 1) n xs (more (line_at b) xs x)

all_from : (b n : ℕ) (xs : List ℕ) (x : Res Held) → more_all (lines_from b n) xs x ≡ more_from b n xs x
unfolding lines_from more_all more_from
all_from b zero xs x = refl
all_from b (suc n) xs x = all_from (b + 1) n xs (more (line_at b) xs x)

pub item_from : (b left n : ℕ) (xs : List ℕ) (at : ℕ) → T (flags_under (slots_of (lines_from b (suc left))) (lines_from (b + 1 + left) n))
    → run (item (item_of b left n)).read xs at ≡ more_from (b + 1 + left) n xs (run (chain (line_at b) (lines_from (b + 1) left)).read xs at)
unfolding item_of lines_from
item_from b left n xs at f = item_run_lem (line_at b) (lines_from (b + 1) left) (lines_from (b + 1 + left) n) xs at f ∙ all_from (b + 1 + left) n xs (run (chain (line_at b) (lines_from (b + 1) left)).read xs at)

-- past the items there is an item without octets
pub past_items : (k : ℕ) → 14 ≤ k → (xs : List ℕ) (at : ℕ) → line_run NO_LINE xs at ≡ item_run k xs at
unfolding line_run item_run item
past_items k h xs at =
    ap (λ (p : Line × ℕ). run (line p.0).read xs at) (past_lines NO_LINE (omega arith)) ∙ ap (λ it. run (item it).read xs at) (sym (past_item k h))
