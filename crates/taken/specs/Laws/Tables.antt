-- The code's numbers and words are those of the papers' names, by computed tests.
use Rattle.std.specs.Prelude.{◌≡◌, refl, Bool, true, false, List, [], map, ℕ, ◌≤◌, T, eqb, ltb, get_or}
use Rattle.std.proofs.Common.{sym, ap, ◌∙◌, subst, arith, ne_eqb, ltb-false, ltb→lt, eqb→eq}
use Rattle.std.proofs.Math.ListN.{get_or-eq_default, get_or-map}
use Rattle.codec.specs.Pick.{pick}
use Rattle.codec.proofs.Laws.Tests.{up_to_lem}
use Rattle.papers.specs.Names.{Named, names048, names021, names007}
use Rattle.sheet.specs.Items.{nobody, named, named_at}
use Rattle.walk.specs.Lines.{words_in}
use Rattle.guess.specs.Guess.{lines_for}
use Rattle.taken.specs.Tables.{step_at, head_at, step_of, groups, groups_in, heads}

-- ---- how many lines a number has: three in lines 3, 12 and 25

abbrev step_for : ℕ → ℕ
step_for b = pick (eqb b 3) 3 (pick (eqb b 12) 3 (pick (eqb b 25) 3 1))

step_right : ℕ → Bool
step_right b = eqb (step_at b) (step_for b)

pub step_is : (b : ℕ) → step_at b ≡ step_for b
unfolding step_right step_at step_of groups groups_in named names048 names021 names007 lines_for
step_is b = go (ltb b 46) refl
  where
    past : 46 ≤ b → step_at b ≡ step_for b
    past h = rw (ne_eqb b 3 (λ e. omega arith), ne_eqb b 12 (λ e. omega arith), ne_eqb b 25 (λ e. omega arith)) (ap step_of (get_or-eq_default groups [] h))

    go : (x : Bool) → ltb b 46 ≡ x → step_at b ≡ step_for b
    go true e = eqb→eq (step_at b) (step_for b) (up_to_lem step_right 46 tt b (ltb→lt b 46 (subst T (sym e) tt)))
    go false e = past (ltb-false b 46 e)

-- ---- the words of a text: the heads of lines, and the names of items

pub head_word : (w : List ℕ) → words_in w ≡ heads → (b : ℕ) {v : List ℕ} → v ≡ get_or (words_in w) b [] → v ≡ head_at b
unfolding head_at
head_word w e b ev = ev ∙ ap (λ ws. get_or ws b []) e

abbrev pub name_of : Named → List ℕ
name_of nm = nm.name

pub name_word : (w : List ℕ) → words_in w ≡ map name_of named → (k : ℕ) {v : List ℕ} → v ≡ get_or (words_in w) k [] → v ≡ (named_at k).name
unfolding named_at
name_word w e k ev = ev ∙ ap (λ ws. get_or ws k []) e ∙ get_or-map name_of named k nobody
