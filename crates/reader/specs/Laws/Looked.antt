-- Behind a chain its numbers lead, and by them each subfield is there or not.
use Rattle.std.specs.Prelude.{◌≡◌, refl, Bool, true, false, List, ◌++◌, ℕ, zero, suc, ◌+◌, ◌<◌, ℤ, pos, length, get_or, replicate, Err}
use Rattle.std.proofs.Math.Path.{sym, ap, subst}
use Rattle.std.proofs.Common.{◌∙◌, arith}
use Rattle.codec.specs.Codec.{Res, got, bad, opt}
use Rattle.codec.specs.Line.{Held, line}
use Rattle.codec.specs.Item.{nothing, is_one, flagged}
use Rattle.lengths.specs.Lines.{line_at, count_at}
use Rattle.reader.specs.declared.lines.Stop.{Stop}
use Rattle.reader.specs.Steps.{run, line_run}
use Rattle.reader.specs.Items.{more, extend}
use Rattle.reader.specs.Seen.{Ends, Went, step_number}
use Rattle.reader.specs.Laws.Items.{more_from, Begins, begins_more, begins_itself}
use Rattle.reader.specs.Laws.Parts.{Holds}
use Rattle.reader.specs.Laws.Seen.{ends_got, ends_bad, ended, ends_map, ends_same, err_big}

abbrev Leads : List ℕ → List ℤ → Res Held → Type 0
Leads xs zs (got v n) = Begins xs zs v.1
Leads xs zs (bad e p) = Unit {0}

-- x was answered by a, and its numbers begin with the chain's, zs
pub record Looked (xs : List ℕ) (zs : List ℤ) (x : Res Held) (a : ℕ) : Type 0 where
  pub ends : Ends x a
  pub leads : Leads xs zs x

pub look_chain : (xs : List ℕ) (zs : List ℤ) {x : Res Held} {a : ℕ} → Ends x a → Holds zs x → Looked xs zs x a
look_chain xs zs {x} e h = record { ends = e; leads = go x h }
  where
    go : (y : Res Held) → Holds zs y → Leads xs zs y
    go (got w n) k = subst (Begins xs zs) (sym k) (begins_itself xs zs)
    go (bad q p) k = tt

module _ (b : ℕ) (xs : List ℕ) (zs : List ℤ) where
  leads_on : (x : Res Held) → Leads xs zs x → Leads xs zs (more (line_at b) xs x)
  unfolding more
  leads_on (bad e p) h = tt
  leads_on (got v n) h = go (run (opt (nothing (count_at b)) (flagged v.1 (line_at b)) (line (line_at b))).read xs n)
    where
      go : (y : Res Held) → Leads xs zs (extend v y)
      go (got u m) = begins_more xs zs v.1 u.1 h
      go (bad q p) = tt

  -- one subfield: t says whether it is there
  pub look_on : {x : Res Held} {a : ℕ} → Looked xs zs x a → (line_at b).flag < length zs → {t : Bool} → t ≡ is_one (get_or zs (line_at b).flag (pos 0)) → {r : ℕ} → Went t (line_run b xs a) a r
      → Looked xs zs (more (line_at b) xs x) r
  unfolding more line_run Begins
  look_on {x} {a} k f {t} e {r} w = record {
    ends = ended k.ends
        (λ v ex h. go v ex (subst (Leads xs zs) ex k.leads) h t refl)
        (λ q p ex er g. ends_bad q p (ap (more (line_at b) xs) ex) (w.stops (omega (arith, er, g.0)) ∙ er) g);
    leads = leads_on x k.leads;
  }
    where
      go : (v : Held) → x ≡ got v a → Begins xs zs v.1 → a < 65_536 → (u : Bool) → t ≡ u → Ends (more (line_at b) xs x) r
      go v ex l h u eu = subst (λ y. Ends (more (line_at b) xs y) r) (sym ex) (by u eu)
        where
          flag : flagged v.1 (line_at b) ≡ t
          flag = sym (e ∙ ap is_one (sym (l.1 (line_at b).flag f)))

          by : (u : Bool) → t ≡ u → Ends (more (line_at b) xs (got v a)) r
          by true eu = rw (flag ∙ eu) (ends_map (λ (y : Held). (v.0, v.1 ++ y.1)) (w.there h eu))
          by false eu =
              let z : a + 0 ≡ a = omega arith in
              rw (flag ∙ eu) (ends_got (v.0, v.1 ++ replicate (count_at b) (pos 0)) a (ap (got (v.0, v.1 ++ replicate (count_at b) (pos 0))) z) (w.absent h eu) h)

-- ---- what stops the subfields

stays : (b n : ℕ) (xs : List ℕ) (e p : ℕ) → more_from b n xs (bad e p) ≡ bad e p
unfolding more_from more
stays b zero xs e p = refl
stays b (suc n) xs e p = stays (b + 1) n xs e p

pub more_stop : (b n : ℕ) (xs : List ℕ) {x y : Res Held} → more_from b n xs x ≡ y → (e : Stop) → Ends x (step_number (Err e)) → Ends y (step_number (Err e))
more_stop b n xs q e s = ends_same (ended s
    (λ _ _ g. absurd (omega (arith, g, err_big e)))
    (λ e p ex er f. ends_bad e p (ap (more_from b n xs) ex ∙ stays b n xs e p) er f)) q
