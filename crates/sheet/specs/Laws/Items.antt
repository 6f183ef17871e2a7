-- The text of an item: what the code types by its groups of keys is what the sheet has.
use Rattle.std.specs.Prelude.{◌≡◌, Bool, true, false, eqb, ℤ, take, drop}
use Rattle.std.proofs.Math.Path.{refl, sym, ap, ap₂, subst}
use Rattle.std.proofs.Common.{◌∙◌, eqb-true, ltb→lt, lt→ltb}
use mathlib.Core.List.{List, [], ◌∷◌, ◌++◌, map}
use Prim.Native.Nat.{ℕ, zero, suc, ◌+◌, ◌-◌, ◌≤◌}
use native.Mathlib.Omega.{arith}
use Rattle.std.proofs.lemmas.Bool.{eqb-false}
use Rattle.std.proofs.Math.Dec.{T, ltb, leb, leb→le, eqb-suc-zero}
use Rattle.std.proofs.Math.ListN.{length, get_or, length-take, length-drop, get_or-map, get_or-eq_default}
use Rattle.codec.specs.Pick.{pick}
use Rattle.codec.specs.Line.{Line, count}
use Rattle.codec.specs.Item.{Item, single, slots_of, slots, lines_of, is_one}
use Rattle.codec.proofs.Laws.Tests.{and_in, and_l, and_r}
use Rattle.papers.specs.Cat048.{cat048}
use Rattle.papers.specs.Cat021.{cat021}
use Rattle.papers.specs.Cat007.{cat007}
use Rattle.papers.specs.Names.{Key, Named, names048, names021, names007}
use Rattle.layout.specs.Record.{number_at}
use Rattle.layout.specs.Laws.Slots.{Holds, holds_take, holds_drop}
use Rattle.scope.specs.Sheet.{decimal, key_line, number_text, numbers_text, chain_text, item_text, parts_there, subfields_there, lines_there, lines_text}
use Rattle.lengths.specs.Lines.{items, no_line, placed_at, line_at, first_at, count_at}
use Rattle.lengths.specs.Laws.Lines.{every_at}
use Rattle.shapes.specs.Shapes.{NO_LINE, item_at, lines_from, flags_under, item_of, shape_at, shapes, shapes_from, shape_of, in_turn}
use Rattle.shapes.specs.Laws.Shapes.{past_item, Shaped, shaped-well, shape_single, shape_chained}
use Rattle.shapes.specs.Laws.Runs.{turn_first, turn_rest}
use Rattle.text.specs.Typing.{Types}
use Rattle.text.specs.Laws.Typing.{types_as, types_none}
use Rattle.sheet.specs.Keys.{span, keys_from, keyed}
use Rattle.sheet.specs.Laws.Keys.{groups}
use Rattle.sheet.specs.Lines.{is_there, line_keyed, lines_keyed, item_keyed}
use Rattle.sheet.specs.Items.{nobody, named, named_at, KeysOf, ItemTyped}

-- each line has as many keys as numbers
abbrev sizes : List (List Key) → List ℕ
sizes = map length

abbrev counts : List Line → List ℕ
counts = map (λ (l : Line). count l.pieces)

keys_all : map (λ (nm : Named). sizes nm.keys) named ≡ map (λ (it : Item). counts (lines_of it)) items
unfolding named names048 names021 names007 items cat048 cat021 cat007 lines_of count
keys_all = refl

keys_right : (k : ℕ) → sizes (named_at k).keys ≡ counts (lines_of (item_at k))
unfolding named_at item_at lines_of count
keys_right k =
    sym (get_or-map (λ (nm : Named). sizes nm.keys) named k nobody)
    ∙ ap (λ l. get_or l k (0 ∷ [])) keys_all
    ∙ get_or-map (λ (it : Item). counts (lines_of it)) items k (single no_line)

-- ---- numbers

module _ (ns : List ℤ) where
  keyed_are : (ks : List Key) (slot : ℕ) (us : List ℤ) → Holds ns slot us → length us ≡ length ks → keyed ks ns slot ≡ numbers_text ks us
  unfolding keyed numbers_text
  keyed_are [] slot us h e = refl
  keyed_are (k ∷ ks) slot [] h e = absurd (omega arith)
  keyed_are (k ∷ ks) slot (u ∷ us) h e =
      let z : slot + 0 ≡ slot = omega arith in
      ap₂ (λ x y. number_text k x ++ y) (ap (number_at ns) (sym z) ∙ h.number 0 (omega arith)) (keyed_are ks (slot + 1) us (holds_drop {zs = u ∷ us} 1 refl h) (omega arith))

  -- ---- lines

  module _ (base : ℕ) where
    unfoldable theres : ℕ → ℕ → ℕ → ℕ → List Bool
    theres n b parts zero = []
    theres n b parts (suc left) = is_there ns n b parts base ∷ theres (n - 1) (b + 1) (parts - 1) left

    lines_typed : (left n b parts : ℕ) (t : List ℕ) (zs : List ℤ) → sizes (groups left t) ≡ counts (lines_from b left) → T (in_turn b left)
        → length zs ≡ slots_of (lines_from b left) → ((left ≡ 0 → ⊥) → Holds ns (base + first_at b) zs)
        → lines_keyed t ns n b parts left base ≡ lines_text (theres n b parts left) (groups left t) (lines_from b left) zs
    unfolding lines_keyed line_keyed lines_text theres groups lines_from slots_of
    lines_typed zero n b parts t zs e i len h = refl
    lines_typed (suc left) n b parts t zs e i len h =
        let g : List Key = keys_from [] (take (span t) t) in
        let c : ℕ = count_at b in
        let first : length g ≡ c = ap (λ xs. get_or xs 0 0) e in
        let rest : sizes (groups left (drop (span t) t)) ≡ counts (lines_from (b + 1) left) = ap (drop 1) e in
        let w : suc left - 1 ≡ left = omega arith in
        let turn : T (in_turn (b + 1) left) = subst (λ x. T (in_turn (b + 1) x)) w (turn_rest b (suc left) (λ z. omega arith) i) in
        ap₂ (λ x y. pick (is_there ns n b parts base) x [] ++ y)
        (keyed_are g (base + first_at b) (take c zs) (holds_take c (h (λ z. omega arith))) (omega (arith, length-take c zs)))
        (lines_typed left (n - 1) (b + 1) (parts - 1) (drop (span t) t) (drop c zs) rest turn (omega (arith, length-drop c zs))
        (λ some. let f : first_at (b + 1) ≡ first_at b + count_at b = turn_first b (suc left) (λ z. some (sym w ∙ z)) i in holds_drop c (omega arith) (h (λ z. omega arith))))

    -- ---- which of them are there

    module _ (zs : List ℤ) (hz : Holds ns base zs) where
      subs_there : (n b s : ℕ) → T (flags_under (length zs) (lines_from b s)) → theres n b 0 s ≡ subfields_there zs (lines_from b s)
      unfolding theres is_there subfields_there lines_from flags_under
      subs_there n b zero u = refl
      subs_there n b (suc s) u =
          ap₂ ◌∷◌ (ap is_one (hz.number (line_at b).flag (ltb→lt (line_at b).flag (length zs) (and_l (ltb (line_at b).flag (length zs)) _ u))))
          (subs_there (n - 1) (b + 1) s (and_r (ltb (line_at b).flag (length zs)) _ u))

      all_there : (n b p s : ℕ) → T (flags_under (length zs) (lines_from (b + p) s)) → theres n b p (p + s) ≡ parts_there n (lines_from b p) ++ subfields_there zs (lines_from (b + p) s)
      unfolding theres is_there parts_there lines_from
      all_there n b zero s u =
          let e : b + 0 ≡ b = omega arith in
          let f : 0 + s ≡ s = omega arith in
          ap (theres n b 0) f ∙ subs_there n b s (subst (λ x. T (flags_under (length zs) (lines_from x s))) e u) ∙ ap (λ x. subfields_there zs (lines_from x s)) (sym e)
      all_there n b (suc p) s u =
          let e : b + suc p ≡ b + 1 + p = omega arith in
          let f : suc p + s ≡ suc (p + s) = omega arith in
          let w : suc p - 1 ≡ p = omega arith in
          ap (theres n b (suc p)) f
          ∙ ap₂ ◌∷◌ (ap (λ x. pick x (is_one (number_at ns (base + (line_at b).flag))) (ltb 0 n)) (eqb-suc-zero p)) (ap (λ x. theres (n - 1) (b + 1) x (p + s)) w ∙ all_there (n - 1) (b + 1) p s (subst (λ x. T (flags_under (length zs) (lines_from x s))) e u))
          ∙ ap (λ x. ltb 0 n ∷ (parts_there (n - 1) (lines_from (b + 1) p) ++ subfields_there zs (lines_from x s))) (sym e)

-- ---- an item

-- the lines of a chain and of its subfields are one run
run-append : (b p s : ℕ) → lines_from b p ++ lines_from (b + p) s ≡ lines_from b (p + s)
unfolding lines_from
run-append b zero s =
    let e : b + 0 ≡ b = omega arith in
    let f : s ≡ 0 + s = omega arith in
    ap (λ x. lines_from x s) e ∙ ap (lines_from b) f
run-append b (suc p) s =
    let e : b + suc p ≡ b + 1 + p = omega arith in
    let f : suc (p + s) ≡ suc p + s = omega arith in
    ap (λ x. line_at b ∷ (lines_from (b + 1) p ++ lines_from x s)) e ∙ ap (line_at b ∷◌) (run-append (b + 1) p s) ∙ ap (lines_from b) f

-- its lines stand in turn
in_turn_lem : (k : ℕ) → T (in_turn (shape_at k).0 ((shape_at k).1 + (shape_at k).2))
unfolding shape_at shapes shapes_from shape_of in_turn items cat048 cat021 cat007 placed_at lines_of count
in_turn_lem k = every_at (λ (s : _). in_turn s.0 (s.1 + s.2)) shapes (NO_LINE, 0, 0) tt tt k

slots-append : (ls ms : List Line) → slots_of (ls ++ ms) ≡ slots_of ls + slots_of ms
unfolding slots_of
slots-append [] ms = omega arith
slots-append (l ∷ ls) ms = let e : slots_of (ls ++ ms) ≡ slots_of ls + slots_of ms = slots-append ls ms in omega arith

run_length : (b n : ℕ) → length (lines_from b n) ≡ n
unfolding lines_from
run_length b zero = refl
run_length b (suc n) = ap suc (run_length (b + 1) n)

flags_more : (j k : ℕ) → j ≤ k → (ls : List Line) → T (flags_under j ls) → T (flags_under k ls)
unfolding flags_under
flags_more j k h [] t = tt
flags_more j k h (l ∷ ls) t =
    and_in (ltb l.flag k) _ (lt→ltb l.flag k (omega (arith, ltb→lt l.flag j (and_l (ltb l.flag j) _ t)))) (flags_more j k h ls (and_r (ltb l.flag j) _ t))

module _ (ns : List ℤ) (base n : ℕ) (t : List ℕ) (ks : List (List Key)) (zs : List ℤ) (hz : Holds ns base zs) where
  -- what is to be shown of an item whose lines begin at key_line b, parts of them chain parts
  abbrev Told : ℕ → ℕ → ℕ → ℕ → Item → Type 0
  Told m b parts left it =
      groups (length (lines_of it)) t ≡ ks → sizes ks ≡ counts (lines_of it) → length zs ≡ slots it → lines_keyed t ns m b parts left base ≡ lines_text (lines_there it (n, zs)) ks (lines_of it) zs

  -- its first key_line begins with it
  at_base : (b : ℕ) → first_at b ≡ 0 → Holds ns (base + first_at b) zs
  at_base b e = let f : base ≡ base + first_at b = omega arith in subst (λ j. Holds ns j zs) f hz

  told_single : (b : ℕ) → first_at b ≡ 0 → Told 1 b 1 1 (single (line_at b))
  unfolding lines_of slots lines_from lines_there theres is_there in_turn
  told_single b z eg ec el =
      lines_typed ns base 1 1 b 1 t zs (ap sizes eg ∙ ec) tt el (λ _. at_base b z) ∙ ap (λ x. lines_text (true ∷ []) x (line_at b ∷ []) zs) eg

  told_chained : (b q s : ℕ) → first_at b ≡ 0 → T (in_turn b (suc q + s)) → T (flags_under (slots_of (lines_from b (suc q))) (lines_from (b + suc q) s)) → Told n b (suc q) (suc q + s) (item_of b q s)
  unfolding item_of lines_of slots lines_there lines_from
  told_chained b q s z i u eg ec el =
      let f : b + 1 + q ≡ b + suc q = omega arith in
      let ls : List Line = lines_from b (suc q) ++ lines_from (b + 1 + q) s in
      let run : ls ≡ lines_from b (suc q + s) = ap (λ x. lines_from b (suc q) ++ lines_from x s) f ∙ run-append b (suc q) s in
      let many : length ls ≡ suc q + s = ap length run ∙ run_length b (suc q + s) in
      let eg' : groups (suc q + s) t ≡ ks = ap (λ m. groups m t) (sym many) ∙ eg in
      let total : length zs ≡ slots_of ls = el ∙ sym (slots-append (lines_from b (suc q)) (lines_from (b + 1 + q) s)) in
      let more : slots_of (lines_from b (suc q)) ≤ length zs = omega (arith, slots-append (lines_from b (suc q)) (lines_from (b + 1 + q) s)) in
      lines_typed ns base (suc q + s) n b (suc q) t zs (ap sizes eg' ∙ ec ∙ ap counts run) i (total ∙ ap slots_of run) (λ _. at_base b z)
      ∙ ap₂ (λ x y. lines_text x y (lines_from b (suc q + s)) zs) (all_there ns base zs hz n b (suc q) s (flags_more (slots_of (lines_from b (suc q))) (length zs) more (lines_from (b + suc q) s) u)) eg'
      ∙ ap₂ (λ x y. lines_text (parts_there n (lines_from b (suc q)) ++ subfields_there zs (lines_from x s)) ks y zs) (sym f) (sym run)

-- what the code types by right keys
pub item_lines : (ns : List ℤ) (base n k : ℕ) (t : List ℕ) → groups (length (lines_of (item_at k))) t ≡ (named_at k).keys → (zs : List ℤ) → Holds ns base zs → length zs ≡ slots (item_at k)
    → item_keyed t ns n k base ≡ lines_text (lines_there (item_at k) (n, zs)) (named_at k).keys (lines_of (item_at k)) zs
unfolding item_keyed
item_lines ns base n k t eg zs hz el = go (eqb p 0) refl
  where
    b : ℕ
    b = (shape_at k).0

    p : ℕ
    p = (shape_at k).1

    s : ℕ
    s = (shape_at k).2

    ks : List (List Key)
    ks = (named_at k).keys

    well : Shaped (shape_at k)
    well = shaped-well k refl

    go : (x : Bool) → eqb p 0 ≡ x → pick x (lines_keyed t ns 1 b 1 1 base) (lines_keyed t ns n b p (p + s) base) ≡ lines_text (lines_there (item_at k) (n, zs)) ks (lines_of (item_at k)) zs
    go true e = subst (Told ns base n t ks zs hz 1 b 1 1) (sym (shape_single k refl (eqb-true p 0 e))) (told_single ns base n t ks zs hz b well.begins) eg (keys_right k) el
    go false e =
        let z : p ≡ 0 → ⊥ = eqb-false p 0 e in
        let f : suc (p - 1) ≡ p = omega arith in
        subst (Told ns base n t ks zs hz n b p (p + s)) (sym (shape_chained k refl z))
        (subst (λ x. Told ns base n t ks zs hz n b x (x + s) (item_of b (p - 1) s)) f
        (told_chained ns base n t ks zs hz b (p - 1) s well.begins (subst (λ x. T (in_turn b (x + s))) (sym f) (in_turn_lem k))
        (subst (λ x. T (flags_under (slots_of (lines_from b x)) (lines_from (b + x) s))) (sym f) well.flags_are_under)))
        eg (keys_right k) el

module _ (ns : List ℤ) (base n : ℕ) {k : ℕ} (j : ℕ) (ek : k ≡ j) (t : List ℕ) {l m : List ℕ} {at next : ℕ} (eg : groups (length (lines_of (item_at j))) t ≡ (named_at j).keys) where
  pub arm_plain : ((i : ℕ) → chain_text (item_at j) (named_at j) i ≡ []) → Types (item_keyed t ns n k base) l at m next → ItemTyped k n ns base l at m next
  unfolding item_text
  arm_plain ec a = subst (λ x. Types (item_keyed t ns n x base) l at m next → ItemTyped x n ns base l at m next) (sym ek) go a
    where
      go : Types (item_keyed t ns n j base) l at m next → ItemTyped j n ns base l at m next
      go a zs hz el = types_as (item_lines ns base n j t eg zs hz el ∙ ap (◌++ lines_text (lines_there (item_at j) (n, zs)) (named_at j).keys (lines_of (item_at j)) zs) (sym (ec n))) a

  pub arm_chained : (key : List ℕ) → ((i : ℕ) → chain_text (item_at j) (named_at j) i ≡ key_line key (decimal i)) → Types (key_line key (decimal n) ++ item_keyed t ns n k base) l at m next → ItemTyped k n ns base l at m next
  unfolding item_text
  arm_chained key ec a = subst (λ x. Types (key_line key (decimal n) ++ item_keyed t ns n x base) l at m next → ItemTyped x n ns base l at m next) (sym ek) go a
    where
      go : Types (key_line key (decimal n) ++ item_keyed t ns n j base) l at m next → ItemTyped j n ns base l at m next
      go a zs hz el = types_as (ap₂ ◌++◌ (sym (ec n)) (item_lines ns base n j t eg zs hz el)) a

-- past the last item there is nothing
pub arm_past : (ns : List ℤ) (base n k : ℕ) → 14 ≤ k → (l : List ℕ) (at : ℕ) → ItemTyped k n ns base l at l at
unfolding item_text chain_text lines_there lines_text numbers_text named_at named names048 names021 names007 lines_of
arm_past ns base n k h l at zs hz el =
    types_as (sym (ap₂ (λ it nm. item_text it nm (n, zs)) (past_item k h) (get_or-eq_default named nobody h))) (types_none l at)

-- ---- the keys of an item, which the check computes with a text that it is given

pub keys_as : {k : ℕ} (j : ℕ) → k ≡ j → (t : List ℕ) → groups (length (lines_of (item_at j))) t ≡ (named_at j).keys → T (leb (length t) 1_000) → KeysOf k t
keys_as j e t eg h = subst (λ i. KeysOf i t) (sym e) (record { grouped = eg; few = leb→le (length t) 1_000 h })

-- the other items have no line for a chain
pub no_chain : (k : ℕ) → (k ≡ 1 → ⊥) → (k ≡ 9 → ⊥) → (k ≡ 10 → ⊥) → (n : ℕ) → chain_text (item_at k) (named_at k) n ≡ []
unfolding named_at named names048 names021 names007 item_at items cat048 cat021 cat007 chain_text
no_chain zero a b c n = refl
no_chain (suc zero) a b c n = absurd (a refl)
no_chain (suc (suc zero)) a b c n = refl
no_chain (suc (suc (suc zero))) a b c n = refl
no_chain (suc (suc (suc (suc zero)))) a b c n = refl
no_chain (suc (suc (suc (suc (suc zero))))) a b c n = refl
no_chain (suc (suc (suc (suc (suc (suc zero)))))) a b c n = refl
no_chain (suc (suc (suc (suc (suc (suc (suc zero))))))) a b c n = refl
no_chain (suc (suc (suc (suc (suc (suc (suc (suc zero)))))))) a b c n = refl
no_chain (suc (suc (suc (suc (suc (suc (suc (suc (suc zero))))))))) a b c n = absurd (b refl)
no_chain (suc (suc (suc (suc (suc (suc (suc (suc (suc (suc zero)))))))))) a b c n = absurd (c refl)
no_chain (suc (suc (suc (suc (suc (suc (suc (suc (suc (suc (suc zero))))))))))) a b c n = refl
no_chain (suc (suc (suc (suc (suc (suc (suc (suc (suc (suc (suc (suc zero)))))))))))) a b c n = refl
no_chain (suc (suc (suc (suc (suc (suc (suc (suc (suc (suc (suc (suc (suc zero))))))))))))) a b c n = refl
no_chain (suc (suc (suc (suc (suc (suc (suc (suc (suc (suc (suc (suc (suc (suc k)))))))))))))) a b c n = ap (λ it. chain_text it (named_at (suc (suc (suc (suc (suc (suc (suc (suc (suc (suc (suc (suc (suc (suc k))))))))))))))) n) (past_item (suc (suc (suc (suc (suc (suc (suc (suc (suc (suc (suc (suc (suc (suc k)))))))))))))) (omega arith))
