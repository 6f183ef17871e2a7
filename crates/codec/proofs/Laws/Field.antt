-- The row of items and what follows LEN keep the round trips. A field is its flags and its texts.
use Rattle.std.specs.Prelude.{◌≡◌, refl, false, List, [], ◌∷◌, ◌++◌, ℕ, zero, suc, ◌<◌, T, eqb, length, get_or}
use Rattle.std.proofs.Common.{sym, ap, ap₂, ◌∙◌}
use Rattle.codec.specs.Radix.{total, join, ones}
use Rattle.codec.specs.Codec.{bad, Lawful, opt, number}
use Rattle.codec.specs.Line.{Held}
use Rattle.codec.specs.Item.{Item, nothing, slots, item, good_item}
use Rattle.codec.specs.Field.{is_nil, is_cons, uncons, no_row, first_flag, next_flags, place, row, flags, no_spare, indicator, Contents, body, good_items, texts, texts_of, flat}
use Rattle.codec.proofs.Laws.Tests.{and_l, and_r, not_one}
use Rattle.codec.proofs.Laws.Radix.{join-cut, cut-digits, cut_one, length_cut, digit_bit}
use Rattle.codec.proofs.Laws.Codec.{Only, lawful_via, lawful_number, number_under, number_one, lawful_guard, lawful_absent, lawful_opt, lawful_seq}
use Rattle.codec.proofs.Laws.Item.{only-nothing, opt-length, item_length, lawful_item}

only_row : Only no_row
unfolding is_nil
only_row = record { is = nil; yes = tt }
  where
    nil : (vs : List Held) → T (is_nil vs) → vs ≡ []
    nil [] t = refl
    nil (v ∷ vs) t = absurd t

cons_again : (vs : List Held) → T (is_cons vs) → ◌≡◌ {A = List Held} ((uncons vs).0 ∷ (uncons vs).1) vs
unfolding is_cons uncons
cons_again [] t = absurd t
cons_again (v ∷ vs) t = refl

pub lawful_row : (ds : List ℕ) (its : List Item) → T (good_items its) → Lawful (row ds its)
unfolding row good_items uncons is_cons
lawful_row ds [] h = lawful_absent only_row
lawful_row ds (it ∷ its) h =
    lawful_via (λ p. p.0 ∷ p.1) uncons is_cons
    (lawful_seq (lawful_opt (only-nothing (slots it)) (eqb (first_flag ds) 1) (lawful_item it (and_l (good_item it) _ h)))
    (λ v. lawful_row (next_flags ds) its (and_r (good_item it) _ h)))
    (λ p t. (refl, tt)) (λ vs t _. cons_again vs t)

pub lawful_body : (its : List Item) → T (good_items its) → Lawful (body its)
unfolding body indicator
lawful_body its h = lawful_seq (lawful_guard 4 (no_spare its) (lawful_number 1)) (λ n. lawful_row (flags n) its h)

-- ---- what a row holds: a value for each item, with as many numbers as the item has slots

pub place_length : (d : ℕ) (it : Item) (v : Held) → T ((place d it).okay v) → length v.1 ≡ slots it
place_length d it v t = opt-length (slots it) (eqb d 1) (item it) (item_length it) v t

pub length-row : (ds : List ℕ) (its : List Item) (vs : List Held) → T ((row ds its).okay vs) → length vs ≡ length its
unfolding row is_cons uncons is_nil
length-row ds [] [] t = refl
length-row ds [] (v ∷ vs) t = absurd t
length-row ds (it ∷ its) [] t = absurd t
length-row ds (it ∷ its) (v ∷ vs) t = ap suc (length-row (next_flags ds) its vs (and_r ((place (first_flag ds) it).okay v) _ t))

-- ---- the indicator is an octet, and a field is its flags and its texts

module _ (its : List Item) (r : Contents) (k : T ((body its).okay r)) where
  pub indicator_lt : r.0 < 256
  unfolding body total indicator
  indicator_lt = number_under 1 r.0 (search (and_l, and_r))

  pub row_okay : T ((row (flags r.0) its).okay r.1)
  unfolding body
  row_okay = and_r ((indicator its).okay r.0) _ k

pub row-texts : (ds : List ℕ) (its : List Item) (vs : List Held) → (row ds its).write vs ≡ flat (texts ds its vs)
unfolding row flat texts
row-texts ds [] vs = refl
row-texts ds (it ∷ its) vs = ap ((place (first_flag ds) it).write (uncons vs).0 ++◌) (row-texts (next_flags ds) its (uncons vs).1)

pub length-flags : (n : ℕ) → length (flags n) ≡ 8
length-flags n = length_cut ones n

pub flags-join : (n : ℕ) → n < 256 → join ones (flags n) ≡ n
unfolding total
flags-join n h = join-cut ones n h

-- a flag that is not 1 is 0
pub flag_zero : (n i : ℕ) → n < 256 → eqb (get_or (flags n) i 0) 1 ≡ false → get_or (flags n) i 0 ≡ 0
unfolding total
flag_zero n i h e = not_one (get_or (flags n) i 0) (digit_bit 8 (flags n) i (cut-digits ones n h)) e

pub body_write : (its : List Item) (r : Contents) → (body its).write r ≡ r.0 ∷ flat (texts_of its r)
unfolding body texts_of indicator number
body_write its r = ap₂ ◌++◌ (cut_one r.0) (row-texts (flags r.0) its r.1)

pub length-texts : (ds : List ℕ) (its : List Item) (vs : List Held) → length (texts ds its vs) ≡ length its
unfolding texts
length-texts ds [] vs = refl
length-texts ds (it ∷ its) vs = ap suc (length-texts (next_flags ds) its (uncons vs).1)

-- equal flags and equal texts make equal octets
pub same_write : (its : List Item) (r q : Contents) → T ((body its).okay r) → T ((body its).okay q) → flags r.0 ≡ flags q.0 → texts_of its r ≡ texts_of its q
    → (body its).write r ≡ (body its).write q
same_write its r q h k f t =
    body_write its r
    ∙ ap₂ ◌∷◌ (sym (flags-join r.0 (indicator_lt its r h)) ∙ ap (join ones) f ∙ flags-join q.0 (indicator_lt its q k)) (ap flat t)
    ∙ sym (body_write its q)

-- an absent item has no octets
pub text_absent : (ds : List ℕ) (its : List Item) (vs : List Held) (i : ℕ) → eqb (get_or ds i 0) 1 ≡ false → get_or (texts ds its vs) i [] ≡ []
unfolding texts first_flag next_flags
text_absent ds [] vs i e = refl
text_absent [] (it ∷ its) vs zero e = refl
text_absent [] (it ∷ its) vs (suc i) e = text_absent [] its (uncons vs).1 i e
text_absent (d ∷ ds) (it ∷ its) vs zero e = ap (λ b. (opt (nothing (slots it)) b (item it)).write (uncons vs).0) e
text_absent (d ∷ ds) (it ∷ its) vs (suc i) e = text_absent ds its (uncons vs).1 i e

-- ---- a spare bit set in the indicator is refused by 4 at the indicator

pub indicator_spare : (its : List Item) (n : ℕ) (t : List ℕ) → no_spare its n ≡ false → (body its).read (n ∷ t) ≡ bad 4 0
unfolding body indicator
indicator_spare its n t e = rw (number_one n t, e) refl
