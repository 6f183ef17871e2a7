-- One law for each way through the handlers.
use Rattle.std.specs.Prelude.{◌≡◌, refl, Bool, true, false, List, [], ◌∷◌, ℕ, ◌≤◌, ◌<◌, ltb, length, get_or, replicate, Ok, Err}
use Rattle.std.proofs.Common.{sym, ◌∙◌, arith}
use Rattle.std.proofs.Math.Path.{ap}
use borrow.Author.Tests.{ltb-false, ne_eqb}
use Rattle.std.proofs.Math.ListN.{drop}
use Rattle.codec.specs.Pick.{pick}
use Rattle.codec.specs.Change.{remove, put}
use Rattle.layout.specs.Answer.{Answer, Accepted, Refused, Reading}
use Rattle.layout.specs.declared.Record.{Record}
use Rattle.scope.specs.Reading.{read_of}
use Rattle.scope.specs.Writing.{write_of}
use Rattle.scope.specs.Sheet.{sheet_of}
use Rattle.scope.specs.Views.{view_of, choose_of}
use Rattle.scope.specs.Desk.{edit_of}
use Rattle.scope.specs.Visitors.{copy_of}
use Rattle.text.specs.Typing.{Types}
use Rattle.text.specs.Laws.Typing.{types_as, types_behind}
use Rattle.words.specs.Lines.{word_of}
use Rattle.words.specs.Numbers.{value_in}
use Rattle.guess.specs.Guess.{rebuild_of}
use Rattle.hex_words.specs.Octets.{octets_in, list_in}
use Rattle.protocol.specs.Line.{words_of, nth, words_at, places_from}
use Rattle.protocol.specs.Forms.{Parse, Asks, Wrong, forms, judged_by, parse_of}
use Rattle.protocol.specs.Record.{record_in, record_at}
use Rattle.protocol.specs.Laws.Line.{words_placed, words_from_lem}
use Rattle.protocol.specs.Laws.Record.{record_short}
use Rattle.protocol.specs.declared.Parsed.{Parsed}
use Rattle.protocol.specs.declared.Request.{Request}
use Rattle.protocol.specs.Requests.{number_of, parsed}
use Rattle.protocol.specs.Laws.Requests.{asked_told, wrong_told}
use Rattle.replies.specs.Texts.{bad_request, refusal_text, output_text, given_text, reading_text, sheet_text}
use Rattle.answers.specs.Answers.{listed, viewed, chosen, read_answer, write_answer, sheet_answer, view_answer, choose_answer, remove_answer, replace_answer, copy_answer, rebuild_answer, asked, said, answer_of}

-- the word of a line that starts at a place of the parser's, and all words from it on
abbrev pub word_in : List ℕ → List ℕ → ℕ → List ℕ
word_in line starts k = word_of (drop (get_or starts k 0) line)

abbrev pub words_from : List ℕ → List ℕ → ℕ → List (List ℕ)
words_from line starts k = words_at line (get_or starts k 0)

-- ---- a sheet, or the refusal that there is none

module _ {a : Answer} (lines : List ℕ) {l m : List ℕ} {at last : ℕ} where
  pub listed_lines_lem : {n : ℕ} → a ≡ Accepted n → {t : List ℕ} → t ≡ lines → Types (sheet_text t) l at m last → Types (listed a lines) l at m last
  unfolding listed
  listed_lines_lem e f x = rw (e, ← f) x

  pub listed_refused : {n p : ℕ} → a ≡ Refused n p → Types (refusal_text n p) l at m last → Types (listed a lines) l at m last
  unfolding listed
  listed_refused e x = rw e x

-- ---- the handlers, by what each word is

module _ (word : ℕ → List ℕ) {l m : List ℕ} {at last : ℕ} where
  module _ {c : ℕ} {f : List ℕ} (ec : c ≡ value_in 255 (word 1)) (ef : f ≡ octets_in (word 2)) where
    pub read_said : {r : Reading} → r ≡ read_of c f → Types (reading_text r) l at m last → Types (read_answer word) l at m last
    unfolding read_answer
    read_said er x = rw (← ec, ← ef, ← er) x

    pub sheet_said : Types (listed (read_of c f).answer (sheet_of (c ∷ f))) l at m last → Types (sheet_answer word) l at m last
    unfolding sheet_answer
    sheet_said x = rw (← ec, ← ef) x

    pub view_said : {i : ℕ} → i ≡ value_in 255 (word 3) → Types (viewed f (view_of c f i)) l at m last → Types (view_answer word) l at m last
    unfolding view_answer
    view_said ei x = rw (← ec, ← ef, ← ei) x

    pub choose_said : {g : List ℕ} {i : ℕ} → g ≡ octets_in (word 3) → i ≡ value_in 255 (word 4) → Types (chosen f g (choose_of c f g i)) l at m last → Types (choose_answer word) l at m last
    unfolding choose_answer
    choose_said eg ei x = rw (← ec, ← ef, ← eg, ← ei) x

    pub copy_said : {withheld room : ℕ} → withheld ≡ list_in (word 3) → room ≡ value_in 300 (word 4) → Types (output_text (copy_of c f withheld room)) l at m last → Types (copy_answer word) l at m last
    unfolding copy_answer
    copy_said ew er x = rw (← ec, ← ef, ← ew, ← er) x

    module _ {list item : ℕ} (el : list ≡ list_in (word 3)) (ei : item ≡ value_in 255 (word 4)) where
      pub remove_said : {room : ℕ} → room ≡ value_in 300 (word 5) → Types (output_text (edit_of c f list item remove room)) l at m last → Types (remove_answer word) l at m last
      unfolding remove_answer
      remove_said er x = rw (← ec, ← ef, ← el, ← ei, ← er) x

      pub replace_said : {g : List ℕ} {room : ℕ} → g ≡ octets_in (word 5) → room ≡ value_in 300 (word 6) → Types (output_text (edit_of c f list item (put g) room)) l at m last → Types (replace_answer word) l at m last
      unfolding replace_answer
      replace_said eg er x = rw (← ec, ← ef, ← el, ← ei, ← eg, ← er) x

  pub rebuild_said : {t : List ℕ} {room : ℕ} → t ≡ octets_in (word 1) → room ≡ value_in 300 (word 2) → Types (given_text (rebuild_of t room)) l at m last → Types (rebuild_answer word) l at m last
  unfolding rebuild_answer
  rebuild_said et er x = rw (← et, ← er) x

  pub write_said : (from : ℕ → List (List ℕ)) {f : Record} {room : ℕ} → f ≡ record_in (from 2) → room ≡ value_in 300 (word 1) → Types (output_text (write_of f room)) l at m last → Types (write_answer word from) l at m last
  unfolding write_answer
  write_said from ef er x = rw (← ef, ← er) x

-- ---- a request by its number

module _ (q : ℕ) (word : ℕ → List ℕ) (from : ℕ → List (List ℕ)) {l m : List ℕ} {at last : ℕ} where
  pub asked_as : (k : ℕ) → q ≡ k → Types (asked k word from) l at m last → Types (asked q word from) l at m last
  asked_as k e x = rw e x

  -- a number past the last asks for nothing
  pub none_asked : (q ≡ 0 → ⊥) → (q ≡ 1 → ⊥) → (q ≡ 2 → ⊥) → (q ≡ 3 → ⊥) → (q ≡ 4 → ⊥) → (q ≡ 5 → ⊥) → (q ≡ 6 → ⊥) → (q ≡ 7 → ⊥) → (q ≡ 8 → ⊥)
      → Types (bad_request 1) l at m last → Types (asked q word from) l at m last
  unfolding asked
  none_asked a b c d e f g h i x = rw (ne_eqb q 0 a, ne_eqb q 1 b, ne_eqb q 2 c, ne_eqb q 3 d, ne_eqb q 4 e, ne_eqb q 5 f, ne_eqb q 6 g, ne_eqb q 7 h, ne_eqb q 8 i) x

-- ---- the whole line

-- only the first words are looked at, and all from the third on
same_asked : (q : ℕ) (u v : ℕ → List ℕ) (f g : ℕ → List (List ℕ)) → ((k : ℕ) → k < 10 → u k ≡ v k) → ((k : ℕ) → k < 10 → f k ≡ g k) → asked q u f ≡ asked q v g
unfolding asked read_answer write_answer sheet_answer view_answer choose_answer remove_answer replace_answer copy_answer rebuild_answer
same_asked q u v f g h i = rw (h 1 (omega arith), h 2 (omega arith), h 3 (omega arith), h 4 (omega arith), h 5 (omega arith), h 6 (omega arith), i 2 (omega arith)) refl

-- a request stands in a line that is not too long, so the places are those of its words
asks_short : (line : List ℕ) (q : ℕ) → (parse_of line).judged ≡ Asks q → (length line ≤ 16_384) × ((parse_of line).starts ≡ places_from line 0 10)
unfolding parse_of
asks_short line q e =
    by_length (ltb 16_384 (length line)) refl (record { judged = Wrong 0; starts = replicate 10 0 }) (record { judged = judged_by 0 forms (words_of line); starts = places_from line 0 10 }) refl e
  where
    by_length : (b : Bool) → ltb 16_384 (length line) ≡ b → (x y : Parse) → x.judged ≡ Wrong 0 → (pick b x y).judged ≡ Asks q
        → (length line ≤ 16_384) × ((pick b x y).starts ≡ y.starts)
    by_length true t x y w f = let z : Wrong 0 ≡ Asks q = sym w ∙ f in let n : ◌≡◌ {A = ℕ} 0 1 = cc in absurd (omega arith)
    by_length false t x y w f = (ltb-false 16_384 (length line) t, refl)

module _ (line : List ℕ) {p : Parsed} (ep : p ≡ parsed (parse_of line)) where
  asks : (r : Request) → p.judged ≡ Ok r → (parse_of line).judged ≡ Asks (number_of r)
  asks r e = asked_told line r (ap (λ (x : Parsed). x.judged) (sym ep) ∙ e)

  pub asked_short : (r : Request) → p.judged ≡ Ok r → length line ≤ 16_384
  asked_short r e = (asks_short line (number_of r) (asks r e)).0

  pub answer_asks : (r : Request) → p.judged ≡ Ok r → {l m k : List ℕ} {at next last : ℕ}
      → Types (asked (number_of r) (word_in line p.starts) (words_from line p.starts)) l at m next → Types (10 ∷ []) m next k last → Types (answer_of line) l at k last
  unfolding answer_of said
  answer_asks r e x y =
      let q : ℕ = number_of r in
      let j : (parse_of line).judged ≡ Asks q = asks r e in
      let s : p.starts ≡ places_from line 0 10 = ap (λ (x : Parsed). x.starts) ep ∙ (asks_short line q j).1 in
      let w : asked q (word_in line p.starts) (words_from line p.starts) ≡ asked q (nth (words_of line)) (λ k. drop k (words_of line)) =
      ap (λ t. asked q (word_in line t) (words_from line t)) s
      ∙ same_asked q (word_in line (places_from line 0 10)) (nth (words_of line)) (words_from line (places_from line 0 10)) (λ k. drop k (words_of line)) (words_placed line) (words_from_lem line) in
      rw j (types_behind (types_as w x) y)

  pub answer_wrong : (n : ℕ) → p.judged ≡ Err n → {l m k : List ℕ} {at next last : ℕ}
      → Types (bad_request n) l at m next → Types (10 ∷ []) m next k last → Types (answer_of line) l at k last
  unfolding answer_of said
  answer_wrong n e x y = let j : (parse_of line).judged ≡ Wrong n = wrong_told line n (ap (λ (x : Parsed). x.judged) (sym ep) ∙ e) in rw j (types_behind x y)

-- the record of a request
pub record_is : (line : List ℕ) (at : ℕ) → length line ≤ 16_384 → {f : Record} → f ≡ record_at line at → f ≡ record_in (words_at line at)
record_is line at h e = e ∙ sym (record_short line at h)
