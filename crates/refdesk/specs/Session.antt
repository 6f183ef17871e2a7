-- A session: what is answered to all reads together is the answers to the lines of the whole input, however it was cut into reads.
use Rattle.std.specs.Prelude.{◌≡◌, refl, List, [], ◌∷◌, ◌++◌, map, ℕ, take}
use Rattle.std.proofs.Common.{sym, ap, ap₂, ◌∙◌, append_assoc}
use Rattle.codec.specs.Field.{flat}
use Rattle.lines.specs.Lines.{ended, left, last, lines_of}
use Rattle.lines.specs.Laws.Lines.{Holds, reads_end, reads_left}
use Rattle.answers.specs.Answers.{answer_of}
use Rattle.answers.specs.Laws.Room.{answer_front}

-- the answers to lines, one behind the other
abbrev pub answers : List (List ℕ) → List ℕ
answers ls = flat (map answer_of ls)

-- the answers to an input
abbrev pub answers_to : List ℕ → List ℕ
answers_to s = answers (lines_of s)

-- read by read: the lines that end in a read are answered, h being held before it, and what is left of the last goes on; at the end it is a line too
unfoldable pub told : List ℕ → List (List ℕ) → List ℕ
told h [] = answers (last h)
told h (r ∷ rs) = answers (ended h r) ++ told (left h r) rs

answers-append : (a b : List (List ℕ)) → answers (a ++ b) ≡ answers a ++ answers b
unfolding flat
answers-append [] b = refl
answers-append (l ∷ a) b = ap (λ t. answer_of l ++ t) (answers-append a b) ∙ sym (append_assoc (answer_of l) (answers a) (answers b))

told_all : (h : List ℕ) (rs : List (List ℕ)) → told h rs ≡ answers (ended h (flat rs) ++ last (left h (flat rs)))
unfolding told flat ended left
told_all h [] = refl
told_all h (r ∷ rs) =
    ap (λ t. answers (ended h r) ++ t) (told_all (left h r) rs)
    ∙ sym (answers-append (ended h r) (ended (left h r) (flat rs) ++ last (left (left h r) (flat rs))))
    ∙ ap answers (sym (append_assoc (ended h r) (ended (left h r) (flat rs)) (last (left (left h r) (flat rs)))))
    ∙ ap₂ (λ a b. answers (a ++ last b)) (sym (reads_end h r (flat rs))) (sym (reads_left h r (flat rs)))

pub session : (reads : List (List ℕ)) → told [] reads ≡ answers_to (flat reads)
unfolding lines_of
session reads = told_all [] reads

-- and the octets that are held of a line are answered as the line
pub held_answered : {array : List ℕ} {n : ℕ} {line : List ℕ} → Holds array n line → answer_of (take n array) ≡ answer_of line
held_answered {line = line} x = ap answer_of x.octets ∙ answer_front line
