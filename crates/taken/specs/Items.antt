-- What an item, the names of a category's items and the whole text tell.
use Rattle.std.specs.Prelude.{◌≡◌, true, false, Option, MatchOption, List, ℕ, ltb, length, take, drop}
use Rattle.std.specs.Borrow.{Bor}
use Rattle.codec.specs.Pick.{pick}
use Rattle.papers.specs.Names.{text}
use Rattle.papers.specs.Papers.{paper_of}
use Rattle.layout.specs.declared.Record.{Record}
use Rattle.layout.specs.Record.{flatten}
use Rattle.guess.specs.Lines.{behind_octet, behind_feed}
use Rattle.guess.specs.Guess.{begins, bounded_in, category_in, guess_of}

-- the parts of a chain of at most so many: from their line, where there is one

unfoldable pub parts_in : ℕ → List ℕ → ℕ
unfolding bounded_in
parts_in most t = pick (ltb most 2) most (bounded_in 1 most t)

unfoldable pub behind_parts : ℕ → List ℕ → List ℕ
unfolding behind_octet
behind_parts most t = pick (ltb most 2) t (behind_feed t)

-- the comma before a name, of so many octets: none before the first
abbrev pub comma_in : ℕ → List ℕ
comma_in n = take n (text ",")

-- what follows a word, where a text begins with it
abbrev pub Behind : List ℕ → List ℕ → Option (Bor (List ℕ)) → Type 0
Behind w t o = MatchOption o (begins w t ≡ false) (λ r. (begins w t ≡ true) × (r.now ≡ drop (length w) t))

-- the record of the guess
unfoldable pub record_in : List ℕ → Record
unfolding flatten category_in guess_of
record_in t = flatten (category_in t) (paper_of (category_in t)) (guess_of t)
