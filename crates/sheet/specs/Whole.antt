-- The whole sheet, from the record that was read.
use Rattle.std.specs.Prelude.{List, [], ◌++◌, ℕ}
use Rattle.codec.specs.Field.{flags}
use Rattle.papers.specs.Names.{text, names_of}
use Rattle.papers.specs.Papers.{paper_of}
use Rattle.layout.specs.declared.Record.{Record}
use Rattle.layout.specs.Record.{regroup}
use Rattle.scope.specs.Sheet.{decimal, key_line, row_text, items_text}

-- what the sheet has of a record that was read from so many octets
unfoldable pub record_text : Record → ℕ → List ℕ
record_text f n =
    key_line (text "len") (decimal n)
    ++ (key_line (text "items") (items_text [] (flags f.items) (names_of f.cat))
    ++ (row_text (flags f.items) (paper_of f.cat) (names_of f.cat) (regroup (paper_of f.cat) f.parts f.numbers) ++ key_line (text "end") (text "ok")))
