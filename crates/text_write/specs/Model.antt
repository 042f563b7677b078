-- What the functions inside `write` say, which `desk` cites too. A reader of the promises may skip it.
--     Wrote         bytes stand at a place, and all around them is as it was
--     words_from     words of a table, from a place on
--     field_bytes    the fields that numbers make
--     line_bytes     the line of a row's words
--     row_bytes      the lines of rows, from row k on
-- Assumes nothing.
use Rattle.std.specs.Prelude.{◌≡◌, List, ◌++◌, map, ℕ, ◌+◌, ◌*◌, length, get_or, take, drop}
use Rattle.plan.specs.Tables.{words, rows_from}
use Rattle.text.specs.Digits.{decimal}
use Rattle.text.specs.Lines.{Line, glue_fields, glue_line, glue}
use Rattle.text.specs.Rows.{line_of}

pub record Wrote (before : List ℕ) (at : ℕ) (bytes after : List ℕ) (next : ℕ) : Type 0 where
  pub next_is : next ≡ at + length bytes
  pub bytes_are : after ≡ take at before ++ (bytes ++ drop (at + length bytes) before)

-- n words of a table, from a place on
abbrev pub words_from : List ℕ → ℕ → ℕ → List ℕ
words_from t i n = rows_from (λ k. get_or t k 0) i n

unfoldable pub field_bytes : List ℕ → List ℕ
field_bytes numbers = glue_fields (map decimal numbers)

unfoldable pub line_bytes : List ℕ → List ℕ → List ℕ
line_bytes word row = glue_line (line_of word row)

abbrev pub line_at : List ℕ → List ℕ → ℕ → Line
line_at word t k = line_of word (words_from t (k * words) words)

unfoldable pub row_bytes : List ℕ → List ℕ → ℕ → ℕ → List ℕ
row_bytes word t k n = glue (rows_from (line_at word t) k n)
