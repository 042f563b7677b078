-- The lines of a plan text, as the request has them under 'Plan text': the header, contact lines, range lines.
--     Shaped                  the shape of a line: its word, so many numbers, its line feed
--     contact_of, range_of      the row that a line of good shape says
--     render                  a plan's text
-- Assumes nothing.
use Rattle.std.specs.Prelude.{true, ◌≡◌, List, [], ◌∷◌, ◌++◌, map, ℕ, length}
use Rattle.plan.specs.declared.rows.Contact.{Contact}
use Rattle.plan.specs.declared.rows.Range.{Range}
use Rattle.plan.specs.Plan.{Plan, Each}
use Rattle.plan.specs.Tables.{contact_at, range_at}
use Rattle.text.specs.Digits.{Number, value, decimal}
use Rattle.text.specs.Lines.{Line, tab, line_feed, glue}

-- `plan`, tab, `1`, line feed
unfoldable pub header : List ℕ
header = 112 ∷ 108 ∷ 97 ∷ 110 ∷ tab ∷ 49 ∷ line_feed ∷ []

unfoldable pub contact_word : List ℕ
contact_word = 99 ∷ 111 ∷ 110 ∷ 116 ∷ 97 ∷ 99 ∷ 116 ∷ []

unfoldable pub range_word : List ℕ
range_word = 114 ∷ 97 ∷ 110 ∷ 103 ∷ 101 ∷ []

-- that word, so many fields, each a number, and a line feed
pub record Shaped (word : List ℕ) (count : ℕ) (l : Line) : Type 0 where
  pub word_is : l.word ≡ word
  pub counted : length l.fields ≡ count
  pub numbers : Each Number l.fields
  pub ended : l.ended ≡ true

-- the values of its fields, as a row
unfoldable pub contact_of : Line → Contact
contact_of l = contact_at (map value l.fields) 0

unfoldable pub range_of : Line → Range
range_of l = range_at (map value l.fields) 0

unfoldable pub line_of : List ℕ → List ℕ → Line
line_of word numbers = record { word = word; fields = map decimal numbers; ended = true }

unfoldable pub contact_line : Contact → Line
contact_line c = line_of contact_word (c.start.0 ∷ c.end.0 ∷ c.from.0 ∷ c.to.0 ∷ c.rate ∷ [])

unfoldable pub range_line : Range → Line
range_line r = line_of range_word (r.start.0 ∷ r.end.0 ∷ r.a.0 ∷ r.b.0 ∷ r.light.0 ∷ [])

-- the lines after the header: contacts, then ranges
unfoldable pub plan_lines : Plan → List Line
plan_lines p = map contact_line p.contacts ++ map range_line p.ranges

unfoldable pub render : Plan → List ℕ
render p = header ++ glue (plan_lines p)
