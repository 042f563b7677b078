-- The bytes that are left to the reader. A reader of the promises may skip it.
--     body_of           those behind the header
--     first_said        what the first line of them says
--     behind_first      those behind that line
-- Assumes nothing.
use Rattle.std.specs.Prelude.{true, cond, List, ℕ, ◌+◌, ltb, length, take, drop, None}
use Rattle.text.specs.Lines.{line_feed}
use Rattle.text.specs.Model.{Said, up_to, line_in, said_by, capped_said}

abbrev pub body_of : List ℕ → List ℕ
body_of text = drop 7 text

-- a line that no line feed ends says nothing
unfoldable pub first_said : List ℕ → Said
first_said left = cond (ltb (up_to line_feed left) (length left)) (capped_said (said_by (line_in (take (up_to line_feed left) left) true))) None

abbrev pub behind_first : List ℕ → List ℕ
behind_first left = drop (up_to line_feed left + 1) left
