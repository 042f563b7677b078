-- The fields of a line by places: what the functions of this crate say. A reader of the promises may skip it.
--     fields_from      the fields behind the tab at a place
--     good_fields      so many fields, and each a number
--     field_at         the number behind the tab at a place and the place after it, as the code answers them, or none
-- Assumes nothing.
use Rattle.std.specs.Prelude.{Bool, true, ◌&&◌, cond, List, [], ◌∷◌, ℕ, suc, ◌+◌, ltb, eqb, length, take, drop, Option, Some, None}
use Rattle.plan.specs.Model.{each}
use Rattle.text.specs.Digits.{value}
use Rattle.text.specs.Lines.{tab}
use Rattle.text.specs.Model.{line_in, up_to, is_number, capped}
use Rattle.text_lines.specs.declared.line.Field.{Field}

abbrev pub capped_value : List ℕ → ℕ
capped_value ds = capped (value ds)

-- the fields behind the tab at that place; none at the end of the line
unfoldable pub fields_from : List ℕ → ℕ → List (List ℕ)
fields_from line at =
    let rest = line_in (drop (suc at) line) true in
    cond (ltb at (length line)) (rest.word ∷ rest.fields) []

-- so many fields, and each a number
unfoldable pub good_fields : ℕ → List (List ℕ) → Bool
good_fields k fields = eqb (length fields) k && each is_number fields

-- the bytes of the field behind the tab at that place
abbrev pub field_bytes : List ℕ → ℕ → List ℕ
field_bytes line at = take (up_to tab (drop (at + 1) line)) (drop (at + 1) line)

unfoldable pub field_at : List ℕ → ℕ → Option Field
field_at line at =
    cond (ltb at (length line) && is_number (field_bytes line at))
    (Some (record { value = capped_value (field_bytes line at); end = at + 1 + up_to tab (drop (at + 1) line) })) None
