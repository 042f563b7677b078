-- `text_lines::line::numbers` meets its contract. The loop's invariant: the numbers so far are in the row, and what is asked of the line is asked of its fields from place `at` on.
-- Assumes nothing.
use Rattle.std.proofs.Common.{◌≡◌, ◌-◌, ◌≤◌, ◌++◌, map, length, take}
use Rattle.text_lines.specs.Model.{capped_value, fields_from, good_fields}
use Rattle.text_lines.proofs.line.numbers.Given as goal

abbrev pub invariant-loop-word : goal.invariant-loop-word
invariant-loop-word l = (l.at ≤ length l.line)
    × (good_fields (length l.initial.row) (fields_from l.line l.from) ≡ good_fields (length l.initial.row - l.word-index) (fields_from l.line l.at))
    × (map capped_value (fields_from l.line l.from) ≡ take l.word-index l.row ++ map capped_value (fields_from l.line l.at))
