-- What reading a text gives: a plan, or a refusal with its place. Every text has exactly one outcome (proofs/Theorems.antt).
--     Fault, order      the faults of a line, and which of several is told
--     FaultAt           a line has a fault, held against the rows of the lines before it
--     FirstFault        the least line that has a fault, and its first fault in the order
--     ReadsText         the outcome of a text
-- Assumes nothing.
use Rattle.std.specs.Prelude.{◌≡◌, ℕ, ◌+◌, ◌≤◌, ◌<◌, length}
use mathlib.Core.List.{List, ◌∷◌, ◌++◌, Memᴰ}
use Rattle.units.specs.declared.Refusal.{Refusal}
use Rattle.units.specs.declared.Refusal.TheVariants.{LongText, NoHeader, LineShape, AfterRange, TooMany, LineValue, LineOverlap}
use Rattle.units.specs.Limits.{most_text, most_contacts, most_ranges}
use Rattle.plan.specs.declared.rows.Span.{Span}
use Rattle.plan.specs.Plan.{Plan, GoodContact, GoodRange, Overlap, contact_span, range_span, Valid}
use Rattle.plan.specs.Tables.{words}
use Rattle.text.specs.Lines.{Line, lines_of}
use Rattle.text.specs.Rows.{header, contact_word, range_word, Shaped, contact_of, range_of, plan_lines, render}

pub data Fault : Type 0 where
  bad_shape after_range too_many bad_value overlapping : Fault

-- in a line 3, 5, 6, 4, 7
unfoldable pub order : Fault → ℕ
order bad_shape = 0
order after_range = 1
order too_many = 2
order bad_value = 3
order overlapping = 4

unfoldable pub refusal_of : Fault → ℕ → Refusal
refusal_of bad_shape line = LineShape line
refusal_of after_range line = AfterRange line
refusal_of too_many line = TooMany line
refusal_of bad_value line = LineValue line
refusal_of overlapping line = LineOverlap line

-- the faults of a row after the earlier rows of its kind: there are as many as may be; its values are bad; it overlaps one that stands among them
pub data RowFault {A : Type 0} (most : ℕ) (Good : A → Type 0) (span : A → Span) (earlier : List A) (row : A) : Fault → Type 0 where
  full : most ≤ length earlier → RowFault most Good span earlier row too_many
  bad : (Good row → ⊥) → RowFault most Good span earlier row bad_value
  meets : (other : A) → Memᴰ other earlier → Overlap (span other) (span row) → RowFault most Good span earlier row overlapping

-- the faults of a line after lines that say these rows: 3; 5; 6, 4 and 7 of a contact; 6, 4 and 7 of a range
pub data HasFault (rows : Plan) (l : Line) : Fault → Type 0 where
  shapeless : (Shaped contact_word words l → ⊥) → (Shaped range_word words l → ⊥) → HasFault rows l bad_shape
  late : Shaped contact_word words l → 0 < length rows.ranges → HasFault rows l after_range
  of_contact : {f : Fault} → Shaped contact_word words l → RowFault most_contacts GoodContact contact_span rows.contacts (contact_of l) f → HasFault rows l f
  of_range : {f : Fault} → Shaped range_word words l → RowFault most_ranges GoodRange range_span rows.ranges (range_of l) f → HasFault rows l f

-- the line after the first k has that fault; the first k are the lines of rows, and it is held against these
pub record FaultAt (ls : List Line) (k : ℕ) (f : Fault) : Type 0 where
  pub rows : Plan
  pub line : Line
  pub after : List Line
  pub stands : ls ≡ plan_lines rows ++ line ∷ after
  pub place : length (plan_lines rows) ≡ k
  pub has : HasFault rows line f

-- no line before it has a fault, and it has none that comes before this one in the order
pub record FirstFault (ls : List Line) (k : ℕ) (f : Fault) : Type 0 where
  pub found : FaultAt ls k f
  pub least : (j : ℕ) (g : Fault) → FaultAt ls j g → k ≤ j
  pub first : (g : Fault) → FaultAt ls k g → order f ≤ order g

pub data Outcome : Type 0 where
  Accepted : Plan → Outcome
  Refused : Refusal → Outcome

-- 1; else 2; else the valid plan whose text it is, or a line refused. The header is line 1, so the line after the first k behind it is line k + 2
pub data ReadsText (text : List ℕ) : Outcome → Type 0 where
  too_long : most_text < length text → ReadsText text (Refused LongText)
  no_header : length text ≤ most_text → ((rest : List ℕ) → text ≡ header ++ rest → ⊥) → ReadsText text (Refused NoHeader)
  a_plan : (p : Plan) → length text ≤ most_text → text ≡ render p → Valid p → ReadsText text (Accepted p)
  at_line : (rest : List ℕ) (k : ℕ) (f : Fault) → length text ≤ most_text → text ≡ header ++ rest → FirstFault (lines_of rest) k f
      → ReadsText text (Refused (refusal_of f (k + 2)))
