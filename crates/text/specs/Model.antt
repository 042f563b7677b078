-- Reading as a fold over the lines, with the rows so far. A reader of the promises may skip it: proofs/Theorems.antt has that it gives what
-- Reading.antt says.
--     line_in, up_to      a line between two places of the text, and where the next mark stands (proofs/Cuts.antt)
--     said_by            what a line says, or none: its shape
--     judge             the rows with one row more, or the first fault in the order
--     read_model         the outcome of a text
--     capped            what the code keeps of a number, 64 bits (proofs/Capped.antt: no judgement changes)
-- Assumes nothing.
use Rattle.std.specs.Prelude.{Bool, true, false, not, ◌&&◌, ◌||◌, cond, List, [], ◌∷◌, ◌++◌, map, ℕ, suc, ◌+◌, ◌-◌, ◌*◌, min, leb, ltb, eqb, length, take, drop, get_or, Option, None, Some}
use Rattle.units.specs.declared.Refusal.TheVariants.{LongText, NoHeader}
use Rattle.units.specs.Limits.{most_text, most_contacts, most_ranges}
use Rattle.plan.specs.declared.rows.Contact.{Contact}
use Rattle.plan.specs.declared.rows.Range.{Range}
use Rattle.plan.specs.declared.rows.Span.{Span}
use Rattle.plan.specs.Plan.{Plan, contact_span, range_span}
use Rattle.plan.specs.Tables.{words}
use Rattle.plan.specs.Model.{good_contact, good_range, overlap, each}
use Rattle.text.specs.declared.said.Line.{Line as SaidLine}
use Rattle.text.specs.declared.said.Line.TheVariants.{Contact as AContact, Range as ARange}
use Rattle.text.specs.Digits.{nought}
use Rattle.text.specs.Lines.{Line, blank, fronted, lines_of}
use Rattle.text.specs.Rows.{header, contact_word, range_word, contact_of, range_of}
use Rattle.text.specs.Reading.{Fault, bad_shape, after_range, too_many, bad_value, overlapping, refusal_of, Outcome, Accepted, Refused}

-- ---- a line among the bytes

-- the line that bytes without a line feed make
unfoldable pub line_in : List ℕ → Bool → Line
line_in [] ended = blank ended
line_in (b ∷ bs) ended = fronted b (line_in bs ended)

-- how many bytes stand before the first such mark
unfoldable pub up_to : ℕ → List ℕ → ℕ
up_to mark [] = 0
up_to mark (b ∷ bs) = cond (eqb b mark) 0 (suc (up_to mark bs))

-- ---- the shape of a line

unfoldable pub same : List ℕ → List ℕ → Bool
same [] [] = true
same [] (y ∷ ys) = false
same (x ∷ xs) [] = false
same (x ∷ xs) (y ∷ ys) = eqb x y && same xs ys

abbrev pub is_digit : ℕ → Bool
is_digit b = leb nought b && leb b (nought + 9)

unfoldable pub is_number : List ℕ → Bool
is_number ds = ltb 0 (length ds) && each is_digit ds && (not (eqb (get_or ds 0 0) nought) || eqb (length ds) 1)

unfoldable pub is_shaped : List ℕ → ℕ → Line → Bool
is_shaped word count l = same l.word word && eqb (length l.fields) count && each is_number l.fields && l.ended

-- what the code has for it: a contact, a range, or none where the line has another shape
abbrev pub Said : Type 0
Said = Option SaidLine

unfoldable pub said_by : Line → Said
said_by l = cond (is_shaped contact_word words l) (Some (AContact (contact_of l))) (cond (is_shaped range_word words l) (Some (ARange (range_of l))) None)

-- ---- its faults, held against the rows so far

-- the first fault of a row after the earlier rows of its kind
unfoldable pub row_fault : {A : Type 0} → ℕ → (A → Bool) → (A → Span) → List A → A → Option Fault
row_fault most good span earlier row =
    cond (leb most (length earlier)) (Some too_many)
    (cond (not (good row)) (Some bad_value) (cond (each (λ s. not (overlap s (span row))) (map span earlier)) None (Some overlapping)))

unfoldable pub contact_fault : Plan → Contact → Option Fault
contact_fault rows c = cond (ltb 0 (length rows.ranges)) (Some after_range) (row_fault most_contacts good_contact contact_span rows.contacts c)

unfoldable pub range_fault : Plan → Range → Option Fault
range_fault rows r = row_fault most_ranges good_range range_span rows.ranges r

unfoldable pub with_contact : Plan → Contact → Plan
with_contact rows c = record { contacts = rows.contacts ++ (c ∷ []); ranges = rows.ranges }

unfoldable pub with_range : Plan → Range → Plan
with_range rows r = record { contacts = rows.contacts; ranges = rows.ranges ++ (r ∷ []) }

pub data Judged : Type 0 where
  faulty : Fault → Judged
  taken : Plan → Judged

unfoldable pub unless : Option Fault → Plan → Judged
unless None p = taken p
unless (Some f) p = faulty f

unfoldable pub judge : Plan → Said → Judged
judge rows (Some (AContact c)) = unless (contact_fault rows c) (with_contact rows c)
judge rows (Some (ARange r)) = unless (range_fault rows r) (with_range rows r)
judge rows None = faulty bad_shape

-- ---- line by line

unfoldable pub no_rows : Plan
no_rows = record { contacts = []; ranges = [] }

-- the lines from line n on, after lines that say those rows
unfoldable pub read_lines : ℕ → Plan → List Line → Outcome
read_lines n rows [] = Accepted rows
read_lines n rows (l ∷ ls) = elim (judge rows (said_by l)) [ faulty f ↦ Refused (refusal_of f n) | taken p ↦ read_lines (suc n) p ls ]

unfoldable pub read_model : List ℕ → Outcome
read_model text =
    let outcome = read_lines 2 no_rows (lines_of (drop (length header) text)) in
    cond (ltb most_text (length text)) (Refused LongText) (cond (same (take (length header) text) header) outcome (Refused NoHeader))

-- ---- what 64 bits hold

unfoldable pub capped : ℕ → ℕ
capped n = min n 18_446_744_073_709_551_615

-- digits read on, capped at each
unfoldable pub capped_from : ℕ → List ℕ → ℕ
capped_from v [] = v
capped_from v (d ∷ ds) = capped_from (capped (v * 10 + (d - nought))) ds

unfoldable pub capped_contact : Contact → Contact
capped_contact c = record {
  start = record { 0 = capped c.start.0 };
  end = record { 0 = capped c.end.0 };
  from = record { 0 = capped c.from.0 };
  to = record { 0 = capped c.to.0 };
  rate = capped c.rate;
}

unfoldable pub capped_range : Range → Range
capped_range r = record {
  start = record { 0 = capped r.start.0 };
  end = record { 0 = capped r.end.0 };
  a = record { 0 = capped r.a.0 };
  b = record { 0 = capped r.b.0 };
  light = record { 0 = capped r.light.0 };
}

unfoldable pub capped_said : Said → Said
capped_said (Some (AContact c)) = Some (AContact (capped_contact c))
capped_said (Some (ARange r)) = Some (ARange (capped_range r))
capped_said None = None
