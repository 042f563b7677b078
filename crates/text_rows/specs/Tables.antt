-- What the functions that take rows say of the tables that they fill. A reader of the promises may skip it.
--     outcome_at    what the judgement of a line is
--     with_row      a table with the five words of a row stored
--     Takes         a row of either kind is stored behind those before it, or has a fault
--     Gives        an answer tells an outcome: its rows stand in the tables
-- Assumes nothing.
use Rattle.std.specs.Prelude.{Bool, ◌≡◌, List, [], ◌∷◌, ◌++◌, ℕ, ◌+◌, ◌*◌, ◌≤◌, ◌<◌, take, drop, Some, None, Result, Ok, Err}
use Rattle.units.specs.declared.Refusal.{Refusal}
use Rattle.units.specs.Limits.{most_contacts, most_ranges}
use Rattle.plan.specs.declared.rows.Span.{Span}
use Rattle.plan.specs.Tables.{words, rows_from, plan_of}
use Rattle.text.specs.declared.answer.Counts.{Counts}
use Rattle.text.specs.Calls.{counts}
use Rattle.text.specs.Model.{row_fault, Judged, faulty, taken}
use Rattle.text.specs.Reading.{Fault, refusal_of, Outcome, Accepted, Refused}

-- what the judgement of a line is, as an outcome
unfoldable pub outcome_at : ℕ → Judged → Outcome
outcome_at line (faulty f) = Refused (refusal_of f line)
outcome_at line (taken p) = Accepted p

abbrev pub with_row : List ℕ → ℕ → List ℕ → List ℕ
with_row t k row = take (k * words) t ++ (row ++ drop (k * words + words) t)

pub data Takes {R : Type 0} (most : ℕ) (good : R → Bool) (span : R → Span) (row_at : List ℕ → ℕ → R) (line : ℕ) (t : List ℕ) (k : ℕ) (row : R)
    : Result ℕ Refusal → List ℕ → Type 0 where
  faulty_row : (f : Fault) → row_fault most good span (rows_from (row_at t) 0 k) row ≡ Some f → Takes most good span row_at line t k row (Err (refusal_of f line)) t
  stored : (t' : List ℕ) → row_fault most good span (rows_from (row_at t) 0 k) row ≡ None → k < most
      → rows_from (row_at t') 0 (k + 1) ≡ rows_from (row_at t) 0 k ++ (row ∷ []) → Takes most good span row_at line t k row (Ok (k + 1)) t'

pub data Gives (o : Outcome) (contacts ranges : List ℕ) : Result Counts Refusal → Type 0 where
  rows : (m n : ℕ) → m ≤ most_contacts → n ≤ most_ranges → o ≡ Accepted (plan_of contacts m ranges n) → Gives o contacts ranges (Ok (counts m n))
  refused : (why : Refusal) → o ≡ Refused why → Gives o contacts ranges (Err why)
