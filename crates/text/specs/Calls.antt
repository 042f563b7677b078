-- The promises of the public calls `read` and `write`: the answer, and the lent memory when the call returns (proofs/Calls.antt: no two results
-- meet one of them).
--     counts    the two counts, contacts first
--     Kept      what stands after the rows that a call filled is as it was
--     Reads     a text is read into two lent tables
--     Writes    the text of the plan that two tables hold is written
-- Assumes nothing.
use Rattle.std.specs.Prelude.{◌≡◌, List, ◌++◌, ℕ, ◌*◌, ◌≤◌, ◌<◌, length, drop, Result, Ok, Err}
use Rattle.units.specs.declared.Refusal.{Refusal}
use Rattle.units.specs.declared.Refusal.TheVariants.{FewRows, NoPlan, ShortOutput}
use Rattle.units.specs.Limits.{most_contacts, most_ranges}
use Rattle.plan.specs.Tables.{words, plan_of, IsPlan}
use Rattle.text.specs.declared.answer.Counts.{Counts}
use Rattle.text.specs.Reading.{Accepted, Refused, ReadsText}
use Rattle.text.specs.Rows.{render}

abbrev pub counts : ℕ → ℕ → Counts
counts m n = record { contacts = m; ranges = n }

-- a table is as long as before, and what stands after its first n rows is as it was
pub record Kept (n : ℕ) (before after : List ℕ) : Type 0 where
  pub same_length : length after ≡ length before
  pub rest : drop (n * words) after ≡ drop (n * words) before

-- 8 where either table has fewer than 512 rows; else the text's refusal, and no lent word changes; else the two counts: the first rows of the
-- tables are then the plan's, and only they change
pub data Reads (text contacts ranges : List ℕ) : Result Counts Refusal → List ℕ → List ℕ → Type 0 where
  few_contacts : length contacts < most_contacts * words → Reads text contacts ranges (Err FewRows) contacts ranges
  few_ranges : length ranges < most_ranges * words → Reads text contacts ranges (Err FewRows) contacts ranges
  refused : (why : Refusal) → most_contacts * words ≤ length contacts → most_ranges * words ≤ length ranges → ReadsText text (Refused why)
      → Reads text contacts ranges (Err why) contacts ranges
  accepted : (m n : ℕ) (contacts' ranges' : List ℕ) → most_contacts * words ≤ length contacts → most_ranges * words ≤ length ranges
      → ReadsText text (Accepted (plan_of contacts' m ranges' n)) → Kept m contacts contacts' → Kept n ranges ranges'
      → Reads text contacts ranges (Ok (counts m n)) contacts' ranges'

-- the bytes of the plan that the tables hold
abbrev pub text_of : List ℕ → ℕ → List ℕ → ℕ → List ℕ
text_of contacts m ranges n = render (plan_of contacts m ranges n)

-- 9 where the tables are no plan; else 10 with the text's length where the output is shorter, and no lent byte changes; else the text's length: the
-- first bytes of the output are then the text, and only they change
pub data Writes (contacts : List ℕ) (m : ℕ) (ranges : List ℕ) (n : ℕ) (out : List ℕ) : Result ℕ Refusal → List ℕ → Type 0 where
  no_plan : (IsPlan contacts m ranges n → ⊥) → Writes contacts m ranges n out (Err NoPlan) out
  too_short : IsPlan contacts m ranges n → length out < length (text_of contacts m ranges n)
      → Writes contacts m ranges n out (Err (ShortOutput (length (text_of contacts m ranges n)))) out
  written : IsPlan contacts m ranges n → length (text_of contacts m ranges n) ≤ length out
      → Writes contacts m ranges n out (Ok (length (text_of contacts m ranges n)))
      (text_of contacts m ranges n ++ drop (length (text_of contacts m ranges n)) out)
