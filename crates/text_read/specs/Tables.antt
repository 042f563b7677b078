-- What the function that reads through local tables says. A reader of the promises may skip it.
--     Copied       an answer tells an outcome: its rows stand in the lent tables, which keep what was not filled
-- Assumes nothing.
use Rattle.std.specs.Prelude.{◌≡◌, List, ℕ, Result, Ok, Err}
use Rattle.units.specs.declared.Refusal.{Refusal}
use Rattle.plan.specs.Tables.{plan_of}
use Rattle.text.specs.declared.answer.Counts.{Counts}
use Rattle.text.specs.Calls.{counts, Kept}
use Rattle.text.specs.Reading.{Outcome, Accepted, Refused}

pub data Copied (o : Outcome) (contacts ranges contacts' ranges' : List ℕ) : Result Counts Refusal → Type 0 where
  rows : (m n : ℕ) → o ≡ Accepted (plan_of contacts' m ranges' n) → Kept m contacts contacts' → Kept n ranges ranges'
      → Copied o contacts ranges contacts' ranges' (Ok (counts m n))
  refused : (why : Refusal) → o ≡ Refused why → contacts' ≡ contacts → ranges' ≡ ranges → Copied o contacts ranges contacts' ranges' (Err why)
