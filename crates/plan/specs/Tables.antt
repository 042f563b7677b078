-- How the lent tables hold a plan: flat lists of words, five words a row.
--     contact_at, range_at, span_at      the row at a place counted from 0
--     plan_of                          the plan that two tables and two counts hold
--     IsPlan                          they hold a valid plan: what refusal 9 asks
-- Assumes nothing.
use Rattle.std.specs.Prelude.{List, [], ◌∷◌, ℕ, zero, suc, ◌+◌, ◌-◌, ◌*◌, ◌≤◌, length, get_or}
use Rattle.units.specs.declared.ContactNo.{ContactNo}
use Rattle.plan.specs.declared.rows.Contact.{Contact}
use Rattle.plan.specs.declared.rows.Range.{Range}
use Rattle.plan.specs.declared.rows.Span.{Span}
use Rattle.plan.specs.Plan.{Plan, Valid}

-- the words of a row
abbrev pub words : ℕ
words = 5

abbrev pub contact_at : List ℕ → ℕ → Contact
contact_at t k = record {
  start = record { 0 = get_or t (k * words) 0 };
  end = record { 0 = get_or t (k * words + 1) 0 };
  from = record { 0 = get_or t (k * words + 2) 0 };
  to = record { 0 = get_or t (k * words + 3) 0 };
  rate = get_or t (k * words + 4) 0;
}

abbrev pub range_at : List ℕ → ℕ → Range
range_at t k = record {
  start = record { 0 = get_or t (k * words) 0 };
  end = record { 0 = get_or t (k * words + 1) 0 };
  a = record { 0 = get_or t (k * words + 2) 0 };
  b = record { 0 = get_or t (k * words + 3) 0 };
  light = record { 0 = get_or t (k * words + 4) 0 };
}

-- the first four words of either
abbrev pub span_at : List ℕ → ℕ → Span
span_at t k = record {
  start = record { 0 = get_or t (k * words) 0 };
  end = record { 0 = get_or t (k * words + 1) 0 };
  one = record { 0 = get_or t (k * words + 2) 0 };
  other = record { 0 = get_or t (k * words + 3) 0 };
}

-- the contact of a number: contacts are numbered from 1
abbrev pub numbered : List ℕ → ContactNo → Contact
numbered t c = contact_at t (c.0 - 1)

-- n rows from row k on
unfoldable pub rows_from : {A : Type 0} → (ℕ → A) → ℕ → ℕ → List A
rows_from row k zero = []
rows_from row k (suc n) = row k ∷ rows_from row (suc k) n

unfoldable pub plan_of : List ℕ → ℕ → List ℕ → ℕ → Plan
unfolding rows_from
plan_of contacts m ranges n = record { contacts = rows_from (contact_at contacts) 0 m; ranges = rows_from (range_at ranges) 0 n }

-- the tables have the rows that they count, and these are a valid plan
pub record IsPlan (contacts : List ℕ) (m : ℕ) (ranges : List ℕ) (n : ℕ) : Type 0 where
  pub contacts_lent : m * words ≤ length contacts
  pub ranges_lent : n * words ≤ length ranges
  pub valid : Valid (plan_of contacts m ranges n)
