-- What the contracts of single steps speak of. A reader of the promises may skip it.
--     pair_of            the pair and the time of a contact, the lower node first, as a range has them
--     RangesLinked      n ranges of a plan, and behind each the next one of its slot
--     RangesListed      the same, with the first one of each slot
--     Passed            the ranges of a list before a row end by a time
--     Past              a range of a list ends by a time
--     Kept              the rows kept of the walks along the lists
-- Assumes nothing.
use Rattle.std.specs.Prelude.{List, map, ◌≡◌, ℕ, ◌*◌, ◌≤◌, ◌<◌, min, max, length, get_or}
use Rattle.plan.specs.declared.rows.Contact.{Contact}
use Rattle.plan.specs.declared.rows.Span.{Span}
use Rattle.plan.specs.Plan.{GoodRange, Overlap, Each, NoTwo, range_span}
use Rattle.plan.specs.Tables.{words, range_at, rows_from}
use Rattle.plan_lists.specs.Lists.{LeastFrom, Nexts, slot_at}
use Rattle.plan_lists.specs.Model.{slots, most_rows}

abbrev pub pair_of : Contact → Span
pair_of c = record {
  start = c.start;
  end = c.end;
  one = record { 0 = min c.from.0 c.to.0 };
  other = record { 0 = max c.from.0 c.to.0 };
}

pub record RangesLinked (ranges : List ℕ) (n : ℕ) (nexts : List ℕ) : Type 0 where
  pub few : n ≤ most_rows
  pub lent : n * words ≤ length ranges
  pub good : Each GoodRange (rows_from (range_at ranges) 0 n)
  pub apart : NoTwo Overlap (map range_span (rows_from (range_at ranges) 0 n))
  pub a_row_each : n ≤ length nexts
  pub next : Nexts (slot_at ranges) n nexts

pub record RangesListed (ranges : List ℕ) (n : ℕ) (heads nexts : List ℕ) : Type 0 where
  pub rows : RangesLinked ranges n nexts
  pub a_slot_each : length heads ≡ slots
  pub first : (s : ℕ) → s < length heads → LeastFrom (slot_at ranges) 0 n s (get_or heads s 0)

-- the walk along the list of slot s has come to row j, where n is the end, and every range of the list before it ends by the time t
pub record Passed (ranges : List ℕ) (n s t j : ℕ) : Type 0 where
  pub no_later : j ≤ n
  pub has : j < n → slot_at ranges j ≡ s
  pub past : (k : ℕ) → k < j → slot_at ranges k ≡ s → (range_at ranges k).end.0 ≤ t

-- row j is of slot s, and its range ends by the time t
pub record Past (ranges : List ℕ) (n s t j : ℕ) : Type 0 where
  pub below : j < n
  pub has : slot_at ranges j ≡ s
  pub ended : (range_at ranges j).end.0 ≤ t

-- beside row h stands a row of its list, or none
pub record Kept (ranges : List ℕ) (n : ℕ) (kept : List ℕ) : Type 0 where
  pub a_row_each : n ≤ length kept
  pub in_list : (h : ℕ) → h < n → get_or kept h 0 < n → slot_at ranges (get_or kept h 0) ≡ slot_at ranges h
