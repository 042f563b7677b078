-- What is to hold before rows are linked. A reader of the promises may skip it.
--     slots, most_rows      how many slots and rows there are at the most
--     IsPair               both nodes of a row are nodes
--     Linkable             the table has the rows, and the two tables of the lists have room
-- Assumes nothing.
use Rattle.std.specs.Prelude.{List, ◌≡◌, ℕ, ◌*◌, ◌≤◌, ◌<◌, length}
use Rattle.units.specs.Limits.{IsNode}
use Rattle.plan.specs.declared.rows.Span.{Span}
use Rattle.plan.specs.Tables.{words, span_at}

unfoldable pub slots : ℕ
slots = 512

unfoldable pub most_rows : ℕ
most_rows = 512

pub record IsPair (s : Span) : Type 0 where
  pub one_node : IsNode s.one
  pub other_node : IsNode s.other

pub record Linkable (table : List ℕ) (n : ℕ) (heads nexts : List ℕ) : Type 0 where
  pub few : n ≤ most_rows
  pub lent : n * words ≤ length table
  pub a_slot_each : length heads ≡ slots
  pub a_row_each : n ≤ length nexts
  pub pairs : (k : ℕ) → k < n → IsPair (span_at table k)
