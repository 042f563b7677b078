-- What the contracts of single steps speak of. A reader of the promises may skip it.
--     Below                what holds of each row below n
--     Starts, GoodSpans    each row starts before it ends; besides, its nodes are nodes, and the rows are there
--     Room                 there are words for the lists of the most rows
--     Listed               a table has n rows, and each has a word for its next one
--     ClearAfter, Apart    no later row overlaps a row; none of the rows overlaps a later one
--     HasRows              a table has the rows that it counts, no more than there may be
--     IsTable              besides, each is good, and none overlaps a later one
-- Assumes nothing.
use Rattle.std.specs.Prelude.{Bool, true, List, ◌≡◌, ℕ, ◌*◌, ◌≤◌, ◌<◌, length}
use Rattle.plan.specs.Model.{each}
use Rattle.plan.specs.Plan.{Overlap}
use Rattle.plan.specs.Tables.{words, span_at, rows_from}
use Rattle.plan_lists.specs.Model.{slots, most_rows, IsPair}

unfoldable pub Below : (ℕ → Type 0) → ℕ → Type 0
Below P n = (k : ℕ) → k < n → P k

unfoldable pub Starts : List ℕ → ℕ → Type 0
unfolding Below
Starts table = Below (λ k. (span_at table k).start.0 < (span_at table k).end.0)

pub record GoodSpans (table : List ℕ) (n : ℕ) : Type 0 where
  pub few : n ≤ most_rows
  pub lent : n * words ≤ length table
  pub starts : Starts table n
  pub pairs : Below (λ k. IsPair (span_at table k)) n

pub record Room (heads nexts : List ℕ) : Type 0 where
  pub a_slot_each : length heads ≡ slots
  pub a_row_each : most_rows ≤ length nexts

pub record Listed (table : List ℕ) (n : ℕ) (nexts : List ℕ) : Type 0 where
  pub lent : n * words ≤ length table
  pub a_row_each : n ≤ length nexts

unfoldable pub ClearAfter : List ℕ → ℕ → ℕ → Type 0
ClearAfter table n i = (j : ℕ) → i < j → j < n → Overlap (span_at table i) (span_at table j) → ⊥

unfoldable pub Apart : List ℕ → ℕ → Type 0
unfolding Below ClearAfter
Apart table n = Below (ClearAfter table n) n

pub record HasRows (most : ℕ) (table : List ℕ) (n : ℕ) : Type 0 where
  pub few : n ≤ most
  pub lent : n * words ≤ length table

pub record IsTable {R : Type 0} (row_at : List ℕ → ℕ → R) (good : R → Bool) (most : ℕ) (table : List ℕ) (n : ℕ) : Type 0 where
  pub few : n ≤ most
  pub lent : n * words ≤ length table
  pub rows_good : each good (rows_from (row_at table) 0 n) ≡ true
  pub apart : Apart table n
