-- What the contracts of single steps speak of. A reader of the promises may skip it.
--     NoneKept      no row is kept yet of the walks along the lists
-- Assumes nothing.
use Rattle.std.specs.Prelude.{List, ℕ, ◌≤◌, ◌<◌, length, get_or}
use Rattle.plan_lists.specs.Model.{most_rows}

pub record NoneKept (kept : List ℕ) : Type 0 where
  pub a_row_each : most_rows ≤ length kept
  pub none : (h : ℕ) → h < most_rows → most_rows ≤ get_or kept h 0
