-- When an ask is a good one ('Numbers used' of the request).
-- Assumes nothing.
use Rattle.std.specs.Prelude.{◌≤◌}
use Rattle.units.specs.declared.Ask.{Ask}
use Rattle.units.specs.Limits.{IsNode, last_time, most_size}

-- every value of the ask in its range; any exclusion number is
pub record GoodAsk (ask : Ask) : Type 0 where
  pub source_node : IsNode ask.source
  pub destination_node : IsNode ask.destination
  pub time_most : ask.time.0 ≤ last_time
  pub size_least : 1 ≤ ask.size
  pub size_most : ask.size ≤ most_size
  pub deadline_most : ask.deadline.0 ≤ last_time
