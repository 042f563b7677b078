-- `plan::rows::RangeRow::is_good` meets its contract.
-- Assumes nothing.
use Rattle.std.proofs.Common.{rules}
use Rattle.units.specs.Limits.{last_time, most_light}
use Rattle.plan.proofs.rows.RangeRow.is_good.Goals as goal

pub returns : goal.returns
unfolding last_time most_light
returns c = search rules
