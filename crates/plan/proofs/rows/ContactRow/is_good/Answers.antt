-- `plan::rows::ContactRow::is_good` meets its contract.
-- Assumes nothing.
use Rattle.std.proofs.Common.{rules}
use Rattle.units.specs.Limits.{last_time, most_rate}
use Rattle.plan.proofs.rows.ContactRow.is_good.Goals as goal

pub returns : goal.returns
unfolding last_time most_rate
returns c = search rules
