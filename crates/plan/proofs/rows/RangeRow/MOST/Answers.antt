-- `plan::rows::RangeRow::MOST` meets its contract.
-- Assumes nothing.
use mathlib.Core.Path.{refl}
use Rattle.units.specs.Limits.{most_ranges}
use Rattle.plan.proofs.rows.RangeRow.MOST.Goals as goal

pub returns : goal.returns
unfolding most_ranges
returns c = refl
