-- `plan::rows::ContactRow::MOST` meets its contract.
-- Assumes nothing.
use mathlib.Core.Path.{refl}
use Rattle.units.specs.Limits.{most_contacts}
use Rattle.plan.proofs.rows.ContactRow.MOST.Goals as goal

pub returns : goal.returns
unfolding most_contacts
returns c = refl
