-- `service::tables::ServedPlan::has` meets its contract.
-- Assumes nothing.
use Rattle.service.proofs.HeldLaws.{held_counted}
use Rattle.service.proofs.tables.ServedPlan.has.Goals as goal

pub returns : goal.returns
returns c = rw (held_counted c.args.self.now)
