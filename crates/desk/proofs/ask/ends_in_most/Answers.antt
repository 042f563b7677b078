-- `desk::ask::ends_in_most` meets its contract.
-- Assumes nothing.
use Rattle.desk.specs.AskModel.{most_digits}
use Rattle.desk.proofs.AskCode.{ends_is}
use Rattle.desk.proofs.ask.ends_in_most.Goals as goal

pub returns : goal.returns
unfolding most_digits
returns c = ends_is _ _ _ c.ends_with.ensures.value
