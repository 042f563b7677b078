-- `desk::ask::is_good_excluded` meets its contract.
-- Assumes nothing.
use Rattle.desk.specs.AskModel.{good_excluded}
use Rattle.desk.specs.Asks.{most_excluded}
use Rattle.desk.proofs.ask.is_good_excluded.Goals as goal

pub returns : goal.returns
unfolding good_excluded most_excluded
returns c = rw c.ends_in_most.ensures
