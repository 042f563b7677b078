-- `calls::walks::walk_booked` meets its contract.
-- Assumes nothing.
use Rattle.std.proofs.lemmas.Result.{err_from_is_err_and}
use Rattle.calls.specs.Calls.{stopped, walked}
use Rattle.calls.proofs.BookingLaws.{checked_good, checked_holds}
use Rattle.calls.proofs.CallCode.{call_walked}
use Rattle.calls.proofs.walks.walk_booked.Goals as goal

pub returns-in_err-call : goal.returns-in_err-call
returns-in_err-call c =
    let p = err_from_is_err_and c.from_residual.result c.from_residual.ensures.1 in
    rw (p.1, p.2) (stopped (rw c.in_err-call.was at c.checks.ensures))

pub returns : goal.returns
returns c =
    let all = rw c.in_ok-call.was at c.checks.ensures in
    let good = checked_good all in
    walked good (call_walked (checked_holds all) good c.walk_good.ensures)
