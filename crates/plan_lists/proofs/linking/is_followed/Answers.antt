-- `plan_lists::linking::is_followed` meets its contract.
-- Assumes nothing.
use mathlib.Core.Path.{◌≡◌}
use lib.Dec.{leb}
use Rattle.std.proofs.Common.{rules}
use Rattle.plan_lists.proofs.LinkCode.{followed_last, followed_tells}
use Rattle.plan_lists.proofs.linking.is_followed.Goals as goal

pub returns-then-n-next : goal.returns-then-n-next
returns-then-n-next c =
    let args = c.args in
    followed_last args.table.now _ args.row _ c.if-n-next.true

pub returns : goal.returns
returns c =
    let args = c.args in
    let told : c.le.result ≡ leb args.row.end.0 c.span_row.result.start.0 = search rules in
    followed_tells args.table.now _ args.row _ c.if-n-next.false _ c.span_row.ensures _ told
