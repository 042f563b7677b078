-- `route::asks::answer_all` meets its contract.
-- Assumes nothing.
use Rattle.std.proofs.Common.{arith}
use borrow.Author.Rules.{rules}
use Rattle.units.specs.Limits.{most_text}
use Rattle.route.specs.Receipts.{too_long, to_its_end}
use Rattle.route.proofs.asks.answer_all.Goals as goal

pub returns-then-input-gt-MOST_TEXT : goal.returns-then-input-gt-MOST_TEXT
unfolding most_text
returns-then-input-gt-MOST_TEXT g c = too_long (omega arith) c.refuse.ensures

pub answer_each-requires : goal.answer_each-requires
unfolding most_text
answer_each-requires g c = search rules

pub returns : goal.returns
unfolding most_text
returns g c = to_its_end c.if-input-gt-MOST_TEXT.false c.answer_each.ensures
