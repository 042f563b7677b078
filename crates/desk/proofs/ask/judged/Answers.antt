-- `desk::ask::judged` meets its contract.
-- Assumes nothing.
use Rattle.desk.proofs.AskCode.{judged_asked, judged_bad}
use Rattle.desk.proofs.ask.judged.Goals as goal

pub returns-then-is_good_ask-is_good_excluded : goal.returns-then-is_good_ask-is_good_excluded
returns-then-is_good_ask-is_good_excluded c =
    judged_asked _ _ _ _ _ c.ask_of-ask.ensures c.is_good_ask.ensures c.is_good_excluded.ensures c.if-is_good_ask-is_good_excluded.true

pub returns-else-is_good_ask-is_good_excluded : goal.returns-else-is_good_ask-is_good_excluded
returns-else-is_good_ask-is_good_excluded c =
    judged_bad _ _ _ _ _ c.ask_of-ask.ensures c.is_good_ask.ensures c.is_good_excluded.ensures c.if-is_good_ask-is_good_excluded.false
