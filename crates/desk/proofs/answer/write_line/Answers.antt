-- `desk::answer::write_line` meets its contract.
-- Assumes nothing.
use Rattle.desk.proofs.AnswerCode.{line_short, line_done}
use Rattle.desk.proofs.answer.write_line.Goals as goal

pub returns-then-out-needed : goal.returns-then-out-needed
returns-then-out-needed c = line_short _ _ _ c.line_length-needed.ensures c.if-out-needed.true

pub returns : goal.returns
returns c =
    line_done _ _ _ c.line_length-needed.ensures c.if-out-needed.false _ _ c.put_line.ensures
