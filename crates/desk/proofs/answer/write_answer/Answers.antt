-- `desk::answer::write_answer` meets its contract.
-- Assumes nothing.
use Rattle.desk.proofs.AnswerCode.{refused_written, answer_is}
use Rattle.desk.proofs.answer.write_answer.Goals as goal

pub returns-in-Ok : goal.returns-in-Ok
returns-in-Ok c = answer_is _ _ _ _ _ _ c.in-Ok.is c.write_best.ensures

pub returns-in-Err : goal.returns-in-Err
returns-in-Err c =
    answer_is _ _ _ _ _ _ c.in-Err.is
    (refused_written _ _ _ _ _ c.write_refused.ensures)
