-- `desk::answering::answer_line` meets its contract.
-- Assumes nothing.
use Rattle.desk.proofs.AnsweringCode.{asked_answers, refused_answers}
use Rattle.desk.proofs.answering.answer_line.Goals as goal

pub returns-in-Ok : goal.returns-in-Ok
returns-in-Ok c =
    let read = c.read_ask.ensures in
    asked_answers (rw c.in-Ok.is at read) c.answer_ask.ensures

pub returns-in-Err : goal.returns-in-Err
returns-in-Err c =
    let read = c.read_ask.ensures in
    refused_answers (rw c.in-Err.is at read) c.answer_refused.ensures
