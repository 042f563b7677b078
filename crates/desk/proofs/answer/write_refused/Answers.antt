-- `desk::answer::write_refused` meets its contract.
-- Assumes nothing.
use Rattle.desk.specs.Answers.{refused_word}
use Rattle.desk.proofs.AnswerCode.{refused_line}
use Rattle.desk.proofs.answer.write_refused.Goals as goal

pub returns : goal.returns
unfolding refused_word
returns c =
    refused_line _ _ _ _ _ _ c.number-no.ensures c.place-at.ensures c.write_line.ensures
