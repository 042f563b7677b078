-- `desk::answer::line_length` meets its contract.
-- Assumes nothing.
use borrow.Author.Rules.{rules}
use Rattle.units.specs.Limits.{most_chain}
use Rattle.desk.proofs.AnswerCode.{line_counted}
use Rattle.desk.proofs.answer.line_length.Goals as goal

pub fields_length-requires-2 : goal.fields_length-requires-2
unfolding most_chain
fields_length-requires-2 c = search rules

pub overflow_add-result-2 : goal.overflow_add-result-2
unfolding most_chain
overflow_add-result-2 c = search rules

pub overflow_add-result-3 : goal.overflow_add-result-3
unfolding most_chain
overflow_add-result-3 c = search rules

pub returns : goal.returns
returns c = line_counted _ _ _ _ _ c.fields_length.ensures.0 c.fields_length-2.ensures.0
