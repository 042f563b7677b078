-- `desk::answering::answer_ask` meets its contract.
-- Assumes nothing.
use Rattle.desk.specs.Desk.{places}
use Rattle.desk.proofs.answering.answer_ask.Goals as goal

pub returns : goal.returns
unfolding places
returns c = record {
  answer = _;
  chain = _;
  routes = c.route-answer.ensures;
  writes = c.write_answer.ensures;
}
