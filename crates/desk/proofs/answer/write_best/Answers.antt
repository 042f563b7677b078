-- `desk::answer::write_best` meets its contract.
-- Assumes nothing.
use Rattle.std.proofs.Common.{arith, length, take, length-take}
use Rattle.units.specs.Limits.{most_chain}
use Rattle.desk.specs.Answers.{route_word}
use Rattle.desk.proofs.AnswerCode.{best_bad, best_written}
use Rattle.desk.proofs.answer.write_best.Goals as goal

pub returns-then-count-gt-MOST_CHAIN : goal.returns-then-count-gt-MOST_CHAIN
unfolding most_chain
returns-then-count-gt-MOST_CHAIN c = best_bad _ _ _ (λ m l. omega (arith, c.then-count-gt-MOST_CHAIN.either))

pub write_line-requires : goal.write_line-requires
unfolding most_chain
write_line-requires c = (omega arith, omega arith, omega (arith, length-take c.args.best.count c.args.chain.now))

pub returns : goal.returns
unfolding most_chain route_word
returns c = best_written _ _ _ c.if-count-gt-MOST_CHAIN.false c.if-chain-count.false _ _ c.write_line.ensures
