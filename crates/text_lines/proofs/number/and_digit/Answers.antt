-- `text_lines::number::and_digit` meets its contract.
-- Assumes nothing.
use Rattle.std.proofs.Common.{arith}
use Rattle.text.specs.Model.{capped}
use Rattle.text_lines.proofs.number.and_digit.Goals as goal

pub returns : goal.returns
unfolding capped
returns c = omega arith
