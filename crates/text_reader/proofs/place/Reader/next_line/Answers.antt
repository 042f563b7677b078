-- `text_reader::place::Reader::next_line` meets its contract.
-- Assumes nothing.
use Rattle.std.proofs.Common.{◌∙◌, arith}
use Rattle.text_reader.proofs.StepCode.{line_fits, line_unended, line_ended}
use Rattle.text_reader.proofs.place.Reader.next_line.Goals as goal

pub overflow_add-self : goal.overflow_add-self
overflow_add-self c = record { fits = omega (arith, line_fits _ _ _ c.self.view_is _ c.find.ensures c.requires, c.self.told.1) }

pub returns-then-self-clause-says : goal.returns-then-self-clause-says
returns-then-self-clause-says c = line_unended _ _ _ c.self.view_is _ c.find.ensures c.requires c.if-self.true

pub returns-clause-says : goal.returns-clause-says
returns-clause-says c = c.said_by.ensures ∙ line_ended _ _ _ c.self.view_is _ c.find.ensures c.if-self.false
