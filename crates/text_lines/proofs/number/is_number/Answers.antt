-- `text_lines::number::is_number` meets its contract.
-- Assumes nothing.
use Rattle.std.proofs.Common.{◌∙◌}
use Rattle.text_lines.proofs.BytesCode.{number_blank, number_lone, number_is}
use Rattle.text_lines.proofs.number.is_number.Goals as goal

pub returns-in-Some-eq48 : goal.returns-in-Some-eq48
returns-in-Some-eq48 c = number_lone _ _ c.in-Some-eq48.ensures.value c.in-Some-eq48.field-0-test

pub returns-in-Some : goal.returns-in-Some
returns-in-Some c = c.are_digits.ensures ∙ number_is _ _ c.in-Some.ensures.value c.in-Some.field-0-test.1

pub returns-in-None : goal.returns-in-None
returns-in-None c = number_blank _ c.in-None.ensures.value
