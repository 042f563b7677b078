-- `text_lines::marks::find` meets its contract.
-- Assumes nothing.
use Rattle.text_lines.proofs.BytesCode.{find_behind, find_past}
use Rattle.text_lines.proofs.marks.find.Goals as goal

pub returns-then-s-from : goal.returns-then-s-from
returns-then-s-from c = find_past _ _ _ c.if-s-from.true

pub returns : goal.returns
returns c = find_behind _ _ _ _ c.bytes_before.ensures.count
