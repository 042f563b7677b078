-- `text_lines::line::field_at` meets its contract.
-- Assumes nothing.
use Rattle.text_lines.proofs.LineCode.{field_end, field_none, field_number, field_bad}
use Rattle.text_lines.proofs.line.field_at.Goals as goal

pub returns-then-line-at : goal.returns-then-line-at
returns-then-line-at c = field_none _ _ c.if-line-at.true

pub slice_bounds-digits-end : goal.slice_bounds-digits-end
slice_bounds-digits-end c = field_end _ _ c.if-line-at.false _ c.find-end.ensures

pub returns-then-not-is_number : goal.returns-then-not-is_number
returns-then-not-is_number c =
    field_bad _ _ c.if-line-at.false _ _ c.find-end.ensures c.is_number.ensures c.if-not-is_number.true

pub returns : goal.returns
returns c =
    field_number _ _ c.if-line-at.false _ _ _ c.find-end.ensures c.is_number.ensures c.if-not-is_number.false
    c.value_of-value.ensures
