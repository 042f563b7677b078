-- `desk::through::answer_lines` meets its contract.
-- Assumes nothing.
use Rattle.std.proofs.Common.{inl, inr}
use Rattle.units.specs.Limits.{most_text}
use Rattle.desk.specs.Through.{not_taken, taken}
use Rattle.desk.proofs.through.answer_lines.Goals as goal

pub returns-then-input-gt-MOST_TEXT : goal.returns-then-input-gt-MOST_TEXT
unfolding most_text
returns-then-input-gt-MOST_TEXT c = not_taken (elim c.then-input-gt-MOST_TEXT.either [ inl h ↦ inl h | inr h ↦ inr h.1 ])

pub answer_while_room-requires : goal.answer_while_room-requires
unfolding most_text
answer_while_room-requires c = (c.if-input-gt-MOST_TEXT.false, c.if-first.false)

pub returns : goal.returns
unfolding most_text
returns c = taken c.if-input-gt-MOST_TEXT.false c.if-first.false c.answer_while_room.ensures
