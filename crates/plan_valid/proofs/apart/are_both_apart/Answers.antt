-- `plan_valid::apart::are_both_apart` meets its contract.
-- Assumes nothing.
use native.Mathlib.Omega.{arith}
use Rattle.plan_lists.specs.Model.{slots, most_rows}
use Rattle.plan_valid.proofs.ApartCode.{first_fails, second_tells}
use Rattle.plan_valid.proofs.apart.are_both_apart.Goals as goal

pub are_apart-requires : goal.are_apart-requires
unfolding slots most_rows
are_apart-requires c = (c.requires.0, record { a_slot_each = omega arith; a_row_each = omega arith })

pub returns-then-not-are_apart : goal.returns-then-not-are_apart
returns-then-not-are_apart c = first_fails c.are_apart.ensures c.if-not-are_apart.true

pub are_apart-requires-2 : goal.are_apart-requires-2
unfolding slots most_rows
are_apart-requires-2 c = (c.requires.1, record { a_slot_each = omega arith; a_row_each = omega arith })

pub returns : goal.returns
returns c = second_tells c.are_apart.ensures c.if-not-are_apart.false c.are_apart-2.ensures
