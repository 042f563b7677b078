-- `desk::through::answer_into` meets its contract: 305 bytes are left, so that the line is not refused.
-- Assumes nothing.
use native.Mathlib.Omega.{arith}
use Rattle.desk.proofs.ThroughCode.{answered_into, never_refused}
use Rattle.desk.proofs.through.answer_into.Goals as goal

pub overflow_add-result : goal.overflow_add-result
overflow_add-result c =
    let at-answer = c.answer_line in
    let answered = answered_into c.args.out.now c.args.used _ _ (omega arith) at-answer.ensures c.in-Ok.is in
    omega (arith, answered.fits)

pub returns : goal.returns
returns c =
    let at-answer = c.answer_line in
    answered_into c.args.out.now c.args.used _ _ (omega arith) at-answer.ensures c.in-Ok.is

pub unreachable-requires : goal.unreachable-requires
unreachable-requires c =
    let at-answer = c.answer_line in
    (never_refused c.args.out.now c.args.used _ _ (omega arith) c.requires at-answer.ensures c.in-Err.is)
