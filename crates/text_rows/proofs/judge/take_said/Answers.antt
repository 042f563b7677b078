-- `text_rows::judge::take_said` meets its contract.
-- Assumes nothing.
use Rattle.std.proofs.lemmas.Result.{err_from_is_err_and}
use Rattle.text_rows.proofs.JudgeCode.{contact_late, contact_faulty, contact_more, range_faulty, range_more, nothing_said, is_line, as_said}
use Rattle.text_rows.proofs.judge.take_said.Goals as goal

pub returns-in_default : goal.returns-in_default
returns-in_default c = as_said _ _ _ _ _ _ _ c.in_default.is (nothing_said _ _ _ _ _)

pub returns-then-counts-gt0 : goal.returns-then-counts-gt0
returns-then-counts-gt0 c =
    as_said _ _ _ _ _ _ _ (is_line c.in-Some.is c.in-Contact.is) (contact_late _ _ _ _ _ _ _ c.if-counts-gt0.true)

pub returns-in_err-contacts-in-Contact : goal.returns-in_err-contacts-in-Contact
returns-in_err-contacts-in-Contact c =
    let p = err_from_is_err_and c.from_residual.result c.from_residual.ensures.1 in
    rw (p.1, p.2)
    (as_said _ _ _ _ _ _ _ (is_line c.in-Some.is c.in-Contact.is)
    (contact_faulty _ _ _ _ _ _ c.if-counts-gt0.false c.in_err-contacts-in-Contact.ensures))

pub returns-in_ok-contacts-in-Contact : goal.returns-in_ok-contacts-in-Contact
returns-in_ok-contacts-in-Contact c =
    as_said _ _ _ _ _ _ _ (is_line c.in-Some.is c.in-Contact.is)
    (contact_more _ _ _ _ _ _ c.if-counts-gt0.false c.in_ok-contacts-in-Contact.ensures c.requires.1)

pub returns-in_err-ranges-in-Range : goal.returns-in_err-ranges-in-Range
returns-in_err-ranges-in-Range c =
    let p = err_from_is_err_and c.from_residual-in_err-ranges-in-Range.result c.from_residual-in_err-ranges-in-Range.ensures.1 in
    rw (p.1, p.2)
    (as_said _ _ _ _ _ _ _ (is_line c.in-Some.is c.in-Range.is) (range_faulty _ _ _ _ _ _ c.in_err-ranges-in-Range.ensures))

pub returns-in_ok-ranges-in-Range : goal.returns-in_ok-ranges-in-Range
returns-in_ok-ranges-in-Range c =
    as_said _ _ _ _ _ _ _ (is_line c.in-Some.is c.in-Range.is)
    (range_more _ _ _ _ _ _ c.in_ok-ranges-in-Range.ensures c.requires.0)
