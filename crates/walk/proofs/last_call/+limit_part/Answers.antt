-- `walk::last_call::limit_part` meets its contract.
-- Assumes nothing.
use mathlib.Core.Path.{sym, ◌∙◌}
use native.Mathlib.Omega.{arith}
use Rattle.walk.proofs.LastCallCode.{limit_none, limit_part, limit_one, each_front, each_last}
use Rattle.walk.proofs.last_call.+limit_part.Goals as goal

pub returns-in_default : goal.returns-in_default
returns-in_default t c = limit_none _ _ _ _ c.in_default.ensures.cases

pub back_over-before-requires : goal.back_over-before-requires
back_over-before-requires t c = (each_last _ _ _ _ c.in-Some.ensures.cases.0 c.requires.0, c.requires.1)

pub limit_part-requires : goal.limit_part-requires
limit_part-requires t c =
    let parts = c.in-Some.ensures.cases in
    (omega (arith, parts.1), (each_front _ _ _ _ parts.0 c.requires.0, c.requires.1, omega (arith, parts.1, c.requires.2)))

pub returns : goal.returns
returns t c =
    c.limit_part.ensures
    ∙ sym (limit_part _ _ _ _ _ _ _ c.in-Some.ensures.cases.0 (c.back_over-before.ensures ∙ limit_one _ _ _ _))
