-- `book::places::Place::is_good` meets its contract.
-- Assumes nothing.
use Rattle.std.proofs.Common.{rules, sym, ◌∙◌}
use Rattle.plan.specs.Verdict.{holds}
use Rattle.book.specs.Tables.{free_place}
use Rattle.book.proofs.ValidCode.{open_tells, long_fails, closed_fails}
use Rattle.book.proofs.places.Place.is_good.Goals as goal

pub returns-in-0 : goal.returns-in-0
returns-in-0 c = holds (free_place (sym c.mark.ensures ∙ c.in-0.is))

pub returns-in-Some : goal.returns-in-Some
returns-in-Some c =
    open_tells _ _ _ _ (sym c.mark.ensures ∙ c.in-1.is) _ (rw c.in-Some.ensures.held at c.is_good.ensures)

pub returns-in-None : goal.returns-in-None
returns-in-None c = long_fails _ _ _ _ (sym c.mark.ensures ∙ c.in-1.is) c.in-None.ensures.few

pub returns-in_default : goal.returns-in_default
returns-in_default c = closed_fails _ _ _ _ (λ e. search rules) (λ e. search rules)
