-- `calls_book::releasing::release` meets its contract.
-- Assumes nothing.
use mathlib.Core.Logic.{⊎_elim}
use mathlib.Core.Bool.{not}
use mathlib.Core.Path.{sym, ap, ◌∙◌}
use native.Mathlib.Omega.{arith}
use borrow.Author.Tests.{eqb-true, eqb-false}
use Rattle.units.specs.Limits.{most_places}
use Rattle.plan.proofs.Verdicts.{true_holds, false_fails}
use Rattle.book.proofs.PlaceLaws.{place_there}
use Rattle.calls_book.specs.Placing.{no_plan, no_book, not_open}
use Rattle.calls_book.proofs.PlacingCode.{plan_fails, plan_holds, freed_place}
use Rattle.calls_book.proofs.releasing.release.Goals as goal

pub returns-then-is_none : goal.returns-then-is_none
returns-then-is_none c = no_plan (plan_fails c.args.tables _ c.of.ensures (c.is_none.ensures ∙ ap not c.if-is_none.true))

pub returns-then-not-is_book : goal.returns-then-not-is_book
returns-then-not-is_book c =
    no_book (plan_holds c.args.tables _ c.of.ensures (c.is_none.ensures ∙ ap not c.if-is_none.false))
    (false_fails c.is_book.ensures c.if-not-is_book.true)

pub returns-then-place-lt1 : goal.returns-then-place-lt1
unfolding most_places
returns-then-place-lt1 c =
    not_open (plan_holds c.args.tables _ c.of.ensures (c.is_none.ensures ∙ ap not c.if-is_none.false))
    (true_holds c.is_book.ensures c.if-not-is_book.false)
    (λ o. ⊎_elim (λ less. omega (arith, o.least, less)) (λ more. omega (arith, o.most, more.1)) c.then-place-lt1.either)

pub is_open-requires : goal.is_open-requires
unfolding most_places
is_open-requires c = place_there _ _ _ (true_holds c.is_book.ensures c.if-not-is_book.false) _ (omega arith)

pub returns-then-not-is_open : goal.returns-then-not-is_open
returns-then-not-is_open c =
    not_open (plan_holds c.args.tables _ c.of.ensures (c.is_none.ensures ∙ ap not c.if-is_none.false))
    (true_holds c.is_book.ensures c.if-not-is_book.false)
    (λ o. eqb-false _ _ (sym c.is_open.ensures ∙ c.if-not-is_open.true) o.is_open)

pub free-requires : goal.free-requires
unfolding most_places
free-requires c = place_there _ _ _ (true_holds c.is_book.ensures c.if-not-is_book.false) _ (omega arith)

pub returns : goal.returns
unfolding most_places
returns c =
    freed_place _ _ _ _ _ _ (plan_holds c.args.tables _ c.of.ensures (c.is_none.ensures ∙ ap not c.if-is_none.false))
    (true_holds c.is_book.ensures c.if-not-is_book.false) _
    (record { least = omega arith; most = omega arith; is_open = eqb-true _ _ (sym c.is_open.ensures ∙ c.if-not-is_open.false) }) _ c.free.ensures
