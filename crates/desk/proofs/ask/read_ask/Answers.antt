-- `desk::ask::read_ask` meets its contract.
-- Assumes nothing.
use Rattle.std.proofs.Common.{◌≡◌, None, Some, arith}
use Rattle.std.proofs.lemmas.Option.{MatchOption-at_none, MatchOption-at_some}
use Rattle.std.proofs.lemmas.Result.{err_from_is_err_and}
use Rattle.units.specs.declared.Refusal.TheVariants.{AskShape}
use Rattle.desk.proofs.AskCode.{read_bad, read_judged}
use Rattle.desk.proofs.ask.read_ask.Goals as goal

pub returns-in_err-row : goal.returns-in_err-row
returns-in_err-row c =
    let none : c.asked_numbers.result ≡ None = grind arith in
    let p = err_from_is_err_and c.from_residual.result c.from_residual.ensures.1 in
    let why : c.in_err-row.field-0.0 ≡ AskShape c.args.number = grind arith in
    rw (p.1, p.2, why) (read_bad _ _ _ (MatchOption-at_none _ _ none c.asked_numbers.ensures))

pub returns : goal.returns
returns c =
    let some : c.asked_numbers.result ≡ Some c.in_ok-row.row = grind arith in
    let told = MatchOption-at_some _ _ _ some c.asked_numbers.ensures in
    read_judged _ _ _ _ _ told.0 told.1 c.judged.ensures
