-- `plan_valid::valid::is_plan` meets its contract.
-- Assumes nothing.
use mathlib.Core.Path.{sym, ◌∙◌}
use native.Mathlib.Omega.{arith}
use Rattle.units.specs.Limits.{most_contacts, most_ranges}
use Rattle.plan.specs.RowKinds.{contact_laws, range_laws}
use Rattle.plan.proofs.Verdicts.{restated}
use Rattle.plan_lists.specs.Model.{most_rows}
use Rattle.plan_valid.proofs.PlanCode.{good_spans, rows_lack, has_few, has_lent, not_all_good, table_is, no_first, no_second, plan_tells}
use Rattle.plan_valid.proofs.valid.is_plan.Goals as goal

pub has_rows-requires : goal.has_rows-requires
unfolding most_contacts most_rows
has_rows-requires c = omega arith

pub returns-then-not-has_rows : goal.returns-then-not-has_rows
returns-then-not-has_rows c =
    plan_tells _ _ _ _ _ (no_first (rows_lack _ _ _ _ _ c.has_rows.ensures c.if-not-has_rows.true))

pub has_rows-requires-2 : goal.has_rows-requires-2
unfolding most_ranges most_rows
has_rows-requires-2 c = omega arith

pub returns-then-not-has_rows-2 : goal.returns-then-not-has_rows-2
returns-then-not-has_rows-2 c =
    plan_tells _ _ _ _ _ (no_second (rows_lack _ _ _ _ _ c.has_rows-2.ensures c.if-not-has_rows-2.true))

pub returns-then-not-are_good : goal.returns-then-not-are_good
returns-then-not-are_good c =
    plan_tells _ _ _ _ _ (no_first (not_all_good _ _ _ _ _ _ c.are_good.ensures c.if-not-are_good.true))

pub returns-then-not-are_good-2 : goal.returns-then-not-are_good-2
returns-then-not-are_good-2 c =
    plan_tells _ _ _ _ _ (no_second (not_all_good _ _ _ _ _ _ c.are_good-2.ensures c.if-not-are_good-2.true))

pub are_both_apart-requires : goal.are_both_apart-requires
unfolding most_contacts most_ranges most_rows
are_both_apart-requires c = (
  good_spans _ _ _ _ _ _ contact_laws (has_few c.has_rows.ensures c.if-not-has_rows.false)
      (has_lent c.has_rows.ensures c.if-not-has_rows.false) (sym c.are_good.ensures ∙ c.if-not-are_good.false),
  good_spans _ _ _ _ _ _ range_laws (has_few c.has_rows-2.ensures c.if-not-has_rows-2.false)
      (has_lent c.has_rows-2.ensures c.if-not-has_rows-2.false) (sym c.are_good-2.ensures ∙ c.if-not-are_good-2.false),
)

pub returns : goal.returns
returns c =
    plan_tells _ _ _ _ _
    (restated
    (λ apart. (
      table_is _ _ _ _ _ _ c.are_good.ensures c.has_rows.ensures c.if-not-has_rows.false c.if-not-are_good.false apart.0,
      table_is _ _ _ _ _ _ c.are_good-2.ensures c.has_rows-2.ensures c.if-not-has_rows-2.false c.if-not-are_good-2.false apart.1,
    ))
    (λ tables. (tables.0.apart, tables.1.apart)) c.are_both_apart.ensures)
