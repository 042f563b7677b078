-- `text_write::writer::put_plan` meets its contract.
-- Assumes nothing.
use Rattle.std.proofs.Common.{sym, subst}
use Rattle.plan.specs.Plan.{Plan}
use Rattle.text.specs.Rows.{header, contact_word, range_word, render}
use Rattle.text_write.specs.Model.{Wrote}
use Rattle.text_write.proofs.WriteCode.{plan_room, plan_header_room, plan_first_room, plan_second_room, plan_whole}
use Rattle.text_write.proofs.writer.put_plan.Goals as goal

pub put_bytes-first-requires : goal.put_bytes-first-requires
put_bytes-first-requires c = plan_header_room _ _ _ _ _ (plan_room _ c.tables-tables.ensures.same c.requires)

pub put_rows-second-requires : goal.put_rows-second-requires
unfolding header contact_word range_word
put_rows-second-requires c = (
  c.tables-tables.ensures.valid.contacts_lent,
  plan_first_room _ _ _ _ _ (plan_room _ c.tables-tables.ensures.same c.requires) _ _ c.put_bytes-first.auto.out c.put_bytes-first.ensures,
)

pub put_rows-requires : goal.put_rows-requires
unfolding header contact_word range_word
put_rows-requires c = (
  c.tables-tables.ensures.valid.ranges_lent,
  plan_second_room _ _ _ _ _ (plan_room _ c.tables-tables.ensures.same c.requires) _ _ c.put_bytes-first.auto.out c.put_bytes-first.ensures
      _ _ c.put_rows-second.auto.out c.put_rows-second.ensures,
)

pub returns : goal.returns
unfolding header contact_word range_word
returns c =
    subst (λ (p : Plan). Wrote c.args.out.now 0 (render p) c.put_rows.new.out c.put_rows.result) (sym c.tables-tables.ensures.same)
    (plan_whole _ _ _ _ _ (plan_room _ c.tables-tables.ensures.same c.requires) _ _ c.put_bytes-first.auto.out c.put_bytes-first.ensures
    _ _ c.put_rows-second.auto.out c.put_rows-second.ensures _ _ c.put_rows.ensures)
