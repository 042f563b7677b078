-- `text_write::writer::write` meets its contract.
-- Assumes nothing.
use mathlib.Core.Path.{subst}
use Prim.Native.Nat.{ℕ, ◌≤◌}
use lib.ListN.{length}
use Rattle.std.specs.Prelude.{Ok, Err}
use Rattle.units.specs.declared.Refusal.TheVariants.{ShortOutput}
use Rattle.plan.specs.declared.tables.PlanTables.{PlanTables}
use Rattle.text.specs.Calls.{Writes, no_plan}
use Rattle.text_write.proofs.WriteCode.{write_short, write_done}
use Rattle.text_write.proofs.writer.write.Goals as goal

pub returns-in_default : goal.returns-in_default
returns-in_default c = no_plan c.in_default.ensures

pub returns-then-out-needed : goal.returns-then-out-needed
returns-then-out-needed c =
    subst (λ (t : PlanTables). Writes t.contacts.now t.contact_count t.ranges.now t.range_count c.args.out.now (Err (ShortOutput c.text_length-needed.result)) c.args.out.now) c.in-Some.ensures
    (write_short _ _ _ _ _ c.in-Some.plan.valid _ c.text_length-needed.ensures c.if-out-needed.true)

pub put_plan-requires : goal.put_plan-requires
put_plan-requires c =
    subst (λ (k : ℕ). k ≤ length c.args.out.now) c.text_length-needed.ensures c.if-out-needed.false

pub returns : goal.returns
returns c =
    subst (λ (t : PlanTables). Writes t.contacts.now t.contact_count t.ranges.now t.range_count c.args.out.now (Ok c.text_length-needed.result) c.put_plan.new.out) c.in-Some.ensures
    (write_done _ _ _ _ _ c.in-Some.plan.valid _ c.text_length-needed.ensures c.if-out-needed.false _ _ c.put_plan.ensures)
