-- `plan_lists::linking::link` meets its contract. The loop's invariant: the rows from row i on are linked, and `ordered` tells whether they are in order.
-- Assumes nothing.
use Rattle.plan.specs.Verdict.{Verdict}
use Rattle.plan_lists.specs.Lists.{slot_at}
use Rattle.plan_lists.proofs.LinkCode.{LinkedFrom, OrderedFrom}
use Rattle.plan_lists.proofs.linking.link.Given as goal

abbrev pub invariant-loop-i : goal.invariant-loop-i
invariant-loop-i l = record {
  linked : LinkedFrom (slot_at l.table) l.i l.n l.heads l.nexts;
  in_order : Verdict (OrderedFrom l.table l.n l.nexts l.i) l.ordered;
}
