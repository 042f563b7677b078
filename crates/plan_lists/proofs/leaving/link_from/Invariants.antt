-- `plan_lists::leaving::link_from` meets its contract. The loop's invariant: the contacts from row i on are linked.
-- Assumes nothing.
use Rattle.plan_lists.specs.Leaving.{from_at}
use Rattle.plan_lists.proofs.LinkCode.{LinkedFrom}
use Rattle.plan_lists.proofs.leaving.link_from.Given as goal

abbrev pub invariant-loop-i : goal.invariant-loop-i
invariant-loop-i l = LinkedFrom (from_at l.contacts) l.i l.n l.heads l.nexts
