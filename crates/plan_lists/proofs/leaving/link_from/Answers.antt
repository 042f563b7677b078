-- `plan_lists::leaving::link_from` meets its contract.
-- Assumes nothing.
use mathlib.Core.Path.{◌≡◌}
use native.Mathlib.Omega.{arith}
use Rattle.plan_lists.specs.Model.{most_rows}
use Rattle.plan_lists.proofs.LinkCode.{linked_all}
use Rattle.plan_lists.proofs.leaving.link_from.Goals as goal

pub overflow_cast-n : goal.overflow_cast-n
unfolding most_rows
overflow_cast-n c = record { fits = omega (arith, c.requires.few) }

pub returns : goal.returns
returns c =
    let first : c.loop-i.i ≡ 0 = omega arith in
    (linked_all _ _ _ _ (rw first at c.loop-i.invariant), omega arith, omega arith)
