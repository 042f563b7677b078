-- `search_layers::filling::fill` meets its contract.
-- Assumes nothing.
use native.Mathlib.Omega.{arith}
use Rattle.units.specs.Limits.{most_nodes}
use Rattle.plan_lists.specs.Model.{most_rows}
use Rattle.search_layers.proofs.ListedCode.{linkable_from, listed_from}
use Rattle.search_layers.proofs.filling.fill.Goals as goal

pub link_from-requires : goal.link_from-requires
unfolding most_nodes most_rows
link_from-requires c = linkable_from c.args.service.now _ _ (omega arith) (omega arith)

pub invariant_of-net : goal.invariant_of-net
unfolding most_nodes most_rows
invariant_of-net c =
    let linked = c.link_from.ensures in
    record { listed = listed_from c.args.service.now _ _ (omega (arith, linked.1)) (omega (arith, linked.2)) linked.0 }
