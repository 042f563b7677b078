-- `search::routing::route_plan` meets its contract.
-- Assumes nothing.
use Rattle.units.specs.Limits.{most_contacts}
use Rattle.plan.proofs.Lent.{contacts_counted}
use Rattle.search.proofs.routing.route_plan.Goals as goal

pub unbooked-service-requires : goal.unbooked-service-requires
unfolding most_contacts
unbooked-service-requires c =
    let few = contacts_counted _ _ _ _ c.args.plan.now.valid in
    (few, few)
